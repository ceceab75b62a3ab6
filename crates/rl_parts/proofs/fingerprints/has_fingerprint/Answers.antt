-- The fingerprints rise, so a search by halves decides.
use Rattle.std.proofs.Common.{sym, subst}
use Rattle.std.specs.Prelude.{IsTrue, ◌↔◌}
use Rattle.std.specs.List.{Contains}
use Rattle.rl_parts.proofs.Fingerprinted.{found_by_search}
use Rattle.rl_parts.proofs.fingerprints.has_fingerprint.Goals as goal

pub returns : goal.returns
returns c = subst (λ found. IsTrue found ↔ Contains c.args.fingerprints.now c.args.fingerprint) (sym c.is_ok.ensures.value) (found_by_search c.args.fingerprints.now c.args.fingerprint c.binary_search.result c.requires c.binary_search.ensures.position)
