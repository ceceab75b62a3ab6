-- A part that a store has has one fingerprint for each entry.
use Rattle.std.proofs.Common.{◌≡◌, length, sym, ap, subst, ◌∙◌}
use Rattle.rl_parts.specs.StreamParts.{PartView}
use Rattle.rl_parts.specs.PartState.{RangeAndFingerprintsAreKept, part_at}
use Rattle.rl_parts.specs.declared.part.Location.TheVariants.{InStore}
use Rattle.rl_parts.proofs.Leaving.{fingerprints_len}
use Rattle.rl_parts.proofs.part.Part.len.Goals as goal

pub returns-in-InStore : goal.returns-in-InStore
returns-in-InStore c =
    let written = c.in-InStore.written in
    let kept = subst RangeAndFingerprintsAreKept c.in-InStore.is c.self.invariant in
    let here : part_at (InStore written) ≡ c.args.self.now = ap part_at (sym c.in-InStore.is) ∙ c.self.view_is in
    c.len-in-InStore.ensures ∙ fingerprints_len written.entries.value written.fingerprints kept.1 ∙ ap (λ (p : PartView). length p.entries) here
