-- The digests are those of the journals.
use Rattle.std.proofs.Common.{◌≡◌, ℕ, List, map, subst, ◌∙◌}
use Rattle.std.proofs.lemmas.Result.{on_ok_weaker}
use Rattle.rl_records.specs.RecordBytes.{digest_of}
use Rattle.rl_records.specs.declared.record.Record.{Record}
use Rattle.rl_audit.specs.Claims.{AreClaimed}
use Rattle.rl_audit.specs.Merged.{place_of, HasDigest, IsOf}
use Rattle.rl_audit.proofs.Claiming.{claimed_of}
use Rattle.rl_audit.proofs.receipts.audit_receipts.Goals as goal

pub returns-clause-merged : goal.returns-clause-merged
returns-clause-merged g c =
    let journals : List (List Record) = map (λ shard. shard.journal) c.args.shards.now in
    let callers = map g.C.Carrier.receipts c.args.callers.now in
    let digests : c.deref.result.now ≡ map (map digest_of) journals = c.deref.ensures.value ∙ c.in_ok-digests.ensures.digests in
    on_ok_weaker c.audit_digests.result
    (λ claimed. claimed_of digest_of journals place_of HasDigest IsOf (λ receipt it has. has) callers (subst (λ (digests : List (List (List ℕ))). AreClaimed digests place_of IsOf callers) digests claimed))
    c.audit_digests.ensures
