-- What is removed was hidden.
use Rattle.std.proofs.Common.{◌≡◌, Bor, Option, None, Some, Result, Ok, Err, sym, ap, ◌∙◌}
use Rattle.std.specs.Option.{option_map}
use Rattle.std.specs.Prelude.{MatchResult}
use Rattle.rl_deletes.specs.Deletes.{covers_one, process_fault, processed, RequestsView}
use Rattle.rl_deletes.specs.declared.fault.ProcessFault.{ProcessFault}
use Rattle.rl_deletes.specs.declared.request.Request.{Request}
use Rattle.rl_shard.specs.ShardStep.{left_of, processed_if, removed_if}
use Rattle.rl_shard.proofs.Right.{right_processed}
use Rattle.rl_shard.proofs.parts.ShardParts.process.Goals as goal

-- what is due is processed
ended : (old new : RequestsView) (after : RequestsView) (fault : Option ProcessFault) (result : Result (Unit {0}) ProcessFault) → fault ≡ None → MatchResult result (λ _. (fault ≡ None) × (new ≡ after)) (λ other. (fault ≡ Some other) × (new ≡ old)) → new ≡ after
ended old new after fault (Ok _) none is = is.1
ended old new after fault (Err other) none is = absurd (apart (sym none ∙ is.0))
  where
    apart : {other : ProcessFault} → None ≡ Some other → ⊥
    apart h = cc

pub invariant_of-self-2 : goal.invariant_of-self-2
invariant_of-self-2 g c =
    let old = c.self.inside.streams in
    let requests = c.self.inside.requests in
    let due = c.in-Ok-Some.ensures in
    let kept = c.in_ok-rewrite-in-Ok-Some.ensures in
    let fault = process_fault requests c.args.id c.args.now in
    let after = ended requests c.process.new.self (processed requests c.args.id) fault c.process.result due.0 c.process.ensures in (
      kept.numbers,
      right_processed old c.rewrite.new.self requests c.process.new.self c.self.inside.horizon c.args.id c.args.now c.self.inside.slots kept.rewritten.limits kept.rewritten.honest
          (after ∙ ap (λ f. processed_if f requests c.args.id) (sym due.0))
          (λ honest. kept.right honest ∙ ap (λ (f : Option (Bor Request)). left_of (option_map covers_one (option_map (λ (active : Bor Request). active.now) f)) old.held) (sym c.in-Ok-Some.field-0-is) ∙ ap (λ r. left_of (option_map covers_one r) old.held) due.1 ∙ ap (λ f. left_of (removed_if f requests c.args.id) old.held) (sym due.0))
          c.self.invariant.1,
    )
