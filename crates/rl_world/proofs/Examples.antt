-- What no run shows: what may not be kept of a shard, what is no offer to sinks, and what turns say of a sink.
use Rattle.std.proofs.Common.{◌≡◌, true, false, List, [], ◌∷◌, None, Some, zip, refl, ap, arith}
use Rattle.std.specs.FinMap.{empty}
use Rattle.rl_aggregate.specs.declared.partial.Partial.{Partial}
use Rattle.rl_rules.specs.declared.evaluation.Evaluation.{Evaluation}
use Rattle.rl_sinks.specs.SinkState.{SinkState}
use Rattle.rl_sinks.specs.declared.sink.SinkKind.TheVariants as sinks
use Rattle.rl_world.specs.Offering.{Offered, AllOffered}
use Rattle.rl_aggregate.specs.Limited.{IsWithin}
use Rattle.rl_world.specs.ShardAnswers.{AreOfOneShard}
use Rattle.rl_world.specs.Listings.{listings, last_listing}
use Rattle.rl_world.specs.declared.step.Step.{Step}
use Rattle.rl_world.specs.declared.step.Step.TheVariants as steps
use Rattle.rl_world.specs.declared.step.Reply.{Reply}
use Rattle.rl_world.specs.declared.step.Reply.TheVariants as replies

not_within_less : IsWithin 1 (record { errors = 2; totals = empty }) → ⊥
not_within_less within = omega (arith, within.counts)

not_of_two_terms : (partial : Partial) → AreOfOneShard 2 (partial ∷ []) → ⊥
not_of_two_terms partial are = omega (arith, are.each)

abbrev fresh : SinkState
fresh = record { kind = sinks.Tail; limit = None; count = 0; kept = []; closed = false; refusals = 0; pumps = 0; failed = false }

-- a sink that is behind has refused
not_left_out : (evaluation : Evaluation) → Offered (evaluation ∷ []) fresh fresh → ⊥
not_left_out evaluation offered = let again : 0 ≡ 1 = ap (λ state. state.refusals) offered.state in omega (arith, again)

none_missing : (evaluations : List Evaluation) → AllOffered evaluations (fresh ∷ []) [] → ⊥
none_missing evaluations offered = offered

-- the commit of another group says nothing, and the last one of the group counts
abbrev turns : Evaluation → List (Step × Reply)
turns evaluation = zip (steps.Commit 0 ∷ steps.Commit 1 ∷ steps.Commit 0 ∷ []) (replies.Committed (record { number = 0; evaluation = evaluation; behind = 0 ∷ [] }) ∷ replies.Committed (record { number = 0; evaluation = evaluation; behind = 1 ∷ [] }) ∷ replies.Committed (record { number = 1; evaluation = evaluation; behind = [] }) ∷ [])

listed : (evaluation : Evaluation) → (listings 0 0 (turns evaluation) ≡ 1) × (listings 0 1 (turns evaluation) ≡ 0) × (last_listing 0 0 (turns evaluation) ≡ Some false) × (last_listing 1 1 (turns evaluation) ≡ Some true) × (last_listing 2 0 (turns evaluation) ≡ None)
listed evaluation = (refl, refl, refl, refl, refl)
