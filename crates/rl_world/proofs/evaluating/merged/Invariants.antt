-- What is left is merged into the sum so far.
use Rattle.std.specs.Option.{unwrap_or}
use Rattle.rl_world.specs.Kept.{no_partial}
use Rattle.rl_world.proofs.Merging.{IsSumBefore}
use Rattle.rl_world.proofs.evaluating.merged.Given as goal

abbrev pub invariant-loop-shard_answer : goal.invariant-loop-shard_answer
invariant-loop-shard_answer l = IsSumBefore l.term l.answers l.shard_answer-index (unwrap_or l.sum no_partial)
