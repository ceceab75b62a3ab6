-- The places of the shards so far that were asked.
use Rattle.std.proofs.Common.{◌≡◌, take, map, flat_map, option_to_list}
use Rattle.rl_world.proofs.evaluating.places.Given as goal

abbrev pub invariant-loop-shard_answer : goal.invariant-loop-shard_answer
invariant-loop-shard_answer l = l.places.items ≡ map (λ answer. answer.place) (flat_map option_to_list (take l.shard_answer-index l.answers))
