-- The shards so far, none of which was asked.
use Rattle.std.proofs.Common.{◌≡◌, replicate, None}
use Rattle.rl_world.proofs.book.no_answers.Given as goal

abbrev pub invariant-loop : goal.invariant-loop
invariant-loop l = l.answers.items ≡ replicate l.counter None
