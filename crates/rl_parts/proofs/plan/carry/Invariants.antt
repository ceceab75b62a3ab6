-- What is left so far and what the other parts leave is all, and there is room for it.
use Rattle.std.proofs.Common.{◌≡◌, ◌+◌, ◌≤◌, ◌++◌, length, vec_len, vec_capacity}
use Rattle.rl_parts.specs.Rewriting.{carried}
use Rattle.rl_parts.proofs.plan.carry.Given as goal

abbrev pub invariant-loop-part : goal.invariant-loop-part
invariant-loop-part l = record {
  all : l.left.items ++ carried l.part-iterator.rest.items l.rest.rest.items ≡ carried l.fn.parts.items l.fn.changes.items;
  room : vec_len l.left + length l.part-iterator.rest.items ≤ vec_capacity l.left;
}
