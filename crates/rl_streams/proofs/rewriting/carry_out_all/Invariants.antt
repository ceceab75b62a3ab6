-- The plans so far are carried out.
use Rattle.std.proofs.Common.{◌≡◌, ◌++◌, length}
use Rattle.rl_streams.specs.Rewritten.{AreRemoved, numbers_gone, rewritten}
use Rattle.rl_streams.proofs.rewriting.carry_out_all.Given as goal

abbrev pub invariant-loop-plan : goal.invariant-loop-plan
invariant-loop-plan g l = record {
  split : l.yielded ++ l.plan-iterator.rest.items ≡ l.fn.plans.items;
  many : l.position ≡ length l.yielded;
  rows : l.streams.entries ≡ rewritten l.fn.streams.entries l.yielded;
  removed : AreRemoved l.fn.chunks (numbers_gone l.yielded) l.chunks;
}
