-- The entries so far are shared.
use Rattle.std.proofs.Common.{◌≡◌, ◌++◌}
use Rattle.rl_session.proofs.asking.share.Given as goal

abbrev pub invariant-loop-entry : goal.invariant-loop-entry
invariant-loop-entry l = record {
  split : l.yielded ++ l.entry-iterator.rest.items ≡ l.fn.entries.items;
  shared : l.shared.items ≡ l.yielded;
}
