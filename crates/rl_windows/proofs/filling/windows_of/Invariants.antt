-- The windows so far.
use Rattle.std.proofs.Common.{◌≡◌, ◌++◌, map}
use Rattle.rl_windows.proofs.filling.windows_of.Given as goal

abbrev pub invariant-loop-filling : goal.invariant-loop-filling
invariant-loop-filling l = record {
  split : l.yielded ++ l.filling-iterator.rest.items ≡ l.fn.each.items;
  windows : l.windows.items ≡ map (λ filling. filling.window) l.yielded;
}
