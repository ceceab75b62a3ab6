-- A caller for each pass so far; then the passes of the callers so far.
use Rattle.std.proofs.Common.{◌≡◌, ◌≤◌, ◌++◌, length, map, vec_capacity}
use Rattle.std.specs.List.{AllZip}
use Rattle.rl_callers.specs.Callers.{listed}
use Rattle.rule_shell.specs.Runs.{IsBegun}
use Rattle.rule_shell.proofs.session.run_passes.Given as goal

abbrev pub invariant-loop-pass : goal.invariant-loop-pass
invariant-loop-pass g l = record {
  split : l.yielded ++ l.pass-iterator.rest.items ≡ l.fn.passes.items;
  count : length l.callers.items ≡ length l.yielded;
  room : length l.fn.passes.items ≤ vec_capacity l.callers;
  begun : AllZip (IsBegun l.fn.pumps l.fn.ruler.shards (map listed l.fn.listings)) l.yielded (map (λ caller. caller.engine) l.callers.items);
}

abbrev pub invariant-loop-caller : goal.invariant-loop-caller
invariant-loop-caller g l = record {
  split : l.yielded ++ l.caller-iterator.rest.items ≡ l.initial.caller-iterator.rest.items;
  left : l.left.items ≡ map (λ caller. caller.engine.engine.engine.pass) l.yielded;
  room : length l.initial.caller-iterator.rest.items ≤ vec_capacity l.left;
}
