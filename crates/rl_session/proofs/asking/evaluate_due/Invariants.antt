-- The groups so far, and room for those that are left.
use Rattle.std.proofs.Common.{◌+◌, ◌-◌, ◌≤◌, length}
use Rattle.std.specs.Prelude.{vec_len, vec_capacity}
use Rattle.rl_session.specs.Asking.{EvaluatesDue}
use Rattle.rl_session.proofs.asking.evaluate_due.Given as goal

abbrev pub invariant-loop-group : goal.invariant-loop-group
invariant-loop-group g l = record {
  room : vec_len l.results + (length (g.E.Engine.calls.groups l.fn.engine) - l.group) ≤ vec_capacity l.results;
  so_far : EvaluatesDue g.E.Engine.calls l.fn.engine l.now 0 l.group l.results.items l.engine;
}
