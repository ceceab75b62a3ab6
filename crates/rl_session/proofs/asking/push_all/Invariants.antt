-- The answers so far are to the entries so far, and there is room for the others.
use Rattle.std.proofs.Common.{◌≡◌, ◌+◌, ◌≤◌, ◌++◌, length, vec_len, vec_capacity}
use Rattle.rl_session.specs.Asking.{PushesAll}
use Rattle.rl_session.proofs.asking.push_all.Given as goal

abbrev pub invariant-loop-entry : goal.invariant-loop-entry
invariant-loop-entry g l = record {
  split : l.yielded ++ l.entry-iterator.rest.items ≡ l.fn.entries.items;
  room : vec_len l.answers + length l.entry-iterator.rest.items ≤ vec_capacity l.answers;
  so_far : PushesAll g.E.Engine.calls l.fn.engine l.yielded l.answers.items l.engine;
}
