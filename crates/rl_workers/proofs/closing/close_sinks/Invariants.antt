-- The sinks so far are closed, and those that could not write all are listed.
use Rattle.std.proofs.Common.{◌≡◌, true, ◌+◌, ◌≤◌, ◌++◌, length, take, vec_capacity}
use Rattle.std.specs.List.{AllByRecursion}
use Rattle.rl_world.specs.WorldState.{with_sinks}
use Rattle.rl_workers.specs.Closing.{unclosed_of}
use Rattle.rl_workers.proofs.closing.close_sinks.Given as goal

abbrev pub invariant-loop-sink : goal.invariant-loop-sink
invariant-loop-sink g l = record {
  rest : l.book ≡ with_sinks l.fn.book l.book.sinks;
  count : length l.book.sinks ≡ length l.fn.book.sinks;
  closed : AllByRecursion (λ sink. sink.closed ≡ true) (take l.sink l.book.sinks);
  unclosed : l.unclosed.items ≡ l.fn.unclosed.items ++ unclosed_of l.fn.group 0 (take l.sink l.book.sinks);
  few : length l.unclosed.items ≤ length l.fn.unclosed.items + l.sink;
  capacity : vec_capacity l.unclosed ≡ vec_capacity l.fn.unclosed;
}
