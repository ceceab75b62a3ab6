-- The sinks of the books so far are closed, and those that could not write all are listed. The other books are as they were.
use Rattle.std.proofs.Common.{◌≡◌, ◌+◌, ◌≤◌, ◌++◌, length, map, take, drop, vec_capacity}
use Rattle.std.specs.List.{sum_by}
use Rattle.rl_workers.specs.Closing.{unclosed_in, without_sinks, AreClosed}
use Rattle.rl_workers.proofs.closing.close_all.Given as goal

abbrev pub invariant-loop-group : goal.invariant-loop-group
invariant-loop-group g l = record {
  same : map without_sinks l.books ≡ map without_sinks l.fn.books;
  closed : AreClosed (take l.group l.books);
  rest : drop l.group l.books ≡ drop l.group l.fn.books;
  unclosed : l.unclosed.items ≡ l.fn.unclosed.items ++ unclosed_in 0 (take l.group l.books);
  room : length l.unclosed.items + sum_by (λ book. length book.sinks) (drop l.group l.fn.books) ≤ vec_capacity l.unclosed;
}
