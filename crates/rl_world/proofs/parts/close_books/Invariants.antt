-- The sinks of the first books are closed and counted, and the other books are as they were.
use Rattle.std.proofs.Common.{◌≡◌, ◌-◌, ◌^◌, min, take, drop}
use Rattle.std.specs.List.{AllByRecursion, AllZip}
use Rattle.rl_world.specs.Closed.{HasAnswered, IsBookClosed, failures, sinks_of}
use Rattle.rl_world.proofs.parts.close_books.Given as goal

abbrev pub invariant-loop-number : goal.invariant-loop-number
invariant-loop-number g l =
    record {
      closed : AllZip IsBookClosed (take l.number l.fn.books) (take l.number l.books);
      rest : drop l.number l.books ≡ drop l.number l.fn.books;
      counted : l.failed ≡ min (failures (sinks_of (take l.number l.books))) (2 ^ 64 - 1);
      answers : AllByRecursion (HasAnswered g.S.Sink.state g.S.Sink.close_answers) (sinks_of (take l.number l.books));
    }
