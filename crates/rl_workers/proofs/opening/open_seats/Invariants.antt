-- The books so far have their seats.
use Rattle.std.proofs.Common.{◌≡◌, ◌++◌, length}
use Rattle.std.specs.List.{AllByRecursion}
use Rattle.rl_workers.specs.Closing.{IsSeated}
use Rattle.rl_workers.proofs.opening.open_seats.Given as goal

abbrev pub invariant-loop-book : goal.invariant-loop-book
invariant-loop-book g l = record {
  split : l.yielded ++ l.book-iterator.rest.items ≡ l.fn.books.items;
  count : length l.seats.items ≡ length l.yielded;
  seated : AllByRecursion (IsSeated g.L.Crew.all) l.book-iterator.rest.items;
}
