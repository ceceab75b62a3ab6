-- The sinks so far were counted.
use Rattle.std.proofs.Common.{◌≡◌, length, take}
use Rattle.std.specs.List.{sum_by}
use Rattle.rl_workers.proofs.closing.room_for_sinks.Given as goal

abbrev pub invariant-loop-book : goal.invariant-loop-book
invariant-loop-book g l = l.count ≡ sum_by (λ book. length book.sinks) (take l.book-index l.books)
