-- The books so far.
use Rattle.std.proofs.Common.{◌≡◌, ◌≤◌, length, map, take, vec_capacity, vec_len}
use Rattle.rl_audit.specs.Merged.{evaluation_indices}
use Rattle.rl_audit.proofs.notes.indices_of.Given as goal

abbrev pub invariant-loop-book : goal.invariant-loop-book
invariant-loop-book g l = record {
  evaluations : map (λ own. own.evaluations) l.indices.items ≡ map (λ book. evaluation_indices 0 book.history.items) (take l.book-index l.books);
  items : map (λ own. own.items) l.indices.items ≡ map (λ book. length book.history.items) (take l.book-index l.books);
  count : vec_len l.indices ≡ l.book-index;
  room : length l.books ≤ vec_capacity l.indices;
}
