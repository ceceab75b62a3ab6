-- The books so far, and the books of what is left, are those of all.
use Rattle.std.proofs.Common.{◌≡◌, ◌++◌, map, length}
use Rattle.std.specs.List.{AllByRecursion}
use Rattle.std.specs.Iterator.Adapters.{zip_first, zip_second}
use Rattle.std.specs.Vec.Iter.{into_iter_items}
use Rattle.rl_world.specs.BookCalls.{books_from, IsFresh}
use Rattle.rl_world.proofs.world.open_books.Given as goal

abbrev pub invariant-loop-group : goal.invariant-loop-group
invariant-loop-group g l =
    let groups = into_iter_items (zip_first l.group-iterator) in
    let sinks = into_iter_items (zip_second l.group-iterator) in
    record {
      books : l.books.items ++ books_from (length l.books.items) l.fn.records l.fn.shards groups (map (λ own. map g.S.Sink.state own.items) sinks) ≡ books_from 0 l.fn.records l.fn.shards l.fn.groups.items (map (λ own. map g.S.Sink.state own.items) l.fn.sinks.items);
      fresh : AllByRecursion (λ own. AllByRecursion IsFresh (map g.S.Sink.state own.items)) sinks;
    }
