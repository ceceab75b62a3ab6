-- One book more, and at the end all.
use Rattle.std.proofs.Common.{map, subst, arith}
use Rattle.std.specs.List.{AllByRecursion}
use Rattle.std.specs.Iterator.Adapters.{zip_first, zip_second}
use Rattle.std.specs.Vec.Iter.{into_iter_items}
use Rattle.rl_world.specs.BookCalls.{books_from, IsFresh}
use Rattle.rl_world.proofs.Opening.{books-end, books-more}
use Rattle.rl_world.proofs.world.open_books.Goals as goal

pub loop-group-preserved : goal.loop-group-preserved
loop-group-preserved g c =
    let all = books_from 0 c.args.records c.args.shards c.args.groups.items (map (λ own. map g.S.Sink.state own.items) c.args.sinks.items) in
    let groups = into_iter_items (zip_first c.loop-group.group-iterator) in
    let sinks = into_iter_items (zip_second c.loop-group.group-iterator) in
    let groups_left = into_iter_items (zip_first c.next.new.self) in
    let sinks_left = into_iter_items (zip_second c.next.new.self) in
    let step = c.in-Some.ensures.steps in
    record {
      books = books-more (λ own. map g.S.Sink.state own.items) c.args.records c.args.shards c.len-slot.result all c.loop-group.books.items c.push.new.self.items c.in-Some.group groups groups_left c.in-Some.own sinks sinks_left c.in_ok-book.book
          step.0.0 step.1.0 (omega (arith, c.len-slot.ensures, c.loop-group.books.ok.0)) c.in_ok-book.ensures c.in_ok-push.ensures.items c.loop-group.invariant.books;
      fresh = (subst (AllByRecursion (λ own. AllByRecursion IsFresh (map g.S.Sink.state own.items))) step.1.0 c.loop-group.invariant.fresh).1;
    }

pub returns : goal.returns
returns g c =
    let all = books_from 0 c.args.records c.args.shards c.args.groups.items (map (λ own. map g.S.Sink.state own.items) c.args.sinks.items) in
    let left = c.loop-group.group-iterator in
    books-end (λ own. map g.S.Sink.state own.items) c.args.records c.args.shards all c.loop-group.books.items (zip_first left) (zip_second left) c.in-None.ensures.steps c.loop-group.invariant.books
