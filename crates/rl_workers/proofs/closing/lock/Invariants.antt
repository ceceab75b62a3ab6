-- The shards so far have their locks, and then the books so far.
use Rattle.std.proofs.Common.{◌≡◌, ◌+◌, ◌≤◌, map, length, vec_capacity}
use Rattle.std.specs.Iterator.Adapters.{zip_first, zip_second}
use Rattle.std.specs.List.{AllByRecursion}
use Rattle.std.specs.Vec.Iter.{into_iter_items}
use Rattle.rl_workers.specs.Closing.{IsSeated}
use Rattle.rl_workers.proofs.closing.lock.Given as goal

abbrev pub invariant-loop-shard : goal.invariant-loop-shard
invariant-loop-shard g l =
    let shards = into_iter_items (zip_first l.shard-iterator) in
    let shares = into_iter_items (zip_second l.shard-iterator) in
    record {
      count : length l.desks.items + length shards ≡ length l.fn.unlocked.rooms.shards.items;
      parts : AllByRecursion (λ share. share.parts ≡ 1) shares;
      amounts : map (λ share. share.amount) shares ≡ map (λ shard. length shard.journal) shards;
      room : length l.fn.unlocked.rooms.shards.items ≤ vec_capacity l.desks;
    }

abbrev pub invariant-loop-book : goal.invariant-loop-book
invariant-loop-book g l = record {
  count : length l.seats.items + length l.book-iterator.rest.items ≡ length l.fn.unlocked.rooms.books.items;
  seated : AllByRecursion (IsSeated g.L.Crew.all) l.book-iterator.rest.items;
  room : length l.fn.unlocked.rooms.books.items ≤ vec_capacity l.seats;
}
