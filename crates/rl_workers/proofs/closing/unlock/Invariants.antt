-- The shards so far are without their locks, and then the books so far. There is room for the locks.
use Rattle.std.proofs.Common.{◌≡◌, ◌+◌, ◌≤◌, map, length, vec_len, vec_capacity}
use Rattle.std.specs.List.{AllByRecursion}
use Rattle.rl_workers.specs.Closing.{IsSeated}
use Rattle.rl_workers.proofs.closing.unlock.Given as goal

abbrev pub invariant-loop-desk : goal.invariant-loop-desk
invariant-loop-desk g l = record {
  count : length l.rooms.shards.items + length l.desk-iterator.rest.items ≡ l.fn.ruler.shards;
  shares : length l.rooms.shares.items ≡ length l.rooms.shards.items;
  parts : AllByRecursion (λ share. share.parts ≡ 1) l.rooms.shares.items;
  amounts : map (λ share. share.amount) l.rooms.shares.items ≡ map (λ shard. length shard.journal) l.rooms.shards.items;
  room : (l.fn.ruler.shards ≤ vec_capacity l.rooms.shards) × (l.fn.ruler.shards ≤ vec_capacity l.rooms.shares);
  desks : (vec_len l.rooms.desks ≡ 0) × (l.fn.ruler.shards ≤ vec_capacity l.rooms.desks);
  seats : (vec_len l.rooms.seats ≡ 0) × (l.fn.ruler.groups ≤ vec_capacity l.rooms.seats);
  books : (length l.rooms.books.items ≡ 0) × (l.fn.ruler.groups ≤ vec_capacity l.rooms.books);
}

abbrev pub invariant-loop-seat : goal.invariant-loop-seat
invariant-loop-seat g l = record {
  count : length l.rooms.books.items + length l.seat-iterator.rest.items ≡ l.fn.ruler.groups;
  seated : AllByRecursion (IsSeated g.L.Crew.all) l.rooms.books.items;
  room : l.fn.ruler.groups ≤ vec_capacity l.rooms.books;
  desks : (vec_len l.rooms.desks ≡ 0) × (l.fn.ruler.shards ≤ vec_capacity l.rooms.desks);
  seats : (vec_len l.rooms.seats ≡ 0) × (l.fn.ruler.groups ≤ vec_capacity l.rooms.seats);
  parts : AllByRecursion (λ share. share.parts ≡ 1) l.rooms.shares.items;
  amounts : map (λ share. share.amount) l.rooms.shares.items ≡ map (λ shard. length shard.journal) l.rooms.shards.items;
  shards : length l.rooms.shards.items ≡ l.fn.ruler.shards;
}
