-- The sizes so far.
use Rattle.std.proofs.Common.{◌≡◌, ◌≤◌, length, map, take, vec_capacity, vec_len}
use Rattle.rl_audit.proofs.receipts.sizes_of.Given as goal

abbrev pub invariant-loop-own : goal.invariant-loop-own
invariant-loop-own l = record {
  items : l.sizes.items ≡ map length (take l.own-index l.digests);
  count : vec_len l.sizes ≡ l.own-index;
  room : length l.digests ≤ vec_capacity l.sizes;
}
