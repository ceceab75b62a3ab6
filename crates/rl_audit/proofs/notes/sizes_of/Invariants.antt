-- The sizes so far.
use Rattle.std.proofs.Common.{◌≡◌, ◌≤◌, length, map, take, vec_capacity, vec_len}
use Rattle.rl_audit.proofs.notes.sizes_of.Given as goal

abbrev pub invariant-loop-own : goal.invariant-loop-own
invariant-loop-own l = record {
  items : l.sizes.items ≡ map (λ own. own.items) (take l.own-index l.indices);
  count : vec_len l.sizes ≡ l.own-index;
  room : length l.indices ≤ vec_capacity l.sizes;
}
