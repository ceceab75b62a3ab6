-- The places so far, none of which is claimed.
use Rattle.std.proofs.Common.{◌≡◌, ◌≤◌, false, replicate, vec_capacity, vec_len}
use Rattle.rl_audit.proofs.flags.unset.Given as goal

abbrev pub invariant-loop : goal.invariant-loop
invariant-loop l = record {
  items : l.flags.items ≡ replicate l.counter false;
  count : vec_len l.flags ≡ l.counter;
  room : l.places ≤ vec_capacity l.flags;
}
