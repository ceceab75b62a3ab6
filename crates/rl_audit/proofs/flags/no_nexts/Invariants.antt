-- The columns so far, each from its first index on.
use Rattle.std.proofs.Common.{◌≡◌, ◌≤◌, replicate, vec_capacity, vec_len}
use Rattle.rl_audit.proofs.flags.no_nexts.Given as goal

abbrev pub invariant-loop : goal.invariant-loop
invariant-loop l = record {
  items : l.nexts.items ≡ replicate l.counter 0;
  count : vec_len l.nexts ≡ l.counter;
  room : l.columns ≤ vec_capacity l.nexts;
}
