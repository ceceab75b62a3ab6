-- The first rules have their alerts, which are taken one after the other.
use Rattle.std.proofs.Common.{◌≡◌, ◌++◌, length, take}
use Rattle.rl_world.proofs.book.keep_all.Given as goal

abbrev pub invariant-loop-own : goal.invariant-loop-own
invariant-loop-own l = record {
  split : l.yielded ++ l.own-iterator.rest.items ≡ l.fn.alerts.items;
  many : l.index ≡ length l.yielded;
  first : take l.index l.kept ≡ l.yielded;
  each : length l.kept ≡ length l.fn.alerts.items;
}
