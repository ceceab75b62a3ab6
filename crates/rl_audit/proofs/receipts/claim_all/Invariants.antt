-- The receipts so far claimed their places, and are right.
use Rattle.std.proofs.Common.{◌≡◌, [], List, length, map, take}
use Rattle.std.specs.List.{AllByRecursion}
use Rattle.rl_audit.specs.Claims.{IsRight, Place}
use Rattle.rl_audit.specs.Flagged.{StandFor}
use Rattle.rl_audit.specs.Merged.{place_of, IsOf}
use Rattle.rl_audit.proofs.receipts.claim_all.Given as goal

abbrev pub invariant-loop-receipt : goal.invariant-loop-receipt
invariant-loop-receipt l = record {
  sizes : map length l.flags.flags.items ≡ map length l.fn.flags.flags.items;
  claimed : (before : List Place) → StandFor l.fn.flags.flags.items l.fn.flags.nexts before [] → StandFor l.flags.flags.items l.flags.nexts before (map place_of (take l.receipt-index l.receipts));
  right : AllByRecursion (IsRight l.digests place_of IsOf) (take l.receipt-index l.receipts);
}
