-- The parts so far are planned.
use Rattle.std.proofs.Common.{◌≡◌, length, take}
use Rattle.rl_parts.specs.Rewriting.{AreRewritten, carried}
use Rattle.rl_parts.specs.StoreUse.{Puts}
use Rattle.rl_parts.proofs.plan.plan_parts.Given as goal

abbrev pub invariant-loop-part : goal.invariant-loop-part
invariant-loop-part g l = record {
  rewritten : AreRewritten (g.C.Covers.covers l.covered) l.labels (take l.part-index l.parts) l.fn.chunks (carried (take l.part-index l.parts) l.changes.of_parts.items) l.changes.gone.items l.chunks;
  puts : Puts l.fn.chunks l.chunks.next l.chunks;
  counted : l.chunks.seen.faults ≡ l.fn.chunks.seen.faults;
  many : length l.changes.of_parts.items ≡ l.part-index;
}
