-- The streams so far are planned.
use Rattle.std.proofs.Common.{◌≡◌, map, take}
use Rattle.std.specs.Map.{values_of}
use Rattle.rl_parts.specs.Rewriting.{PlanView}
use Rattle.rl_parts.specs.StoreUse.{Puts}
use Rattle.rl_streams.specs.Rewritten.{ArePlanned}
use Rattle.rl_streams.proofs.rewriting.plan_all.Given as goal

abbrev pub invariant-loop-position : goal.invariant-loop-position
invariant-loop-position g l = record {
  of : map (λ (plan : PlanView). plan.of) l.plans.items ≡ take l.position (values_of l.streams.entries);
  planned : ArePlanned (g.C.Covers.covers l.covered) l.fn.chunks l.plans.items l.chunks;
  puts : Puts l.fn.chunks l.chunks.next l.chunks;
  faults : l.chunks.seen.faults ≡ l.fn.chunks.seen.faults;
}
