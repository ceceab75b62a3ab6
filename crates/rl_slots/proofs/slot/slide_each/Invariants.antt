-- The windows so far moved on, and all stand for what they stood for.
use Rattle.std.proofs.Common.{◌≡◌, ℕ, ◌≤◌, ◌+◌, List, drop, map, take}
use Rattle.std.specs.List.{AllByRecursion, sum_by}
use Rattle.rl_labels.specs.declared.entry.Entry.{Entry}
use Rattle.rl_slots.specs.Slots.{key_of, visits_by, visits_of, AreExactIn, ContentsIn, StandIn}
use Rattle.rl_slots.proofs.slot.slide_each.Given as goal

abbrev pub invariant-loop-index : goal.invariant-loop-index
invariant-loop-index l = record {
  stand : (contents : ContentsIn) → StandIn l.initial.windows contents → StandIn l.windows contents;
  ranges : map key_of l.windows ≡ map key_of l.initial.windows;
  most : (most : ℕ) → AllByRecursion (λ it. it.window.most ≡ most) l.initial.windows → AllByRecursion (λ it. it.window.most ≡ most) l.windows;
  moments : AllByRecursion (λ it. it.window.moment ≤ l.t) l.windows;
  moved : AllByRecursion (λ it. it.window.moment ≡ l.t) (take l.index l.windows);
  since : (since : ℕ) → AllByRecursion (λ it. since ≤ it.window.moment) l.initial.windows → AllByRecursion (λ it. since ≤ it.window.moment) l.windows;
  runs : l.meter.runs ≡ l.initial.meter.runs;
  visits : l.meter.visits + visits_of (drop l.index l.windows) l.t ≤ l.initial.meter.visits + visits_of l.initial.windows l.t;
  few : (entries : List Entry) (since : ℕ) → AreExactIn l.initial.windows entries → AllByRecursion (λ it. since ≤ it.window.moment) l.initial.windows
      → l.meter.visits + sum_by (visits_by entries since l.t) (drop l.index (map key_of l.initial.windows)) ≤ l.initial.meter.visits + sum_by (visits_by entries since l.t) (map key_of l.initial.windows);
}
