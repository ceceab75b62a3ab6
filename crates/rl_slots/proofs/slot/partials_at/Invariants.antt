-- What the windows so far have.
use Rattle.std.proofs.Common.{◌≡◌, ℕ, List, length, take}
use Rattle.std.specs.List.{AllByRecursion, AllZip}
use Rattle.rl_labels.specs.declared.entry.Entry.{Entry}
use Rattle.rl_aggregate.specs.Limited.{IsWithin}
use Rattle.rl_slots.specs.Slots.{AreExactIn, ContentsIn, IsPartialAt, IsSumAt, StandIn}
use Rattle.rl_slots.proofs.slot.partials_at.Given as goal

abbrev pub invariant-loop-index : goal.invariant-loop-index
invariant-loop-index l = record {
  each : length l.partials.items ≡ l.index-index;
  partials : (entries : List Entry) → AreExactIn l.fn.windows entries → AllZip (IsPartialAt l.fn.windows entries l.fn.t) (take l.index-index l.indices) l.partials.items;
  sums : (contents : ContentsIn) → StandIn l.fn.windows contents → AllZip (IsSumAt l.fn.windows l.fn.t contents) (take l.index-index l.indices) l.partials.items;
  within : (most : ℕ) → AllByRecursion (λ it. it.window.most ≡ most) l.fn.windows → AllByRecursion (IsWithin most) l.partials.items;
  same : l.windows ≡ l.fn.windows;
}
