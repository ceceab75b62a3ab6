-- The passes so far have a part each, and the others are left.
use Rattle.std.proofs.Common.{◌≡◌, ◌+◌, [], length}
use Rattle.std.specs.List.{AllByRecursion}
use Rattle.rl_workers.specs.Receipts.{PassView}
use Rattle.rl_workers.proofs.opening.open_passes.Given as goal

abbrev pub invariant-loop : goal.invariant-loop
invariant-loop g l = record {
  count : length l.passes.items ≡ l.counter;
  empty : AllByRecursion (λ (pass : PassView). (pass.receipts ≡ []) × (pass.notes ≡ [])) l.passes.items;
  parts : l.left.parts + l.counter ≡ l.callers;
  amount : l.left.amount ≡ 0;
}
