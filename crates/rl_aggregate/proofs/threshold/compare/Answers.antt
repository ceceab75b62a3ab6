-- A sample that passes goes to the front.
use Rattle.std.proofs.Common.{ℕ, sym, ap, arith, ◌∙◌}
use Rattle.std.proofs.lemmas.List.Filters.{FiltersInPlace-more_swap, FiltersInPlace-more_no}
use Rattle.rl_aggregate.specs.Ratios.{passes}
use Rattle.rl_aggregate.proofs.threshold.compare.Goals as goal
use Rattle.rl_aggregate.proofs.threshold.compare.Goals.{then-passes, else-passes}

pub loop-index-preserved : goal.loop-index-preserved
loop-index-preserved c =
    let value = λ (t : ℕ). passes c.args.test.now.comparison t c.index.result.now.value in
    elim c.if-passes.branch [
      | then-passes w ↦ rw (w.samples-is, w.kept-is) (FiltersInPlace-more_swap c.loop-index.invariant (omega arith) (ap value (sym c.millionths-threshold.ensures.value) ∙ sym c.passes.ensures ∙ w.if-passes.true) c.index.ensures w.swap.ensures.by_index)
      | else-passes w ↦ rw (w.samples-is, w.kept-is) (FiltersInPlace-more_no c.loop-index.invariant (omega arith) (ap value (sym c.millionths-threshold.ensures.value) ∙ sym c.passes.ensures ∙ w.if-passes.false) c.index.ensures)
    ]
