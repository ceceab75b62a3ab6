-- The entries of the tree are those of the totals.
use Rattle.std.proofs.Common.{◌≡◌, ◌+◌, ◌-◌, ◌^◌, min, sym, ap, ◌∙◌, arith}
use Rattle.std.specs.FinMap as map
use Rattle.std.specs.List.{sum_by}
use Rattle.rl_aggregate.specs.declared.volume.Volume.{Volume}
use Rattle.rl_labels.specs.LabelSet.{LabelSet}
use Rattle.rl_labels.specs.laws.TextLaws.{label_set_cmp_total, label_set_cmp-IsAntisymmetric}
use Rattle.rl_plain.specs.laws.TreeMaps.{entries-of_tree}
use Rattle.rl_aggregate.proofs.totals.Totals.sum.Goals as goal

pub loop-total-init : goal.loop-total-init
loop-total-init c =
    let es = c.self.inside.by_labels.entries in
    let all : c.into_iter-total-iterator.result ≡ map.entries c.args.self.now =
    c.into_iter-total-iterator.ensures.into_iter_gives ∙ c.iter-total-items.ensures.rest
    ∙ sym (entries-of_tree label_set_cmp_total label_set_cmp-IsAntisymmetric es c.iter-total-items.ensures.ordered) ∙ ap (λ m. map.entries m) c.self.view_is in
    record {
      count = ap (λ left. min (0 + sum_by (λ (entry : LabelSet × Volume). entry.1.count) left) (2 ^ 64 - 1)) all ∙ omega arith;
      bytes = ap (λ left. min (0 + sum_by (λ (entry : LabelSet × Volume). entry.1.bytes) left) (2 ^ 64 - 1)) all ∙ omega arith;
      fits = (omega arith, omega arith);
    }

pub returns-clause-count : goal.returns-clause-count
returns-clause-count c = omega (arith, c.loop-total.invariant.count, c.loop-total.invariant.fits.0, ap (λ left. sum_by (λ (entry : LabelSet × Volume). entry.1.count) left) c.in-None.ensures.steps.0)

pub returns-clause-bytes : goal.returns-clause-bytes
returns-clause-bytes c = omega (arith, c.loop-total.invariant.bytes, c.loop-total.invariant.fits.1, ap (λ left. sum_by (λ (entry : LabelSet × Volume). entry.1.bytes) left) c.in-None.ensures.steps.0)
