-- The two tests of equal label sets are one.
use Rattle.std.proofs.Common.{Some, sym, ap, ◌∙◌}
use Rattle.std.specs.Option.{option_eq}
use Rattle.std.specs.Ordering.{eq_by_cmp}
use Rattle.rl_labels.specs.LabelText.{label_set_cmp}
use Rattle.rl_aggregate.specs.laws.Totals.{label_set_eq-cmp}
use Rattle.rl_aggregate.proofs.run.Run.has.Goals as goal

pub returns-in-Some : goal.returns-in-Some
returns-in-Some c = c.eq.ensures ∙ label_set_eq-cmp c.args.labels.now c.in-Some.own ∙ ap (option_eq (eq_by_cmp label_set_cmp) (Some c.args.labels.now)) (sym c.in-Some.is)
