-- The tree has at the label set what it had there and the total.
use Rattle.std.proofs.Common.{◌≡◌, sym, ap, ◌∙◌, arith}
use Rattle.std.proofs.lemmas.Result.{on_ok_weaker, on_err_weaker}
use Rattle.std.specs.BTreeMap.{is_at}
use Rattle.std.specs.Map.{lookup}
use Rattle.std.specs.Option.{unwrap_or}
use Rattle.rl_labels.specs.LabelText.{label_set_cmp}
use Rattle.rl_labels.specs.laws.TextLaws.{label_set_cmp_total, label_set_cmp-IsAntisymmetric}
use Rattle.rl_aggregate.specs.TotalsMap.{no_total, total_at}
use Rattle.rl_aggregate.specs.declared.volume.Volume.{Volume}
use Rattle.rl_aggregate.specs.laws.Trees.{one_added, total_at-of_tree}
use Rattle.rl_aggregate.proofs.Maps.{totals_in}
use Rattle.rl_aggregate.proofs.totals.Totals.add_owned.Goals as goal

pub add_at-requires : goal.add_at-requires
add_at-requires c =
    let there : total_at c.args.self.now c.args.labels ≡ unwrap_or (lookup (is_at (label_set_cmp c.args.labels)) c.self.inside.by_labels.entries) no_total = ap (λ m. total_at m c.args.labels) (sym c.self.view_is) ∙ total_at-of_tree label_set_cmp_total c.self.inside.by_labels.entries c.args.labels in (
      omega (arith, c.requires.0, ap (λ (t : Volume). t.count) there),
      omega (arith, c.requires.1, ap (λ (t : Volume). t.bytes) there),
    )

pub returns-clause-ok : goal.returns-clause-ok
returns-clause-ok c = on_ok_weaker c.add_at.result (λ answers. one_added label_set_cmp_total label_set_cmp-IsAntisymmetric c.args.self.now c.self.inside.by_labels.entries c.add_at.new.by_labels.entries c.args.labels c.args.total c.self.view_is answers) c.add_at.ensures.ok

pub returns-clause-err : goal.returns-clause-err
returns-clause-err c = on_err_weaker c.add_at.result (λ same. ap totals_in same ∙ c.self.view_is) c.add_at.ensures.err
