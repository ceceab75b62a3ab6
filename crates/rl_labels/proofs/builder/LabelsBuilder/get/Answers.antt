-- The labels' look-up is that of the set.
use Rattle.std.proofs.Common.{sym, ap, ◌∙◌}
use Rattle.std.specs.FinMap.Entries.{find}
use Rattle.rl_labels.specs.Name.{name_cmp}
use Rattle.rl_labels.specs.LabelSet.{label}
use Rattle.rl_labels.specs.Growing.{labels_in}
use Rattle.rl_labels.proofs.Building.{label_in}
use Rattle.rl_labels.proofs.builder.LabelsBuilder.get.Goals as goal

pub returns-in-Few : goal.returns-in-Few
returns-in-Few c =
    c.value_in.ensures ∙ ap (find name_cmp c.args.name.now) (c.deref.ensures.value ∙ sym (ap labels_in c.in-Few.is))
    ∙ label_in (labels_in c.self.inside.form) c.self.invariant c.args.name.now ∙ ap (λ s. label s c.args.name.now) c.self.view_is

pub returns-in-Many : goal.returns-in-Many
returns-in-Many c =
    c.get.ensures ∙ ap (find name_cmp c.args.name.now) (sym (ap labels_in c.in-Many.is))
    ∙ label_in (labels_in c.self.inside.form) c.self.invariant c.args.name.now ∙ ap (λ s. label s c.args.name.now) c.self.view_is
