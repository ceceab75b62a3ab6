-- The set with one label more is that of its labels with one more.
use Rattle.std.proofs.Common.{ap, ◌∙◌}
use Rattle.rl_labels.specs.LabelSet.{are_labels, label_set_of}
use Rattle.rl_labels.specs.Growing.{labels_in}
use Rattle.rl_labels.proofs.Building.{new_are, new_set}
use Rattle.rl_labels.proofs.builder.LabelsBuilder.add.Goals as goal

pub invariant_of-self : goal.invariant_of-self
invariant_of-self c = ap are_labels c.in_err-add_to.ensures.refused ∙ c.self.invariant

pub invariant_of-self-2 : goal.invariant_of-self-2
invariant_of-self-2 c = ap are_labels c.in_ok-add_to.ensures.added ∙ new_are c.args.name.now c.args.value.now (labels_in c.self.inside.form) c.requires c.self.invariant

pub returns-clause-added : goal.returns-clause-added
returns-clause-added c =
    ap label_set_of c.in_ok-add_to.ensures.added
    ∙ new_set c.args.name.now c.args.value.now (labels_in c.self.inside.form) c.requires c.self.invariant c.args.self.now (c.self.view_is ∙ c.in_ok-make_room.ensures)
