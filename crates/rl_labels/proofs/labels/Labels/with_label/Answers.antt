-- The labels are those of the set, overridden.
use Rattle.std.proofs.Common.{ap, ◌∙◌}
use Rattle.rl_labels.specs.LabelSet.{override}
use Rattle.rl_labels.proofs.Overrides.{override_labels, override_set}
use Rattle.rl_labels.proofs.labels.Labels.with_label.Goals as goal

pub from_labels-requires : goal.from_labels-requires
from_labels-requires c = override_labels c.args.self.now c.args.name.now c.args.value.now _ c.requires (c.in_ok-labels.ensures ∙ ap (override c.args.name.now c.args.value.now) c.pairs.ensures)

pub returns : goal.returns
returns c = c.in_ok-made.ensures ∙ override_set c.args.self.now c.args.name.now c.args.value.now _ c.requires (c.in_ok-labels.ensures ∙ ap (override c.args.name.now c.args.value.now) c.pairs.ensures)
