-- The labels of a set are in order.
use Rattle.std.proofs.Common.{ap, ◌∙◌}
use Rattle.rl_labels.specs.LabelSet.{are_labels}
use Rattle.rl_labels.proofs.Building.{set_in_order}
use Rattle.rl_labels.proofs.labels.Labels.get.Goals as goal

pub value_by_halves-requires : goal.value_by_halves-requires
value_by_halves-requires c = ap are_labels c.pairs-pairs.ensures ∙ set_in_order c.args.self.now
