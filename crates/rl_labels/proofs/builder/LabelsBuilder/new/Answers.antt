-- The labels are those of the set.
use Rattle.std.proofs.Common.{◌++◌, ap, ◌∙◌}
use Rattle.rl_labels.specs.LabelSet.{are_labels, label_set_of}
use Rattle.rl_labels.proofs.Building.{set_in_order, set_again}
use Rattle.rl_labels.proofs.builder.LabelsBuilder.new.Goals as goal

pub invariant_of-result : goal.invariant_of-result
invariant_of-result c = ap are_labels (c.in_ok-push_copies.ensures ∙ (λ i. c.in_ok-labels.ensures.items i ++ c.pairs-pairs.ensures i)) ∙ set_in_order c.args.set.now

pub returns : goal.returns
returns c = ap label_set_of (c.in_ok-push_copies.ensures ∙ (λ i. c.in_ok-labels.ensures.items i ++ c.pairs-pairs.ensures i)) ∙ set_again c.args.set.now
