-- The labels of a sample's group make its label set again.
use Rattle.std.proofs.Common.{◌≡◌, IfOk, sym, ap, subst, ◌∙◌}
use Rattle.std.specs.List.{filter}
use Rattle.rl_labels.specs.LabelSet.{label_set_of}
use Rattle.rl_labels.proofs.Building.{set_again}
use Rattle.rl_aggregate.specs.Grouping.{is_grouping_label}
use Rattle.rl_aggregate.proofs.group_labels.group_of.Goals as goal

pub returns-then-are_of_group : goal.returns-then-are_of_group
returns-then-are_of_group c =
    let kept = filter (λ pair. is_grouping_label c.args.grouping.now pair.0) in
    let same = sym c.pairs.ensures ∙ c.are_of_group.ensures c.if-are_of_group.true ∙ ap kept c.pairs-2.ensures in
    let made = sym (set_again c.args.other.now) ∙ ap label_set_of same in
    subst (λ set. IfOk c.try_copy.result (λ copy. copy ≡ set)) made c.try_copy.ensures
