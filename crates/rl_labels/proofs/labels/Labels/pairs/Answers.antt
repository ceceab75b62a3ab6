-- The kept labels are those of their set.
use Rattle.std.proofs.Common.{sym, ap, ◌∙◌}
use Rattle.rl_labels.specs.laws.LabelLaws.{labels_of-label_set_of}
use Rattle.rl_labels.specs.LabelSet.{labels_of}
use Rattle.rl_labels.proofs.labels.Labels.pairs.Goals as goal

pub returns : goal.returns
returns c =
    c.as_slice.ensures ∙ ap (λ p. p.labels) c.get.ensures
    ∙ sym (labels_of-label_set_of _ c.self.invariant.in_order) ∙ ap labels_of c.self.view_is
