-- The kept text is that of the labels, which are those of the set.
use Rattle.std.proofs.Common.{sym, ap, ◌∙◌}
use Rattle.rl_labels.specs.laws.LabelLaws.{labels_of-label_set_of}
use Rattle.rl_labels.specs.LabelText.{canonical_text, labels_text}
use Rattle.rl_labels.proofs.labels.Labels.as_text.Goals as goal

pub returns : goal.returns
unfolding canonical_text
returns c =
    c.as_str.ensures ∙ ap (λ p. p.text) c.get.ensures ∙ c.self.invariant.text_is
    ∙ ap labels_text (sym (labels_of-label_set_of _ c.self.invariant.in_order))
    ∙ ap canonical_text c.self.view_is
