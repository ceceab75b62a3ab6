-- Label sets that tie are one.
use Rattle.std.proofs.Common.{◌∙◌}
use Rattle.std.specs.Cmp.Lexicographic.{texts_ties}
use Rattle.rl_labels.specs.LabelText.{canonical_text}
use Rattle.rl_labels.specs.laws.TextLaws.{label_set_cmp_total, label_set_cmp-IsAntisymmetric}
use Rattle.rl_labels.proofs.Sameness.{same_by_order}
use Rattle.rl_labels.proofs.labels.LabelsSame.is_same.Goals as goal

pub returns : goal.returns
returns c = same_by_order label_set_cmp_total label_set_cmp-IsAntisymmetric c.args.self.now c.args.other.now c.eq.result (c.eq.ensures ∙ texts_ties (canonical_text c.args.self.now) (canonical_text c.args.other.now))
