-- Entries that tie are one.
use Rattle.std.proofs.Common.{rules, ◌∙◌}
use Rattle.std.specs.Cmp.Rules.{comparing}
use Rattle.rl_labels.specs.laws.OrderLaws.{entry_cmp_total, entry_cmp-IsAntisymmetric}
use Rattle.rl_labels.proofs.Sameness.{same_by_order}
use Rattle.rl_labels.proofs.entry.EntrySame.is_same.Goals as goal

pub returns : goal.returns
returns c = same_by_order entry_cmp_total entry_cmp-IsAntisymmetric c.args.self.now c.args.other.now c.eq.result (c.eq.ensures ∙ search (comparing, rules))
