-- The tree's look-up is that of the map.
use Rattle.std.proofs.Common.{sym, ap, ◌∙◌}
use Rattle.std.specs.FinMap as map
use Rattle.rl_labels.specs.laws.TextLaws.{label_set_cmp_total}
use Rattle.rl_plain.specs.laws.TreeMaps.{get-of_tree}
use Rattle.rl_aggregate.proofs.groups.Groups.get.Goals as goal

pub returns : goal.returns
returns c =
    c.copied.ensures ∙ c.get.ensures.value
    ∙ sym (get-of_tree label_set_cmp_total c.self.inside.by_labels.entries c.args.labels.now)
    ∙ ap (λ m. map.get m c.args.labels.now) c.self.view_is
