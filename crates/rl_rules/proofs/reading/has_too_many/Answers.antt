-- The groups are few, and the rules of each are counted.
use Rattle.std.proofs.Common.{nat_lt, length, sym, ◌∙◌, rules, tests}
use Rattle.std.proofs.lemmas.Iterator.{YieldsList-from_slice}
use Rattle.std.proofs.lemmas.Iterator.Search.{any_from_yields_List}
use Rattle.rl_rules.specs.Document.{most_rules}
use Rattle.rl_rules.proofs.Named.{too_many}
use Rattle.rl_rules.proofs.reading.has_too_many.Goals as goal

pub returns-else-groups-gt-MOST_GROUPS : goal.returns-else-groups-gt-MOST_GROUPS
returns-else-groups-gt-MOST_GROUPS c =
    any_from_yields_List (λ group. nat_lt most_rules (length group.rules)) _ _ c.any.result c.any.ensures.ran (YieldsList-from_slice c.args.groups.now cc) (λ x b q k. search (rules, tests))
    ∙ sym (too_many c.args.groups.now c.if-groups-gt-MOST_GROUPS.false)
