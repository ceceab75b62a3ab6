-- The tree has an entry for each number.
use Rattle.std.proofs.Common.{sym, ap, ◌∙◌}
use Rattle.std.specs.FinMap as map
use Rattle.std.specs.FinMap.{nat_cmp-IsAntisymmetric}
use Rattle.std.proofs.lemmas.Cmp.{nat_cmp_total}
use Rattle.rl_plain.specs.laws.TreeMaps.{len-of_tree}
use Rattle.rl_deletes.proofs.requests.Requests.len.Goals as goal

pub returns : goal.returns
returns c =
    c.len.ensures.len
    ∙ sym (len-of_tree nat_cmp_total nat_cmp-IsAntisymmetric c.self.inside.requests.entries c.len.ensures.ordered)
    ∙ ap (λ all. map.len all.requests) c.self.view_is
