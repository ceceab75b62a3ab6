-- The tree puts a label where the labels do.
use Rattle.std.proofs.Common.{ap, ◌∙◌}
use Rattle.std.specs.FinMap.Entries.{put}
use Rattle.rl_labels.specs.Name.{name_cmp}
use Rattle.rl_labels.specs.LabelTrees.{pairs_in}
use Rattle.rl_labels.proofs.Trees.{put_in}
use Rattle.rl_labels.proofs.label_tree.LabelTree.put.Goals as goal

pub returns-clause-put : goal.returns-clause-put
returns-clause-put c =
    ap pairs_in c.in_ok-insert.ensures.entries ∙ put_in c.self.inside.by_name.entries c.in_ok-name.name c.in_ok-value.value
    ∙ (λ i. put name_cmp (c.in_ok-name.ensures.ok i) (c.in_ok-value.ensures i) (c.self.view_is i))
