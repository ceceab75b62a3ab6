-- The tree's look-up is that of its labels.
use Rattle.std.proofs.Common.{Some, ap, ◌∙◌}
use Rattle.std.specs.FinMap.Entries.{find}
use Rattle.rl_labels.specs.Name.{name_cmp}
use Rattle.rl_labels.proofs.Trees.{found_in}
use Rattle.rl_labels.proofs.label_tree.LabelTree.get.Goals as goal

pub returns-in-Some : goal.returns-in-Some
returns-in-Some c = ap Some c.as_str.ensures ∙ c.in-Some.ensures.value ∙ found_in c.self.inside.by_name.entries c.args.name.now ∙ ap (find name_cmp c.args.name.now) c.self.view_is

pub returns-in-None : goal.returns-in-None
returns-in-None c = c.in-None.ensures.value ∙ found_in c.self.inside.by_name.entries c.args.name.now ∙ ap (find name_cmp c.args.name.now) c.self.view_is
