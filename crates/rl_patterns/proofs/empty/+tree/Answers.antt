use Rattle.std.proofs.Common.{sym, ◌∙◌}
use Rattle.regex_hir.proofs.MeaningLemmas.{meaning-Repetition}
use Rattle.rl_patterns.proofs.Emptiness.{repeat_none, repeat_some}
use Rattle.rl_patterns.proofs.empty.+tree.Goals as goal

pub tree_matches_empty-returns-then-min-eq0 : goal.tree_matches_empty-returns-then-min-eq0
tree_matches_empty-returns-then-min-eq0 t c =
    rw (c.in-Repetition.is, meaning-Repetition, c.if-min-eq0.true) (sym (repeat_none _ _ _))

pub tree_matches_empty-returns-else-min-eq0 : goal.tree_matches_empty-returns-else-min-eq0
tree_matches_empty-returns-else-min-eq0 t c =
    rw (c.in-Repetition.is, meaning-Repetition)
    (rw c.deref.ensures at c.tree_matches_empty.ensures ∙ sym (repeat_some _ _ _ _ c.if-min-eq0.false))
