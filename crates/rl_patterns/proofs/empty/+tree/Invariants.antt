use Rattle.std.proofs.Common.{◌≡◌, map, drop}
use Rattle.regex_hir.specs.Meaning.{meaning, cat_all, alt_all}
use Rattle.rl_patterns.specs.Empty.{tree_matches_empty}
use Rattle.rl_patterns.proofs.empty.+tree.Given as goal

abbrev pub invariant-all_match_empty-loop-part : goal.invariant-all_match_empty-loop-part
invariant-all_match_empty-loop-part l =
    tree_matches_empty (cat_all (map meaning l.parts)) ≡ tree_matches_empty (cat_all (map meaning (drop l.part-index l.parts)))

abbrev pub invariant-any_matches_empty-loop-branch : goal.invariant-any_matches_empty-loop-branch
invariant-any_matches_empty-loop-branch l =
    tree_matches_empty (alt_all (map meaning l.branches)) ≡ tree_matches_empty (alt_all (map meaning (drop l.branch-index l.branches)))
