-- Which trees match the empty text.
use Rattle.std.specs.Prelude.{Bool, true, false, ◌&&◌, ◌||◌, [], ◌∷◌}
use Rattle.regex_hir.specs.Looks.{holds}
use Rattle.regex_hir.specs.Re.{Re, empty, literal, byte_in, char_in, look, cat, alt, group, plus}

-- the tree matches the empty text
abbrev pub tree_matches_empty : Re → Bool
tree_matches_empty empty = true
tree_matches_empty (literal []) = true
tree_matches_empty (literal (b ∷ bs)) = false
tree_matches_empty (byte_in rs) = false
tree_matches_empty (char_in rs) = false
tree_matches_empty (look l) = holds l [] 0
tree_matches_empty (cat a b) = tree_matches_empty a && tree_matches_empty b
tree_matches_empty (alt a b) = tree_matches_empty a || tree_matches_empty b
tree_matches_empty (group n a) = tree_matches_empty a
tree_matches_empty (plus greedy a) = tree_matches_empty a
