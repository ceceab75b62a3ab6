-- Tests of lists of pairs, as the code makes them.
use Rattle.std.specs.Prelude.{Bool, true, not, ◌&&◌, List, [], ◌∷◌}
use Rattle.std.specs.Ordering.{is_lt, nat_cmp, ordering_then}
use Rattle.std.specs.Cmp.Lexicographic.{slice_cmp}
use Rattle.std.specs.declared.cmp.Ordering.{Ordering}
use Rattle.rl_labels.specs.Name.{name_cmp}
use Rattle.rl_labels.specs.LabelSet.{Pair, is_empty}

-- by name, and then by value
abbrev pub pair_cmp : Pair → Pair → Ordering
pair_cmp p q = ordering_then (name_cmp p.0 q.0) (slice_cmp nat_cmp p.1 q.1)

-- each name is below the next
abbrev pub rises : List Pair → Bool
rises [] = true
rises (pair ∷ []) = true
rises (pair ∷ next ∷ pairs) = is_lt (name_cmp pair.0 next.0) && rises (next ∷ pairs)

abbrev pub has_value : Pair → Bool
has_value pair = not (is_empty pair.1)
