-- Which lines a line filter lets pass.
use Rattle.std.specs.Prelude.{ℕ, Bool, not, ◌||◌, ◌==◌, nat_eq, List, [], ◌∷◌, length}
use Rattle.std.specs.List.{starts_with}
use Rattle.rl_patterns.specs.Matching.{has_match}
use Rattle.rl_query.specs.declared.filter.LineFilter.{LineFilter}
use Rattle.rl_query.specs.declared.filter.LineOp.{LineOp}
use Rattle.rl_query.specs.declared.filter.LineOp.TheVariants.{Contains, Lacks, Matches, NotMatches}

-- the text stands somewhere in the line
abbrev pub stands_in : (text line : List ℕ) → Bool
stands_in text [] = length text == 0
stands_in text (byte ∷ bytes) = starts_with nat_eq (byte ∷ bytes) text || stands_in text bytes

-- the operator finds in the line what it looks for
abbrev pub finds : LineOp → (text line : List ℕ) → Bool
finds Contains text line = stands_in text line
finds Lacks text line = not (stands_in text line)
finds Matches text line = has_match text line
finds NotMatches text line = not (has_match text line)

-- the filter lets the line pass
abbrev pub passes : LineFilter → (line : List ℕ) → Bool
passes filter line = finds filter.op filter.text line
