-- A selector asks its matchers in two passes.
use Rattle.std.proofs.Common.{◌≡◌, Bool, true, false, not, ◌&&◌, ◌||◌, List, [], ◌∷◌, refl}
use Rattle.rl_labels.specs.LabelSet.{LabelSet}
use Rattle.rl_labels.specs.Operators.{is_by_pattern}
use Rattle.rl_labels.specs.Selects.{accepts, selects, selects_by, compares_so}
use Rattle.rl_labels.specs.declared.matcher.Matcher.{Matcher}

-- a matcher that refuses is one of all
pub one_refuses : (by_pattern : Bool) (matchers : List Matcher) (labels : LabelSet) → selects_by by_pattern matchers labels ≡ false → selects matchers labels ≡ false
one_refuses by_pattern [] labels h = h
one_refuses by_pattern (m ∷ matchers) labels h = at (compares_so by_pattern m) (accepts m labels) (selects_by by_pattern matchers labels) (selects matchers labels) (one_refuses by_pattern matchers labels) h
  where
    at : (asked a some all : Bool) → (some ≡ false → all ≡ false) → ((not asked || a) && some) ≡ false → (a && all) ≡ false
    at asked false some all rest h = refl
    at true true some all rest h = rest h
    at false true some all rest h = rest h

-- where all of the first pass accept, the second decides
pub others_decide : (matchers : List Matcher) (labels : LabelSet) → selects_by false matchers labels ≡ true → selects matchers labels ≡ selects_by true matchers labels
others_decide [] labels h = refl
others_decide (m ∷ matchers) labels h = at (is_by_pattern m.op) (accepts m labels) (selects_by false matchers labels) (selects matchers labels) (selects_by true matchers labels) (others_decide matchers labels) h
  where
    at : (by_pattern a texts all patterns : Bool) → (texts ≡ true → all ≡ patterns) → ((not (not by_pattern) || a) && texts) ≡ true → (a && all) ≡ ((not by_pattern || a) && patterns)
    at true false texts all patterns rest h = refl
    at true true texts all patterns rest h = rest h
    at false true texts all patterns rest h = rest h
    at false false texts all patterns rest h = cc
