-- What it means that a pattern matches a whole value: its own meaning leads from the value's start to its end.
use Rattle.std.specs.Prelude.{◌≡◌, ◌↔◌, ℕ, true, List, length, is_some, option_and_then, IsUtf8}
use Rattle.std.proofs.Common.{sym, ap, ◌∙◌}
use Rattle.regex.specs.Patterns.{Re, Matches, Start, End, look, cat, find_str}
use Rattle.regex.proofs.ForCallers.{whole_of_is_match, is_match_of_whole, is_match_alike}
use Rattle.regex.proofs.OnLiterals.{same_refl, ◌then◌, cat_cong, cat-empty, alt-fail}
use Rattle.regex_syntax.proofs.LikenessLaws.{alike_of_same}
use Rattle.regex_syntax.specs.Same.{SameTree}
use Rattle.rl_patterns.specs.laws.Utf8.{utf8_bytes}
use Rattle.rl_patterns.specs.Matching.{has_match, matches_whole, anchored, WrapsAs}

anchored_is : (re : Re) → SameTree (anchored re) (cat (look Start) (cat re (look End)))
anchored_is re = alt-fail _ then cat_cong (same_refl _) (cat_cong (same_refl _) (cat-empty _))

-- a pattern matches exactly the values that its meaning matches from the start to the end
pub matches_whole-Matches : (pattern value : List ℕ) (re : Re) → WrapsAs pattern re → IsUtf8 value →
    (matches_whole pattern value ≡ true) ↔ Matches value re 0 (length value)
unfolding matches_whole has_match
matches_whole-Matches pattern value re wraps utf8 =
    let same : matches_whole pattern value ≡ is_some (find_str (cat (look Start) (cat re (look End))) value 0) =
    ap (λ found. is_some (option_and_then (λ tree. find_str tree value 0) found)) wraps
    ∙ is_match_alike (alike_of_same (anchored_is re)).captures value (utf8_bytes value utf8) true 0 in (
      λ matches. whole_of_is_match re value (sym same ∙ matches),
      λ whole. same ∙ is_match_of_whole re value utf8 whole,
    )
