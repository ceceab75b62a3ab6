-- An answer of a whole comparison is what the pattern means.
use Rattle.std.specs.Prelude.{◌≡◌, ◌↔◌, ℕ, Bool, true, List, length, Result, Ok, Err, IfOk, IsUtf8}
use Rattle.std.proofs.Common.{sym, subst}
use Rattle.regex.specs.Patterns.{Re, Matches}
use Rattle.rl_patterns.specs.Matching.{matches_whole, WrapsAs}
use Rattle.rl_patterns.specs.laws.Wholes.{matches_whole-Matches}

pub as_meant : {E : Type 0} (answer : Result Bool E) (pattern value : List ℕ) → IsUtf8 value →
    IfOk answer (λ a. a ≡ matches_whole pattern value) →
    IfOk answer (λ a. (re : Re) → WrapsAs pattern re → ((a ≡ true) ↔ Matches value re 0 (length value)))
as_meant (Ok a) pattern value utf8 is = λ re wraps. subst (λ b. (b ≡ true) ↔ Matches value re 0 (length value)) (sym is) (matches_whole-Matches pattern value re wraps utf8)
as_meant (Err e) pattern value utf8 is = tt
