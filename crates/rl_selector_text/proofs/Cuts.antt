-- A text may be cut after spaces and comments.
use Rattle.std.proofs.Common.{◌≡◌, inl, inr, ℕ, zero, suc, ◌+◌, ◌-◌, ◌<◌, ◌≤◌, ◌==◌, Bool, true, false, cond, not, List, [], ◌∷◌, length, get_or, refl, subst, arith, one-add, sub-one}
use Rattle.std.specs.Str.{IsUtf8, IsCharBoundary}
use Rattle.std.proofs.lemmas.Bool.Decides.{nat_tests}
use Rattle.std.proofs.lemmas.Bool.{eqb-true, cases_lt, cond_both}
use Rattle.std.proofs.lemmas.Str.{IsCharBoundary-end}
use Rattle.rl_plain.specs.laws.Cuts.{rest_ascii}
use Rattle.rl_selector_text.specs.Lexing.{is_space, gap_len}

-- a gap does not end past the text, and where it ends inside it, it ends after an ASCII byte
abbrev GapEnds : List ℕ → ℕ → Type 0
GapEnds bytes n = (n ≤ length bytes) × (0 < n → n < length bytes → get_or bytes (n - 1) 0 < 128)

gap_step : (b : ℕ) (bytes : List ℕ) (m : ℕ) → (m ≡ 0 → m < length bytes → b < 128) → GapEnds bytes m → GapEnds (b ∷ bytes) (1 + m)
gap_step b bytes zero ends more = (omega arith, λ _ inside. ends refl (omega (arith, inside)))
gap_step b bytes (suc k) ends more =
    (omega arith, λ _ inside. simp (one-add, sub-one) (simp sub-one at (more.1 (omega arith) (omega (arith, inside)))))

-- a comment that does not reach the end of the text ends at a line feed
line_end : (b : ℕ) (bytes : List ℕ) (t : Bool) → (b == 10) ≡ t → gap_len (not t) bytes ≡ 0 → gap_len (not t) bytes < length bytes → b < 128
line_end b bytes true line ends inside = omega (arith, eqb-true b 10 line)
line_end b [] false line ends inside = absurd (omega arith)
line_end b (x ∷ bytes) false line ends inside = absurd (omega arith)

gap_ends : (comment : Bool) (bytes : List ℕ) → GapEnds bytes (gap_len comment bytes)
gap_ends comment [] = (omega arith, λ some _. absurd (omega (arith, some)))
gap_ends true (b ∷ bytes) = gap_step b bytes (gap_len (not (b == 10)) bytes) (line_end b bytes (b == 10) refl) (gap_ends (not (b == 10)) bytes)
gap_ends false (b ∷ bytes) =
    cond_both (is_space b) (1 + gap_len false bytes) (cond (b == 35) (1 + gap_len true bytes) 0) (GapEnds (b ∷ bytes)) (λ space. gap_step b bytes (gap_len false bytes) (λ _ _. grind (arith, nat_tests, space)) (gap_ends false bytes))
    (λ _. cond_both (b == 35) (1 + gap_len true bytes) 0 (GapEnds (b ∷ bytes))
    (λ hash. gap_step b bytes (gap_len true bytes) (λ _ _. omega (arith, eqb-true b 35 hash)) (gap_ends true bytes)) (λ _. (omega arith, λ some _. absurd (omega (arith, some)))))

-- after spaces and comments
pub gap_boundary : (bytes : List ℕ) → IsUtf8 bytes → IsCharBoundary bytes (gap_len false bytes)
gap_boundary bytes utf8 =
    let ends = gap_ends false bytes in
    elim (cases_lt (gap_len false bytes) (length bytes)) [
      | inl inside ↦ rest_ascii bytes (gap_len false bytes) utf8 ends.0 (λ some. ends.1 some inside)
      | inr past ↦ let whole : length bytes ≡ gap_len false bytes = omega (arith, ends.0) in subst (IsCharBoundary bytes) whole (IsCharBoundary-end bytes)
    ]
