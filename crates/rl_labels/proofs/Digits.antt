-- The texts of decimals, step by step.
use Rattle.std.proofs.Common.{◌≡◌, ℕ, zero, suc, ◌+◌, ◌-◌, ◌/◌, ◌%◌, [], ◌∷◌, ◌++◌, refl, sym, ap, ◌∙◌, arith}
use Rattle.std.proofs.lemmas.Fmt.{decimal_digit}
use Rattle.std.specs.Fmt.{decimal}
use Rattle.rl_labels.specs.QuantityTexts.{digits_text}

-- the last digit stands after the others
pub last_digit : (k n : ℕ) → (k ≡ 0 → ⊥) → digits_text k n ≡ digits_text (k - 1) (n / 10) ++ decimal (n % 10)
last_digit zero n some = absurd (some refl)
last_digit (suc k) n some =
    let before : k ≡ suc k - 1 = omega arith in
    ap (λ j. digits_text j (n / 10) ++ (48 + n % 10) ∷ []) before ∙ ap (λ t. digits_text (suc k - 1) (n / 10) ++ t) (sym (decimal_digit (n % 10) (omega arith)))
