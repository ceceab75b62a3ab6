-- What is printed of a range in brackets is derived.
use Rattle.std.proofs.Common.{◌≡◌, ℕ, ◌+◌, ◌-◌, ◌*◌, ◌/◌, ◌%◌, ◌^◌, ◌<◌, ◌≤◌, List, [], ◌∷◌, ◌++◌, Some, None, refl, ap, ◌∙◌, arith, append_assoc}
use Rattle.std.specs.Fmt.{decimal}
use Rattle.std.proofs.lemmas.Fmt.{decimal_by_steps}
use Rattle.rl_query.specs.declared.token.Sign.TheVariants as signs
use Rattle.rl_query.specs.declared.token.Token.TheVariants as tokens
use Rattle.rl_query.specs.Durations.{duration_from, duration_of}
use Rattle.rl_query.specs.Limits.{longest_range}
use Rattle.rl_query_text.specs.RangeGrammar.{IsDuration}
use Rattle.rl_selector_text.proofs.QuantityTokens.{whole_then}
use Rattle.rl_selector_text.proofs.Printed.{Prints, digit, done, lone, prints_as, spaced, token_then}

-- the digits of a number, read as seconds
decimal_reads : (n : ℕ) → n < 2 ^ 64 → (rest : List ℕ) → duration_from 0 None (decimal n ++ rest) ≡ duration_from 0 (Some n) rest
decimal_reads = decimal_by_steps (λ n ds. (rest : List ℕ) → duration_from 0 None (ds ++ rest) ≡ duration_from 0 (Some n) rest)
    (λ n small rest. let less : 48 + n - 48 ≡ n = omega arith in rw (digit n small, less) refl)
    (λ n ds many read rest.
    let same : 10 * (n / 10) + (48 + n % 10 - 48) ≡ n = omega arith in
    rw (append_assoc ds ((48 + n % 10) ∷ []) rest, read ((48 + n % 10) ∷ rest), digit (n % 10) (omega arith), same) refl)

pub duration_prints : (n : ℕ) (rest : List ℕ) → (1 ≤ n) × (n ≤ longest_range) → Prints (IsDuration n) (32 ∷ 91 ∷ (decimal n ++ 115 ∷ 93 ∷ rest)) rest
duration_prints n rest in_range =
    let close = token_then (tokens.Sign signs.CloseBracket) rest (lone 93 _ refl (λ _. refl) rest) done in
    let number = token_then (tokens.Number (decimal n ++ 115 ∷ [])) (93 ∷ rest) (whole_then n (115 ∷ []) (omega arith) refl, refl) close in
    let same : n * 1 + 0 ≡ n = omega arith in
    let read : duration_of (decimal n ++ 115 ∷ []) ≡ Some n = decimal_reads n (omega arith) (115 ∷ []) ∙ ap (λ k. Some k) same in
    prints_as (spaced (token_then (tokens.Sign signs.OpenBracket) _ (lone 91 _ refl (λ _. refl) _) (rw (append_assoc (decimal n) (115 ∷ []) (93 ∷ rest)) at number)))
    (λ a b stand. record { duration = _; stand = stand; read = read; in_range = in_range })
