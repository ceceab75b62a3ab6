-- Definitions that no answer of running code shows, computed at values that were worked out by hand.
use Rattle.std.proofs.Common.{◌≡◌, ℕ, List, [], ◌∷◌, map, codes, Option, Some, refl}
use Rattle.rl_query.specs.declared.token.Sign.{Sign}
use Rattle.rl_query.specs.declared.token.Sign.TheVariants as signs
use Rattle.rl_selector_text.specs.Lexing.{sign_at}

-- the longer sign is read, even where a query is refused alike at the shorter one
signs_of_two_bytes : ◌≡◌ {A = List (Option (Sign × List ℕ))} (map sign_at (codes ">=" ∷ codes "<=" ∷ codes "|=" ∷ codes "|~" ∷ codes "|>" ∷ [])) (map (λ sign. Some (sign, [])) (signs.GreaterOrEqual ∷ signs.LessOrEqual ∷ signs.Contains ∷ signs.ContainsMatch ∷ signs.ContainsPattern ∷ []))
signs_of_two_bytes = refl
