-- What a target was given while there is more to put.
use Rattle.std.proofs.Common.{◌≡◌, ℕ, List, [], ◌++◌, Option, None, Some, sym, ap, ◌∙◌, append_assoc, append-nil}
use Rattle.std.specs.Prelude.{⊤}
use Rattle.std.specs.Io.KnownBytes.{Appends}

-- known bytes grew so far that with the rest they will have grown by all
abbrev pub Puts : Option (List ℕ) → Option (List ℕ) → List ℕ → List ℕ → Type 0
Puts None new all rest = ⊤
Puts (Some xs) None all rest = ⊥
Puts (Some xs) (Some ys) all rest = ys ++ rest ≡ xs ++ all

-- nothing was put yet
pub Puts-none : (o : Option (List ℕ)) (all rest : List ℕ) → rest ≡ all → Puts o o all rest
Puts-none None all rest same = tt
Puts-none (Some xs) all rest same = ap (λ l. xs ++ l) same

-- one piece more
pub Puts-step : (o m n : Option (List ℕ)) (all piece rest : List ℕ) → Puts o m all (piece ++ rest) → Appends m n piece → Puts o n all rest
Puts-step None m n all piece rest p a = tt
Puts-step (Some xs) None n all piece rest p a = absurd p
Puts-step (Some xs) (Some ys) None all piece rest p a = absurd a
Puts-step (Some xs) (Some ys) (Some zs) all piece rest p a = ap (λ l. l ++ rest) a ∙ append_assoc ys piece rest ∙ p

-- all was put
pub Puts-all : (o n : Option (List ℕ)) (all : List ℕ) → Puts o n all [] → Appends o n all
Puts-all None n all p = tt
Puts-all (Some xs) None all p = absurd p
Puts-all (Some xs) (Some ys) all p = sym (append-nil ys) ∙ p
