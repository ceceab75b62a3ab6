-- The text of a repeated line: its number stands for each `{n}`.
use Rattle.std.specs.Prelude.{◌≡◌, ◌≢◌, ℕ, List, [], ◌∷◌, ◌++◌, codes}
use Rattle.std.specs.List.{AllByRecursion}
use Rattle.std.specs.Fmt.{decimal}

-- pieces, and a text between each two
abbrev pub pieces_around : List ℕ → List ℕ → List (List ℕ) → List ℕ
pieces_around text piece [] = piece
pieces_around text piece (next ∷ pieces) = piece ++ (text ++ pieces_around text next pieces)

-- a text stands nowhere in a piece
abbrev pub IsWithout : List ℕ → List ℕ → Type 0
IsWithout text piece = (before after : List ℕ) → piece ≢ before ++ (text ++ after)

-- a text with another one wherever this one stands in it: the pieces around it are the same
pub record IsReplaced (from to old new : List ℕ) : Type 0 where
  pub first : List ℕ
  pub others : List (List ℕ)
  pub old_is : old ≡ pieces_around from first others
  pub new_is : new ≡ pieces_around to first others
  pub all : AllByRecursion (IsWithout from) (first ∷ others)

-- the number stands wherever `{n}` stood
abbrev pub IsNumbered : ℕ → List ℕ → List ℕ → Type 0
IsNumbered number line text = IsReplaced (codes "{n}") (decimal number) line text
