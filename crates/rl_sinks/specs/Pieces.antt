-- What a sink writes, piece by piece: its texts, and the last line.
use Rattle.std.specs.Prelude.{◌≡◌, ℕ, Bool, true, false, List, [], ◌∷◌, ◌++◌, ◌<◌, ◌≤◌, ◌⊎◌, length, drop, slice_index_or, Option, codes}
use Rattle.std.specs.List.{flat_map}
use Rattle.std.specs.Fmt.{decimal}
use Rattle.std.specs.Io.KnownBytes.{Appends}

-- the parts of the last line, # end n
abbrev pub end_pieces : ℕ → List (List ℕ)
end_pieces count = codes "# end " ∷ decimal count ∷ codes "\n" ∷ []

-- texts, and after them the last line of a sink that has taken `count` texts, where it is wanted
abbrev pub pieces : Bool → List (List ℕ) → ℕ → List (List ℕ)
pieces false texts count = texts
pieces true texts count = texts ++ end_pieces count

-- what is left of pieces after the first ones and a part of the next
abbrev pub rest_of : List (List ℕ) → ℕ → ℕ → List ℕ
rest_of all next part = drop part (flat_map (λ piece. piece) (drop next all))

-- the start of a piece or a byte inside it, or the end of all
pub record IsPosition (all : List (List ℕ)) (next part : ℕ) : Type 0 where
  pub within : next ≤ length all
  pub fits : (part ≡ 0) ⊎ (part < length (slice_index_or all next []))

-- a front of what was to be written is written, and the rest is left
abbrev pub Writes : Option (List ℕ) → Option (List ℕ) → List ℕ → List ℕ → Type 0
Writes old new before after = (front : List ℕ) × (before ≡ front ++ after) × Appends old new front
