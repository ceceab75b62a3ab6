-- Places that callers claim: each is claimed once and no other, and what a claim says holds.
use Rattle.std.specs.Prelude.{◌≡◌, ◌<◌, ◌==◌, ◌&&◌, ℕ, Bool, List, [], ◌∷◌, map, flat_map, Option, Some, IfSome, slice_get, slice_index_or}
use Rattle.std.specs.List.{count_by, AllByRecursion}

-- a place: a column, as a shard for its journal or a group for its history, and the index in it
abbrev pub Place : Type 0
Place = ℕ × ℕ

-- what stands at a place, if there is such a place
abbrev pub item_at : {X : Type 0} → List (List X) → Place → Option X
item_at columns place = slice_get (slice_index_or columns place.0 []) place.1

abbrev pub is_place : Place → Place → Bool
is_place place other = (place.0 == other.0) && (place.1 == other.1)

-- places rise: in each column each is after those before it
abbrev pub AreRising : List Place → Type 0
AreRising [] = Unit {0}
AreRising (place ∷ places) = AllByRecursion (λ later. later.0 ≡ place.0 → place.1 < later.1) places × AreRising places

-- a claim names a place that there is, and what it says holds of what stands there
pub record IsRight {C X : Type 0} (columns : List (List X)) (named : C → Place) (Says : C → X → Type 0) (claim : C) : Type 0 where
  pub item : X
  pub there : item_at columns (named claim) ≡ Some item
  pub holds : Says claim item

-- all places of columns are claimed by callers: each once and no other, rightly, and by each caller in rising order
pub record AreClaimed {C X : Type 0} (columns : List (List X)) (named : C → Place) (Says : C → X → Type 0) (callers : List (List C)) : Type 0 where
  pub once : (place : Place) → IfSome (item_at columns place) (λ _. count_by (is_place place) (flat_map (map named) callers) ≡ 1)
  pub right : AllByRecursion (AllByRecursion (IsRight columns named Says)) callers
  pub rising : AllByRecursion (λ claims. AreRising (map named claims)) callers
