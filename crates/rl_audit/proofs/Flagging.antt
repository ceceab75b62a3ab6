-- What a claim makes of flags.
use Rattle.std.proofs.Common.{◌≡◌, ◌≢◌, ℕ, zero, suc, ◌+◌, ◌<◌, ◌≤◌, Bool, true, false, cond, not, ◌&&◌, List, [], ◌∷◌, ◌++◌, eqb, nat_lt, length, map, replicate, get_or, slice_index_or, slice_set, Option, Some, None, refl, sym, ap, subst, ◌∙◌, arith, append_assoc}
use Rattle.std.specs.Prelude.{slice_get, IfSome}
use Rattle.std.specs.List.{count_by, position, position_or_len, AllByRecursion}
use Rattle.std.proofs.lemmas.Bool.{and_parts, eqb-false, eqb-true, ltb-false}
use Rattle.std.proofs.lemmas.List.{get_or-replicate, length-replicate, get_or-set_other, get_or-set_same}
use Rattle.std.proofs.lemmas.List.Quantifiers.{position-Some}
use Rattle.std.proofs.lemmas.List.Sums.{fails_before_first, sum_by_push}
use Rattle.std.proofs.lemmas.Option.{get_or_from_slice_get, none-some, slice_get-get_or, slice_get_within, IfSome_then}
use Rattle.rl_audit.specs.Claims.{is_place, item_at, AreRising, Place}
use Rattle.rl_audit.specs.Flagged.{StandFor}

-- LISTS

set_own : {X : Type 0} (xs : List X) (i : ℕ) (x y : X) → slice_get xs i ≡ Some x → slice_get (slice_set xs i y) i ≡ Some y
set_own [] i x y there = cc
set_own (z ∷ xs) zero x y there = refl
set_own (z ∷ xs) (suc i) x y there = set_own xs i x y there

set_other : {X : Type 0} (xs : List X) (i j : ℕ) (y : X) → j ≢ i → slice_get (slice_set xs i y) j ≡ slice_get xs j
set_other [] i j y apart = refl
set_other (z ∷ xs) zero zero y apart = absurd (apart refl)
set_other (z ∷ xs) zero (suc j) y apart = refl
set_other (z ∷ xs) (suc i) zero y apart = refl
set_other (z ∷ xs) (suc i) (suc j) y apart = set_other xs i j y (λ same. apart (ap suc same))

-- what follows of each follows of all
pub all_then : {X : Type 0} (P Q : X → Type 0) (xs : List X) → ((x : X) → P x → Q x) → AllByRecursion P xs → AllByRecursion Q xs
all_then P Q [] then all = tt
all_then P Q (x ∷ xs) then all = (then x all.0, all_then P Q xs then all.1)

pub all_more : {X : Type 0} (P : X → Type 0) (xs : List X) (y : X) → AllByRecursion P xs → P y → AllByRecursion P (xs ++ y ∷ [])
all_more P [] y all own = (own, tt)
all_more P (x ∷ xs) y all own = (all.0, all_more P xs y all.1 own)

-- one place more, after all others of its column
rising_more : (places : List Place) (last : Place) → AreRising places → AllByRecursion (λ place. last.0 ≡ place.0 → place.1 < last.1) places → AreRising (places ++ last ∷ [])
rising_more [] last rising after = (tt, tt)
rising_more (place ∷ places) last rising after =
    (all_more (λ later. later.0 ≡ place.0 → place.1 < later.1) places last rising.0 after.0, rising_more places last rising.1 after.1)

-- A CLAIM

module _ (flags : List (List Bool)) (own : List Bool) (column place : ℕ) (there : column < length flags) (own_is : own ≡ get_or flags column []) (free : item_at flags (column, place) ≡ Some false) where
  abbrev claimed : Place
  claimed = (column, place)

  abbrev after : List (List Bool)
  after = slice_set flags column (slice_set own place true)

  item_in : slice_get own place ≡ Some false
  item_in = ap (λ (xs : List Bool). slice_get xs place) own_is ∙ free

  item_own : item_at after claimed ≡ Some true
  item_own = ap (λ (xs : List Bool). slice_get xs place) (get_or-set_same flags column (slice_set own place true) [] there) ∙ set_own own place false true item_in

  item_column : (index : ℕ) → index ≢ place → item_at after (column, index) ≡ item_at flags (column, index)
  item_column index apart =
      ap (λ (xs : List Bool). slice_get xs index) (get_or-set_same flags column (slice_set own place true) [] there)
      ∙ set_other own place index true apart
      ∙ ap (λ (xs : List Bool). slice_get xs index) own_is

  item_other : (other : Place) → other.0 ≢ column → item_at after other ≡ item_at flags other
  item_other other apart = ap (λ (xs : List Bool). slice_get xs other.1) (get_or-set_other flags column other.0 (slice_set own place true) [] apart)

  item_apart : (other : Place) → is_place other claimed ≡ false → item_at after other ≡ item_at flags other
  item_apart other apart = by (eqb other.0 column) refl
    where
      by : (b : Bool) → eqb other.0 column ≡ b → item_at after other ≡ item_at flags other
      by false is = item_other other (eqb-false other.0 column is)
      by true is =
          let same : other.0 ≡ column = eqb-true other.0 column is in
          let differs : eqb other.1 place ≡ false = sym (ap (λ b. b && eqb other.1 place) is) ∙ apart in
          subst (λ c. item_at after (c, other.1) ≡ item_at flags (c, other.1)) (sym same) (item_column other.1 (eqb-false other.1 place differs))

  flagged_more : (before mine : List Place) → ((at : Place) → IfSome (item_at flags at) (λ flag. count_by (is_place at) (before ++ mine) ≡ cond flag 1 0))
      → (at : Place) → IfSome (item_at after at) (λ flag. count_by (is_place at) (before ++ (mine ++ claimed ∷ [])) ≡ cond flag 1 0)
  flagged_more before mine old at = by (is_place at claimed) refl
    where
      counts : count_by (is_place at) (before ++ (mine ++ claimed ∷ [])) ≡ count_by (is_place at) (before ++ mine) + cond (is_place at claimed) 1 0
      counts = ap (count_by (is_place at)) (sym (append_assoc before mine (claimed ∷ []))) ∙ sum_by_push (λ x. cond (is_place at x) 1 0) (before ++ mine) claimed

      by : (b : Bool) → is_place at claimed ≡ b → IfSome (item_at after at) (λ flag. count_by (is_place at) (before ++ (mine ++ claimed ∷ [])) ≡ cond flag 1 0)
      by true is =
          let parts = and_parts (eqb at.0 column) (eqb at.1 place) is in
          let column_is : at.0 ≡ column = eqb-true at.0 column parts.0 in
          let place_is : at.1 ≡ place = eqb-true at.1 place parts.1 in
          let same : at ≡ claimed = λ k. (column_is k, place_is k) in
          let none : count_by (is_place at) (before ++ mine) ≡ 0 = subst (λ item. IfSome item (λ flag. count_by (is_place at) (before ++ mine) ≡ cond flag 1 0)) (ap (item_at flags) same ∙ free) (old at) in
          subst (λ item. IfSome item (λ flag. count_by (is_place at) (before ++ (mine ++ claimed ∷ [])) ≡ cond flag 1 0)) (sym (ap (item_at after) same ∙ item_own))
          (counts ∙ (λ k. none k + cond (is k) 1 0))
      by false is =
          subst (λ item. IfSome item (λ flag. count_by (is_place at) (before ++ (mine ++ claimed ∷ [])) ≡ cond flag 1 0)) (sym (item_apart at is))
          (IfSome_then (item_at flags at) (old at) (λ flag e. counts ∙ (λ k. e k + cond (is k) 1 0) ∙ omega arith))

  module _ (nexts : List ℕ) (within : column < length nexts) (next : slice_index_or nexts column 0 ≤ place) where
    abbrev nexts_after : List ℕ
    nexts_after = slice_set nexts column (place + 1)

    next_own : slice_index_or nexts_after column 0 ≡ place + 1
    next_own = get_or-set_same nexts column (place + 1) 0 within

    next_more : (at : Place) → at.1 < slice_index_or nexts at.0 0 → at.1 < slice_index_or nexts_after at.0 0
    next_more at below = by (eqb at.0 column) refl
      where
        by : (b : Bool) → eqb at.0 column ≡ b → at.1 < slice_index_or nexts_after at.0 0
        by false is = subst (λ n. at.1 < n) (sym (get_or-set_other nexts column at.0 (place + 1) 0 (eqb-false at.0 column is))) below
        by true is =
            let same : at.0 ≡ column = eqb-true at.0 column is in
            let low : at.1 < slice_index_or nexts column 0 = subst (λ c. at.1 < slice_index_or nexts c 0) same below in
            subst (λ c. at.1 < slice_index_or nexts_after c 0) (sym same) (omega (arith, next_own, low, next))

    above : (at : Place) → at.1 < slice_index_or nexts at.0 0 → claimed.0 ≡ at.0 → at.1 < place
    above at below same =
        let low : at.1 < slice_index_or nexts column 0 = subst (λ c. at.1 < slice_index_or nexts c 0) (sym same) below in
        omega (arith, low, next)

    pub stand_claimed : (before mine : List Place) → StandFor flags nexts before mine → StandFor after nexts_after before (mine ++ claimed ∷ [])
    stand_claimed before mine stand = record {
      flagged = flagged_more before mine stand.flagged;
      next = all_more (λ at. at.1 < slice_index_or nexts_after at.0 0) mine claimed
          (all_then (λ at. at.1 < slice_index_or nexts at.0 0) (λ at. at.1 < slice_index_or nexts_after at.0 0) mine next_more stand.next)
          (omega (arith, next_own));
      rising = rising_more mine claimed stand.rising
          (all_then (λ at. at.1 < slice_index_or nexts at.0 0) (λ at. claimed.0 ≡ at.0 → at.1 < place) mine above stand.next);
    }

-- THE END

-- the index of the first that is not claimed
pub first_free : (xs : List Bool) (i : ℕ) → Some i ≡ position not xs → slice_get xs i ≡ Some false
first_free xs i is =
    let found = position-Some not xs i true (sym is) in
    slice_get-get_or xs i true found.0 ∙ ap Some (opposite (get_or xs i true) found.1)
  where
    opposite : (b : Bool) → not b ≡ true → b ≡ false
    opposite true is = sym is
    opposite false is = refl

-- all are claimed
pub none_free : (xs : List Bool) → None ≡ position not xs → (i : ℕ) → IfSome (slice_get xs i) (λ flag. flag ≡ true)
none_free xs is i = by (slice_get xs i) refl
  where
    past : (b : Bool) → nat_lt (position_or_len not xs) (length xs) ≡ b → None ≡ cond b (Some (position_or_len not xs)) None → length xs ≤ position_or_len not xs
    past true is none = absurd (none-some (position_or_len not xs) none)
    past false is none = ltb-false (position_or_len not xs) (length xs) is

    opposite : (b : Bool) → not b ≡ false → b ≡ true
    opposite true is = refl
    opposite false is = sym is

    by : (found : Option Bool) → slice_get xs i ≡ found → IfSome found (λ flag. flag ≡ true)
    by None there = tt
    by (Some flag) there =
        let low : i < length xs = slice_get_within xs i flag there in
        let all : length xs ≤ position_or_len not xs = past (nat_lt (position_or_len not xs) (length xs)) refl is in
        sym (get_or_from_slice_get xs i flag true there) ∙ opposite (get_or xs i true) (fails_before_first not xs i true (omega (arith, low, all)))

-- one column more is claimed
pub claimed_more : (flags : List (List Bool)) (n : ℕ) (own : List Bool) → own ≡ get_or flags n [] → ((i : ℕ) → IfSome (slice_get own i) (λ flag. flag ≡ true)) → ((place : Place) → place.0 < n → IfSome (item_at flags place) (λ flag. flag ≡ true))
    → (place : Place) → place.0 < n + 1 → IfSome (item_at flags place) (λ flag. flag ≡ true)
claimed_more flags n own own_is whole all place below = by (eqb place.0 n) refl
  where
    by : (b : Bool) → eqb place.0 n ≡ b → IfSome (item_at flags place) (λ flag. flag ≡ true)
    by false is = let apart = eqb-false place.0 n is in all place (omega (arith, apart, below))
    by true is =
        subst (λ c. IfSome (item_at flags (c, place.1)) (λ flag. flag ≡ true)) (sym (eqb-true place.0 n is))
        (subst (λ xs. IfSome (slice_get xs place.1) (λ flag. flag ≡ true)) own_is (whole place.1))

-- THE BEGINNING

-- columns of sizes, no place of which is claimed
abbrev pub unclaimed_of : List ℕ → List (List Bool)
unclaimed_of sizes = map (λ size. replicate size false) sizes

pub sizes_unclaimed : (sizes : List ℕ) → map length (unclaimed_of sizes) ≡ sizes
sizes_unclaimed [] = refl
sizes_unclaimed (size ∷ sizes) = λ k. length-replicate size false k ∷ sizes_unclaimed sizes k

pub stand_fresh : (sizes nexts : List ℕ) → StandFor (unclaimed_of sizes) nexts [] []
stand_fresh sizes nexts = record {
  flagged = λ place. in_columns sizes place.0 place.1;
  next = tt;
  rising = tt;
}
  where
    in_column : (size place : ℕ) → IfSome (slice_get (replicate size false) place) (λ flag. ◌≡◌ {A = ℕ} 0 (cond flag 1 0))
    in_column size place = by (slice_get (replicate size false) place) refl
      where
        by : (found : Option Bool) → slice_get (replicate size false) place ≡ found → IfSome found (λ flag. ◌≡◌ {A = ℕ} 0 (cond flag 1 0))
        by None there = tt
        by (Some flag) there =
            let less : place < size = omega (arith, slice_get_within (replicate size false) place flag there, length-replicate size false) in
            let is : flag ≡ false = sym (get_or_from_slice_get (replicate size false) place flag false there) ∙ get_or-replicate size place false false less in
            ap (λ b. cond b 1 0) (sym is)

    in_columns : (sizes : List ℕ) (column place : ℕ) → IfSome (slice_get (slice_index_or (unclaimed_of sizes) column []) place) (λ flag. ◌≡◌ {A = ℕ} 0 (cond flag 1 0))
    in_columns [] column place = tt
    in_columns (size ∷ sizes) zero place = in_column size place
    in_columns (size ∷ sizes) (suc column) place = in_columns sizes column place
