-- Claims of callers: those that were met so far, and in the end all of them.
use Rattle.std.proofs.Common.{◌≡◌, ℕ, zero, suc, Bool, true, false, cond, List, [], ◌∷◌, ◌++◌, count_by, flat_map, get_or, length, map, option_map, Option, Some, None, refl, sym, ap, subst, ◌∙◌, append-nil, arith}
use Rattle.std.specs.Prelude.{IfSome}
use Rattle.std.specs.List.{AllByRecursion}
use Rattle.std.proofs.lemmas.List.Concat.{flat_map-append}
use Rattle.std.proofs.lemmas.Option.{none-some, same_Some, slice_get-get_or, slice_get-map, slice_get_within}
use Rattle.rl_audit.specs.Claims.{is_place, item_at, AreClaimed, AreRising, IsRight, Place}
use Rattle.rl_audit.specs.Flagged.{StandFor}
use Rattle.rl_audit.proofs.Flagging.{all_more, all_then}

-- where columns have an item, flags of the same sizes have a flag
flag_there : {X : Type 0} (flags : List (List Bool)) (columns : List (List X)) (column index : ℕ) (x : X) → map length flags ≡ map length columns → item_at columns (column, index) ≡ Some x
    → (flag : Bool) × (item_at flags (column, index) ≡ Some flag)
flag_there flags [] column index x sizes there = absurd (none-some x there)
flag_there [] (own ∷ columns) column index x sizes there = cc
flag_there (flagged ∷ flags) (own ∷ columns) zero index x sizes there = (get_or flagged index false, slice_get-get_or flagged index false (omega (arith, slice_get_within own index x there, same)))
  where
    same : length flagged ≡ length own
    same = cc
flag_there (flagged ∷ flags) (own ∷ columns) (suc column) index x sizes there = flag_there flags columns column index x (cc) there

module _ {C X : Type 0} (columns : List (List X)) (named : C → Place) (Says : C → X → Type 0) where
  abbrev places_of : List (List C) → List Place
  places_of callers = flat_map (map named) callers

  -- flags stand for all that callers claimed so far, which is right
  pub record AreMet (flags : List (List Bool)) (nexts : List ℕ) (callers : List (List C)) : Type 0 where
    pub sizes : map length flags ≡ map length columns
    pub stand : StandFor flags nexts (places_of callers) []
    pub right : AllByRecursion (AllByRecursion (IsRight columns named Says)) callers
    pub rising : AllByRecursion (λ claims. AreRising (map named claims)) callers

  -- no caller so far
  pub none_met : (flags : List (List Bool)) (nexts : List ℕ) → map length flags ≡ map length columns → StandFor flags nexts [] [] → AreMet flags nexts []
  none_met flags nexts sizes stand = record { sizes = sizes; stand = stand; right = tt; rising = tt }

  -- one caller more, whose claims other flags stand for at first
  pub one_met : (flags between after : List (List Bool)) (nexts nexts_between nexts_after : List ℕ) (callers : List (List C)) (claims : List C) → AreMet flags nexts callers
      → ((before : List Place) → StandFor flags nexts before [] → StandFor between nexts_between before (map named claims))
      → ((before mine : List Place) → StandFor between nexts_between before mine → StandFor after nexts_after (before ++ mine) [])
      → map length after ≡ map length flags → AllByRecursion (IsRight columns named Says) claims → AreMet after nexts_after (callers ++ claims ∷ [])
  one_met flags between after nexts nexts_between nexts_after callers claims met claimed begun sizes right =
      let stand = claimed (places_of callers) met.stand in
      let places : places_of (callers ++ claims ∷ []) ≡ places_of callers ++ map named claims = flat_map-append (map named) callers (claims ∷ []) ∙ ap (λ (rest : List Place). places_of callers ++ rest) (append-nil (map named claims)) in
      record {
        sizes = sizes ∙ met.sizes;
        stand = subst (λ (before : List Place). StandFor after nexts_after before []) (sym places) (begun (places_of callers) (map named claims) stand);
        right = all_more (AllByRecursion (IsRight columns named Says)) callers claims met.right right;
        rising = all_more (λ (claims : List C). AreRising (map named claims)) callers claims met.rising stand.rising;
      }

  -- all flags are set
  pub all_met : (flags : List (List Bool)) (nexts : List ℕ) (callers : List (List C)) → AreMet flags nexts callers → ((place : Place) → IfSome (item_at flags place) (λ flag. flag ≡ true)) → AreClaimed columns named Says callers
  all_met flags nexts callers met set = record { once = λ place. by place (item_at columns place) refl; right = met.right; rising = met.rising }
    where
      by : (place : Place) (found : Option X) → item_at columns place ≡ found → IfSome found (λ _. count_by (is_place place) (places_of callers) ≡ 1)
      by place None there = tt
      by place (Some x) there =
          let flagged = flag_there flags columns place.0 place.1 x met.sizes there in
          let is : flagged.0 ≡ true = subst (λ (found : Option Bool). IfSome found (λ flag. flag ≡ true)) flagged.1 (set place) in
          let many : count_by (is_place place) (places_of callers ++ []) ≡ cond flagged.0 1 0 = subst (λ (found : Option Bool). IfSome found (λ flag. count_by (is_place place) (places_of callers ++ []) ≡ cond flag 1 0)) flagged.1 (met.stand.flagged place) in
          sym (ap (count_by (is_place place)) (append-nil (places_of callers))) ∙ many ∙ ap (λ b. cond b 1 0) is

-- what stands at a place of columns that were mapped
item_at-map : {X Y : Type 0} (f : X → Y) (columns : List (List X)) (column index : ℕ) → item_at (map (map f) columns) (column, index) ≡ option_map f (item_at columns (column, index))
item_at-map f [] column index = refl
item_at-map f (own ∷ columns) zero index = slice_get-map f own index
item_at-map f (own ∷ columns) (suc column) index = item_at-map f columns column index

-- claims of all that columns were mapped to are claims of what they have
module _ {C X Y : Type 0} (f : X → Y) (columns : List (List X)) (named : C → Place) (Says : C → X → Type 0) (Describes : C → Y → Type 0) (then : (claim : C) (x : X) → Describes claim (f x) → Says claim x) where
  right_of : (claim : C) → IsRight (map (map f) columns) named Describes claim → IsRight columns named Says claim
  right_of claim right = by (item_at columns (named claim)) refl
    where
      by : (found : Option X) → item_at columns (named claim) ≡ found → IsRight columns named Says claim
      by None there = absurd (none-some right.item (sym (item_at-map f columns (named claim).0 (named claim).1 ∙ ap (option_map f) there) ∙ right.there))
      by (Some x) there =
          let same : f x ≡ right.item = same_Some (f x) right.item (sym (item_at-map f columns (named claim).0 (named claim).1 ∙ ap (option_map f) there) ∙ right.there) in
          record { item = x; there = there; holds = then claim x (subst (Describes claim) (sym same) right.holds) }

  pub claimed_of : (callers : List (List C)) → AreClaimed (map (map f) columns) named Describes callers → AreClaimed columns named Says callers
  claimed_of callers claimed = record {
    once = λ place. by place (item_at columns place) refl;
    right = all_then (AllByRecursion (IsRight (map (map f) columns) named Describes)) (AllByRecursion (IsRight columns named Says)) callers
        (λ claims. all_then (IsRight (map (map f) columns) named Describes) (IsRight columns named Says) claims right_of) claimed.right;
    rising = claimed.rising;
  }
    where
      by : (place : Place) (found : Option X) → item_at columns place ≡ found → IfSome found (λ _. count_by (is_place place) (flat_map (map named) callers) ≡ 1)
      by place None there = tt
      by place (Some x) there = subst (λ (found : Option Y). IfSome found (λ _. count_by (is_place place) (flat_map (map named) callers) ≡ 1)) (item_at-map f columns place.0 place.1 ∙ ap (option_map f) there) (claimed.once place)
