-- One window or slot of a list is replaced by another.
use Rattle.std.proofs.Common.{◌≡◌, ◌≢◌, ℕ, zero, suc, ◌≤◌, ◌<◌, ◌∷◌, ◌++◌, [], cond, Bor, List, get_or, slice_set, slice_index_or, length, ltb, map, Option, None, Some, is_some, refl, sym, ap, subst, ◌∙◌, arith}
use Rattle.std.specs.Prelude.{slice_get}
use Rattle.std.specs.List.{AllByRecursion, AllZip}
use Rattle.std.specs.Option.{option_copied, IfSome}
use Rattle.std.proofs.lemmas.Bool.{ltb-false, ltb-true, ne_eqb}
use Rattle.std.proofs.lemmas.Option.{same_Some, slice_get_past, slice_get_read, IfSome_then}
use Rattle.rl_query.specs.declared.query.Term.{Term}
use Rattle.rl_windows.specs.Windows.{StandsFor}
use Rattle.rl_windows.specs.declared.element.Element.{Element}
use Rattle.rl_windows.specs.declared.range.RangeCode.{RangeCode}
use Rattle.rl_slots.specs.Slots.{key_of, range_of, term_key, with_change, with_element_at, AllStand, ArePicked, Contents, ContentsIn, IsSlot, SlotView, StandIn}
use Rattle.rl_slots.specs.laws.Exact.{eqb-self}
pub use Rattle.rl_slots.specs.laws.Living.{all_one_more, set_keeps, set_seen}
use Rattle.rl_slots.specs.declared.change.Change.{Change}
use Rattle.rl_slots.specs.declared.range_window.RangeWindow.{RangeWindow}

-- what was looked up in a list stands there
pub item_at : {X : Type 0} (found : Option (Bor X)) (xs : List X) (i : ℕ) → is_some found ≡ ltb i (length xs) → IfSome found (λ x. x.now ≡ get_or xs i x.now) → option_copied found ≡ slice_get xs i
item_at None xs i there is = sym (slice_get_past xs i (ltb-false i (length xs) (sym there)))
item_at (Some x) xs i there is = sym (slice_get_read xs (length xs) i x.now refl (ltb-true i (length xs) (sym there)) is)

-- what follows for each other item and for the new one follows for all
set_all : {X : Type 0} (P Q : ℕ → X → Type 0) (xs : List X) (k : ℕ) (x y : X) → slice_get xs k ≡ Some x → ((i : ℕ) (z : X) → i ≢ k → P i z → Q i z) → (P k x → Q k y)
    → ((i : ℕ) → IfSome (slice_get xs i) (P i)) → (i : ℕ) → IfSome (slice_get (slice_set xs k y) i) (Q i)
set_all P Q [] k x y there others own all i = tt
set_all P Q (z ∷ xs) zero x y there others own all zero = own (subst (P 0) (same_Some z x there) (all 0))
set_all P Q (z ∷ xs) zero x y there others own all (suc i) = IfSome_then (slice_get xs i) (all (suc i)) (λ it h. others (suc i) it (λ same. cc) h)
set_all P Q (z ∷ xs) (suc k) x y there others own all zero = others 0 z (λ same. cc) (all 0)
set_all P Q (z ∷ xs) (suc k) x y there others own all (suc i) =
    set_all (λ j. P (suc j)) (λ j. Q (suc j)) xs k x y there (λ j it apart. others (suc j) it (λ same. apart cc)) own (λ j. all (suc j)) i

module _ (windows : List RangeWindow) (w : ℕ) (e : Element) (contents : ContentsIn) (x y : RangeWindow) (there : slice_get windows w ≡ Some x) (code : y.code ≡ x.code) where
  other_is : (i : ℕ) (c : RangeCode) → i ≢ w → with_element_at w e contents i c ≡ contents i c
  other_is i c apart = ap (λ b. cond b (e ∷ contents i c) (contents i c)) (ne_eqb i w apart)

  own_is : with_element_at w e contents w x.code ≡ e ∷ contents w y.code
  own_is = ap (λ b. cond b (e ∷ contents w x.code) (contents w x.code)) (eqb-self w) ∙ ap (λ c. e ∷ contents w c) (sym code)

  -- a window with an element more, and one with an element less
  pub added_at : ((es : List Element) → StandsFor x.window es → StandsFor y.window (e ∷ es)) → StandIn windows contents → StandIn (slice_set windows w y) (with_element_at w e contents)
  added_at more = set_all (λ i it. StandsFor it.window (contents i it.code)) (λ i it. StandsFor it.window (with_element_at w e contents i it.code)) windows w x y there
      (λ i it apart. subst (StandsFor it.window) (sym (other_is i it.code apart)))
      (λ stands. subst (StandsFor y.window) (sym own_is ∙ ap (with_element_at w e contents w) (sym code)) (more (contents w y.code) (subst (λ c. StandsFor x.window (contents w c)) (sym code) stands)))

  pub taken_at : ((es : List Element) → StandsFor x.window (e ∷ es) → StandsFor y.window es) → StandIn windows (with_element_at w e contents) → StandIn (slice_set windows w y) contents
  taken_at less = set_all (λ i it. StandsFor it.window (with_element_at w e contents i it.code)) (λ i it. StandsFor it.window (contents i it.code)) windows w x y there
      (λ i it apart. subst (StandsFor it.window) (other_is i it.code apart))
      (λ stands. less (contents w y.code) (subst (StandsFor x.window) own_is stands))

-- a window that stands for what it stood for
pub kept_at : (windows : List RangeWindow) (w : ℕ) (contents : ContentsIn) (x y : RangeWindow) → slice_get windows w ≡ Some x → y.code ≡ x.code → ((es : List Element) → StandsFor x.window es → StandsFor y.window es)
    → StandIn windows contents → StandIn (slice_set windows w y) contents
kept_at windows w contents x y there code keeps = set_all (λ i it. StandsFor it.window (contents i it.code)) (λ i it. StandsFor it.window (contents i it.code)) windows w x y there
    (λ i it apart stands. stands)
    (λ stands. keeps (contents w y.code) (subst (λ c. StandsFor x.window (contents w c)) (sym code) stands))

module _ (slots : List SlotView) (change : Change) (contents : Contents) (x y : SlotView) (there : slice_get slots change.slot ≡ Some x) where
  own_element : ContentsIn
  own_element = with_element_at change.window change.element (contents change.slot)

  other_slot : (i : ℕ) → i ≢ change.slot → with_change change contents i ≡ contents i
  other_slot i apart = ap (λ b. cond b (with_element_at change.window change.element (contents i)) (contents i)) (ne_eqb i change.slot apart)

  own_slot : with_change change contents change.slot ≡ with_element_at change.window change.element (contents change.slot)
  own_slot = ap (λ b. cond b (with_element_at change.window change.element (contents change.slot)) (contents change.slot)) (eqb-self change.slot)

  -- a slot with a change more, and one with a change less
  pub slot_added : (StandIn x.windows (contents change.slot) → StandIn y.windows (with_element_at change.window change.element (contents change.slot)))
      → AllStand slots contents → AllStand (slice_set slots change.slot y) (with_change change contents)
  slot_added more = set_all (λ i slot. StandIn slot.windows (contents i)) (λ i slot. StandIn slot.windows (with_change change contents i)) slots change.slot x y there
      (λ i slot apart. subst (StandIn slot.windows) (sym (other_slot i apart)))
      (λ stands. subst (StandIn y.windows) (sym own_slot) (more stands))

  pub slot_taken : (StandIn x.windows (with_element_at change.window change.element (contents change.slot)) → StandIn y.windows (contents change.slot))
      → AllStand slots (with_change change contents) → AllStand (slice_set slots change.slot y) contents
  slot_taken less = set_all (λ i slot. StandIn slot.windows (with_change change contents i)) (λ i slot. StandIn slot.windows (contents i)) slots change.slot x y there
      (λ i slot apart. subst (StandIn slot.windows) (other_slot i apart))
      (λ stands. less (subst (StandIn x.windows) own_slot stands))

-- a slot that stands for what it stood for
pub slot_moved : (slots : List SlotView) (index : ℕ) (contents : Contents) (x y : SlotView) → slice_get slots index ≡ Some x → (StandIn x.windows (contents index) → StandIn y.windows (contents index))
    → AllStand slots contents → AllStand (slice_set slots index y) contents
slot_moved slots index contents x y there keeps = set_all (λ i slot. StandIn slot.windows (contents i)) (λ i slot. StandIn slot.windows (contents i)) slots index x y there (λ i slot apart stands. stands) keeps

-- a slot whose window has other lines of the same range at the same moment
pub slot_kept : (terms : List Term) (collected reached : ℕ) (windows : List RangeWindow) (indices : List ℕ) (w : ℕ) (x y : RangeWindow) → slice_get windows w ≡ Some x → range_of y ≡ range_of x → IsSlot terms collected reached windows indices → IsSlot terms collected reached (slice_set windows w y) indices
slot_kept terms collected reached windows indices w x y there range slot =
    let keys = set_seen key_of windows w x y there (ap key_of range) in
    let moment = ap (λ (it : RangeWindow). it.window.moment) range in
    record {
      of_terms = subst (λ keys. AllZip (λ term index. slice_get keys index ≡ Some (term_key term)) terms indices) (sym keys) slot.of_terms;
      picked = subst (λ keys. ArePicked keys (map term_key terms)) (sym keys) slot.picked;
      since = set_keeps (λ it. collected ≤ it.window.moment) windows w x y there (subst (λ m. collected ≤ m) (sym moment)) slot.since;
      moments = set_keeps (λ it. it.window.moment ≤ reached) windows w x y there (subst (λ m. m ≤ reached) (sym moment)) slot.moments;
    }

-- one pair more
pub one_pair : {X Y : Type 0} (R : X → Y → Type 0) (xs : List X) (ys : List Y) (x : X) (y : Y) → AllZip R xs ys → R x y → AllZip R (xs ++ x ∷ []) (ys ++ y ∷ [])
one_pair R [] [] x y all one = (one, tt)
one_pair R [] (b ∷ ys) x y all one = absurd all
one_pair R (a ∷ xs) [] x y all one = absurd all
one_pair R (a ∷ xs) (b ∷ ys) x y all one = (all.0, one_pair R xs ys x y all.1 one)

-- what holds of each number of a list holds of one
pub index_holds : (P : ℕ → Type 0) (xs : List ℕ) (i : ℕ) → i < length xs → AllByRecursion P xs → P (slice_index_or xs i 0)
index_holds P [] i less all = absurd (not_below_zero i less)
  where
    not_below_zero : (n : ℕ) → n < 0 → ⊥
    not_below_zero n less = omega (arith, less)
index_holds P (x ∷ xs) zero less all = all.0
index_holds P (x ∷ xs) (suc i) less all = index_holds P xs i (omega (arith, less)) all.1
