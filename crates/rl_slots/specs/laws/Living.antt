-- Slots that answer terms still do while other slots and the lines of windows change, and windows stay for as many lines. When each slot
-- was answered last.
use Rattle.std.specs.Prelude.{◌≡◌, ◌≢◌, ℕ, zero, suc, ◌+◌, ◌<◌, ◌≤◌, ◌==◌, Bool, true, false, cond, not, nat_lt, List, [], ◌∷◌, ◌++◌, map, length, Option, None, Some, IfSome, get_or, option_map, slice_get, slice_set, if◌then◌else◌, refl}
use Rattle.std.specs.List.{position, position_from, position_or_len, AllByRecursion}
use Rattle.std.proofs.Common.{sym, ap, subst, ◌∙◌, arith}
use Rattle.std.proofs.lemmas.Bool.{eqb-true, eq-eqb, eqb-false, false_from_ne_true, ne_eqb, lt-ltb, false≢true}
use Rattle.std.proofs.lemmas.Iterator.Adapters.{position_from-zero}
use Rattle.std.proofs.lemmas.List.{length-map}
use Rattle.std.proofs.lemmas.List.Quantifiers.{position-Some}
use Rattle.std.proofs.lemmas.List.Sums.{position_or_len_is}
use Rattle.std.proofs.lemmas.Option.{none-some, same_Some, slice_get-get_or, slice_get-map, slice_get_within}
use Rattle.rl_query.specs.declared.query.Term.{Term}
use Rattle.rl_slots.specs.Slots.{collected_in, outline, put_at, range_of, with_slot, AreOfMost, IsLiveIn, IsMovedOn, SlotView}
use Rattle.rl_slots.specs.declared.range_window.RangeWindow.{RangeWindow}

-- LISTS

-- an item that is seen as the one before it leaves the list as it was seen
pub set_seen : {X Y : Type 0} (f : X → Y) (xs : List X) (k : ℕ) (x y : X) → slice_get xs k ≡ Some x → f y ≡ f x → map f (slice_set xs k y) ≡ map f xs
set_seen f [] k x y there same = refl
set_seen f (z ∷ xs) zero x y there same = ap (λ first. first ∷ map f xs) (same ∙ ap f (sym (same_Some z x there)))
set_seen f (z ∷ xs) (suc k) x y there same = ap (λ rest. f z ∷ rest) (set_seen f xs k x y there same)

-- what holds of all, and of the new one where it holds of the one before it
pub set_keeps : {X : Type 0} (P : X → Type 0) (xs : List X) (k : ℕ) (x y : X) → slice_get xs k ≡ Some x → (P x → P y) → AllByRecursion P xs → AllByRecursion P (slice_set xs k y)
set_keeps P [] k x y there keeps all = tt
set_keeps P (z ∷ xs) zero x y there keeps all = (keeps (subst P (same_Some z x there) all.0), all.1)
set_keeps P (z ∷ xs) (suc k) x y there keeps all = (all.0, set_keeps P xs k x y there keeps all.1)

-- and of one item more
pub all_one_more : {X : Type 0} (P : X → Type 0) (xs : List X) (y : X) → AllByRecursion P xs → P y → AllByRecursion P (xs ++ y ∷ [])
all_one_more P [] y all one = (one, tt)
all_one_more P (x ∷ xs) y all one = (all.0, all_one_more P xs y all.1 one)

-- where the new one is, and the others
set_there : {X : Type 0} (xs : List X) (k : ℕ) (x y : X) → slice_get xs k ≡ Some x → slice_get (slice_set xs k y) k ≡ Some y
set_there [] k x y there = absurd (none-some x there)
set_there (z ∷ xs) zero x y there = refl
set_there (z ∷ xs) (suc k) x y there = set_there xs k x y there

set_other : {X : Type 0} (xs : List X) (k j : ℕ) (y : X) → j ≢ k → slice_get (slice_set xs k y) j ≡ slice_get xs j
set_other [] k j y apart = refl
set_other (z ∷ xs) zero zero y apart = absurd (apart refl)
set_other (z ∷ xs) zero (suc j) y apart = refl
set_other (z ∷ xs) (suc k) zero y apart = refl
set_other (z ∷ xs) (suc k) (suc j) y apart = set_other xs k j y (λ same. apart cc)

set_nowhere : {X : Type 0} (xs : List X) (k : ℕ) (y : X) → slice_get xs k ≡ None → slice_set xs k y ≡ xs
set_nowhere [] k y none = refl
set_nowhere (z ∷ xs) zero y none = absurd (none-some z (sym none))
set_nowhere (z ∷ xs) (suc k) y none = ap (λ rest. z ∷ rest) (set_nowhere xs k y none)

get_before : {X : Type 0} (xs : List X) (k : ℕ) (x y : X) → slice_get xs k ≡ Some x → slice_get (xs ++ y ∷ []) k ≡ Some x
get_before [] k x y there = absurd (none-some x there)
get_before (z ∷ xs) zero x y there = there
get_before (z ∷ xs) (suc k) x y there = get_before xs k x y there

get_last : {X : Type 0} (xs : List X) (y : X) → slice_get (xs ++ y ∷ []) (length xs) ≡ Some y
get_last [] y = refl
get_last (x ∷ xs) y = get_last xs y

-- what was seen through a function is there
seen : {X Y : Type 0} (f : X → Y) (o : Option X) (y : Y) → option_map f o ≡ Some y → (x : X) × (o ≡ Some x) × (f x ≡ y)
seen f None y is = absurd (none-some y is)
seen f (Some x) y is = (x, refl, same_Some (f x) y is)

-- the first item that passes a test, with an item more after all
module _ {X : Type 0} (test : X → Bool) (y : X) where
  from_more : (i k : ℕ) (xs : List X) → position_from test i xs ≡ Some k → position_from test i (xs ++ y ∷ []) ≡ Some k
  from_more i k [] is = absurd (none-some k is)
  from_more i k (x ∷ xs) is =
      elim (test x) as (λ b. cond b (Some i) (position_from test (i + 1) xs) ≡ Some k → cond b (Some i) (position_from test (i + 1) (xs ++ y ∷ [])) ≡ Some k) [
        | true ↦ λ here. here
        | false ↦ λ later. from_more (i + 1) k xs later
      ] is

  from_last : (i : ℕ) (xs : List X) → test y ≡ true → position_from test i xs ≡ None → position_from test i (xs ++ y ∷ []) ≡ Some (i + length xs)
  from_last i [] passes none = ap (λ b. cond b (Some i) None) passes ∙ ap Some (omega arith)
  from_last i (x ∷ xs) passes none =
      elim (test x) as (λ b. cond b (Some i) (position_from test (i + 1) xs) ≡ None → cond b (Some i) (position_from test (i + 1) (xs ++ y ∷ [])) ≡ Some (i + length (x ∷ xs))) [
        | true ↦ λ here. absurd (none-some i (sym here))
        | false ↦ λ later. from_last (i + 1) xs passes later ∙ ap Some (omega arith)
      ] none

  position_more : (k : ℕ) (xs : List X) → position test xs ≡ Some k → position test (xs ++ y ∷ []) ≡ Some k
  position_more k xs is = position_from-zero test (xs ++ y ∷ []) ∙ from_more 0 k xs (sym (position_from-zero test xs) ∙ is)

  position_last : (xs : List X) → test y ≡ true → position test xs ≡ None → position test (xs ++ y ∷ []) ≡ Some (length xs)
  position_last xs passes none = position_from-zero test (xs ++ y ∷ []) ∙ from_last 0 xs passes (sym (position_from-zero test xs) ∙ none) ∙ ap Some (omega arith)

-- NUMBERS

abbrev numbers : List SlotView → List ℕ
numbers slots = map (λ (slot : SlotView). slot.number) slots

-- where the slot of a number is
abbrev index_of : ℕ → List SlotView → Option ℕ
index_of number slots = position (λ (slot : SlotView). slot.number == number) slots

-- the numbers of slots alone say it
first_by : (number : ℕ) (slots : List SlotView) → position_or_len (λ (slot : SlotView). slot.number == number) slots ≡ position_or_len (λ n. n == number) (numbers slots)
first_by number [] = refl
first_by number (slot ∷ slots) = ap (λ n. cond (not (slot.number == number)) (1 + n) 0) (first_by number slots)

index_by : (number : ℕ) (slots : List SlotView) → index_of number slots ≡ position (λ n. n == number) (numbers slots)
index_by number slots =
    let long : length slots ≡ length (numbers slots) = sym (length-map slots (λ (slot : SlotView). slot.number)) in
    λ i. cond (nat_lt (first_by number slots i) (long i)) (Some (first_by number slots i)) None

same_index : (number : ℕ) (slots others : List SlotView) → numbers others ≡ numbers slots → index_of number others ≡ index_of number slots
same_index number slots others same = index_by number others ∙ ap (position (λ n. n == number)) same ∙ sym (index_by number slots)

-- the slot that is there
indexed : (number index : ℕ) (slots : List SlotView) (any : SlotView) → index_of number slots ≡ Some index → (slot : SlotView) × (slice_get slots index ≡ Some slot) × (slot.number ≡ number)
indexed number index slots any is =
    let at = position-Some (λ (slot : SlotView). slot.number == number) slots index any is in
    (_, slice_get-get_or slots index any at.0, eqb-true _ number at.1)

-- an outline has the number of its slot
outline_numbers : (slots : List SlotView) → numbers slots ≡ numbers (map outline slots)
outline_numbers [] = refl
outline_numbers (slot ∷ slots) = ap (λ rest. slot.number ∷ rest) (outline_numbers slots)

-- LIVE

-- slots that differ in the lines of their windows alone are live alike
pub live-outline : (slots others : List SlotView) → map outline others ≡ map outline slots → (number : ℕ) (terms : List Term) (t : ℕ) → IsLiveIn number terms t slots → IsLiveIn number terms t others
live-outline slots others same number terms t live =
    let there = sym (slice_get-map outline others live.index) ∙ ap (λ o. slice_get o live.index) same ∙ slice_get-map outline slots live.index ∙ ap (option_map outline) live.there in
    let own = seen outline (slice_get others live.index) (outline live.slot) there in
    record {
      index = live.index;
      at = same_index number slots others (outline_numbers others ∙ ap numbers same ∙ sym (outline_numbers slots)) ∙ live.at;
      slot = own.0;
      there = own.1;
      live = (ap (λ (o : SlotView). o.terms) own.2 ∙ live.live.0, subst (λ r. r ≤ t) (sym (ap (λ (o : SlotView). o.reached) own.2)) live.live.1);
    }

-- where one moved on, the others are live as before, and it is so from the moment on
pub live-moved : (index t : ℕ) (slots others : List SlotView) → IsMovedOn index t slots others → (number : ℕ) (terms : List Term) (u : ℕ) → (position (λ slot. slot.number == number) slots ≡ Some index → t ≤ u) → IsLiveIn number terms u slots → IsLiveIn number terms u others
live-moved index t slots others moved number terms u past live = subst (IsLiveIn number terms u) (sym moved.1) (with_one (slice_get slots index) refl moved.2)
  where
    new : SlotView
    new = moved.0

    with_one : (o : Option SlotView) → slice_get slots index ≡ o → IfSome o (λ own. (new.number ≡ own.number) × (new.terms ≡ own.terms) × (new.reached ≡ t)) → IsLiveIn number terms u (slice_set slots index new)
    with_one None none is = subst (IsLiveIn number terms u) (sym (set_nowhere slots index new none)) live
    with_one (Some own) there is =
        let at = same_index number slots (slice_set slots index new) (set_seen (λ (slot : SlotView). slot.number) slots index own new there is.0) ∙ live.at in
        elim (live.index == index) as (λ b. (live.index == index) ≡ b → IsLiveIn number terms u (slice_set slots index new)) [
          | true ↦ λ e.
              let here : live.index ≡ index = eqb-true live.index index e in
              let same : own ≡ live.slot = same_Some own live.slot (sym there ∙ ap (slice_get slots) (sym here) ∙ live.there) in
              record {
                index = live.index;
                at = at;
                slot = new;
                there = ap (slice_get (slice_set slots index new)) here ∙ set_there slots index own new there;
                live = (is.1 ∙ ap (λ (slot : SlotView). slot.terms) same ∙ live.live.0, subst (λ r. r ≤ u) (sym is.2) (past (live.at ∙ ap Some here)));
              }
          | false ↦ λ e.
              record {
                index = live.index;
                at = at;
                slot = live.slot;
                there = set_other slots index live.index new (λ same. false≢true (sym e ∙ eq-eqb live.index index same)) ∙ live.there;
                live = live.live;
              }
        ] refl

-- a slot of another number that is put in leaves one live
pub live-set : (slot : SlotView) (slots : List SlotView) (number : ℕ) (terms : List Term) (u : ℕ) → (number ≡ slot.number → ⊥) → IsLiveIn number terms u slots → IsLiveIn number terms u (with_slot slot slots)
live-set slot slots number terms u apart live = with_one (index_of slot.number slots) refl
  where
    with_one : (o : Option ℕ) → index_of slot.number slots ≡ o → IsLiveIn number terms u (put_at o slot slots)
    with_one None none = record {
      index = live.index;
      at = position_more (λ (own : SlotView). own.number == number) slot live.index slots live.at;
      slot = live.slot;
      there = get_before slots live.index live.slot slot live.there;
      live = live.live;
    }
    with_one (Some index) is =
        let own = indexed slot.number index slots slot is in
        let one = indexed number live.index slots slot live.at in
        let other : live.index ≢ index = λ same.
        apart (sym one.2 ∙ ap (λ (s : SlotView). s.number) (same_Some one.0 own.0 (sym one.1 ∙ ap (slice_get slots) same ∙ own.1)) ∙ own.2) in
        record {
          index = live.index;
          at = same_index number slots (slice_set slots index slot) (set_seen (λ (s : SlotView). s.number) slots index own.0 slot own.1 (sym own.2)) ∙ live.at;
          slot = live.slot;
          there = set_other slots index live.index slot other ∙ live.there;
          live = live.live;
        }

-- and it is live itself
pub live-new : (slot : SlotView) (slots : List SlotView) (u : ℕ) → slot.reached ≤ u → IsLiveIn slot.number slot.terms u (with_slot slot slots)
live-new slot slots u reached = with_one (index_of slot.number slots) refl
  where
    with_one : (o : Option ℕ) → index_of slot.number slots ≡ o → IsLiveIn slot.number slot.terms u (put_at o slot slots)
    with_one None none = record {
      index = length slots;
      at = position_last (λ (own : SlotView). own.number == slot.number) slot slots (eq-eqb slot.number slot.number refl) none;
      slot = slot;
      there = get_last slots slot;
      live = (refl, reached);
    }
    with_one (Some index) is =
        let own = indexed slot.number index slots slot is in
        record {
          index = index;
          at = same_index slot.number slots (slice_set slots index slot) (set_seen (λ (s : SlotView). s.number) slots index own.0 slot own.1 (sym own.2)) ∙ is;
          slot = slot;
          there = set_there slots index own.0 slot own.1;
          live = (refl, reached);
        }

-- MOST

module _ (most : ℕ) where
  abbrev IsOfMost : RangeWindow → Type 0
  IsOfMost it = it.window.most ≡ most

  windows_shown : (windows : List RangeWindow) → AllByRecursion IsOfMost windows → AllByRecursion IsOfMost (map range_of windows)
  windows_shown [] all = tt
  windows_shown (it ∷ windows) all = (all.0, windows_shown windows all.1)

  windows_hidden : (windows : List RangeWindow) → AllByRecursion IsOfMost (map range_of windows) → AllByRecursion IsOfMost windows
  windows_hidden [] all = tt
  windows_hidden (it ∷ windows) all = (all.0, windows_hidden windows all.1)

  slots_shown : (slots : List SlotView) → AreOfMost most slots → AreOfMost most (map outline slots)
  slots_shown [] all = tt
  slots_shown (slot ∷ slots) all = (windows_shown slot.windows all.0, slots_shown slots all.1)

  slots_hidden : (slots : List SlotView) → AreOfMost most (map outline slots) → AreOfMost most slots
  slots_hidden [] all = tt
  slots_hidden (slot ∷ slots) all = (windows_hidden slot.windows all.0, slots_hidden slots all.1)

-- slots that differ in the lines of their windows alone have windows for as many lines
pub most-outline : (slots others : List SlotView) → map outline others ≡ map outline slots → (most : ℕ) → AreOfMost most slots → AreOfMost most others
most-outline slots others same most all = slots_hidden most others (subst (AreOfMost most) (sym same) (slots_shown most slots all))

-- and so with a slot that is put in
pub most-set : (slot : SlotView) (slots : List SlotView) (most : ℕ) → AllByRecursion (λ it. it.window.most ≡ most) slot.windows → AreOfMost most slots → AreOfMost most (with_slot slot slots)
most-set slot slots most own all = with_one (index_of slot.number slots) refl
  where
    with_one : (o : Option ℕ) → index_of slot.number slots ≡ o → AreOfMost most (put_at o slot slots)
    with_one None none = all_one_more (λ (it : SlotView). AllByRecursion (IsOfMost most) it.windows) slots slot all own
    with_one (Some index) is =
        let old = indexed slot.number index slots slot is in
        set_keeps (λ (it : SlotView). AllByRecursion (IsOfMost most) it.windows) slots index old.0 slot old.1 (λ before. own) all

-- ANSWERED LAST

-- a slot's number and the moment at which it was answered last
abbrev pub answered : SlotView → ℕ × ℕ
answered slot = (slot.number, slot.collected)

abbrev answered_by : (number : ℕ) → List (ℕ × ℕ) → Option ℕ
answered_by number [] = None
answered_by number (one ∷ all) = cond (one.0 == number) (Some one.1) (answered_by number all)

by_answered : (number : ℕ) (slots : List SlotView) → collected_in number slots ≡ answered_by number (map answered slots)
by_answered number [] = refl
by_answered number (slot ∷ slots) = ap (λ rest. cond (slot.number == number) (Some slot.collected) rest) (by_answered number slots)

-- these alone say when that of a number was answered last
pub collected-same : (slots others : List SlotView) → map answered others ≡ map answered slots → (number : ℕ) → collected_in number others ≡ collected_in number slots
collected-same slots others same number = by_answered number others ∙ ap (answered_by number) same ∙ sym (by_answered number slots)

outline_answered : (slots : List SlotView) → map answered slots ≡ map answered (map outline slots)
outline_answered [] = refl
outline_answered (slot ∷ slots) = ap (λ rest. answered slot ∷ rest) (outline_answered slots)

-- slots that differ in the lines of their windows alone were answered alike
pub collected-outline : (slots others : List SlotView) → map outline others ≡ map outline slots → (number : ℕ) → collected_in number others ≡ collected_in number slots
collected-outline slots others same number = collected-same slots others (outline_answered others ∙ ap (map answered) same ∙ sym (outline_answered slots)) number

-- the first slot of a number is at an index
abbrev pub IsFirst : (number index : ℕ) (slots : List SlotView) → SlotView → Type 0
IsFirst number index slots any =
    (index < length slots) × ((get_or slots index any).number == number ≡ true) × ((k : ℕ) → k < index → (get_or slots k any).number == number ≡ false)

-- and says when it was answered last
first_collected : (number index : ℕ) (slots : List SlotView) (any : SlotView) → IsFirst number index slots any → collected_in number slots ≡ Some (get_or slots index any).collected
first_collected number index [] any first = absurd (omega (arith, first.0))
first_collected number zero (slot ∷ slots) any first = ap (λ b. cond b (Some slot.collected) (collected_in number slots)) first.1
first_collected number (suc index) (slot ∷ slots) any first =
    ap (λ b. cond b (Some slot.collected) (collected_in number slots)) (first.2 0 (omega arith))
    ∙ first_collected number index slots any (omega (arith, first.0), first.1, λ k less. first.2 (suc k) (omega (arith, less)))

-- a live slot says it for its number
pub collected-live : (number : ℕ) (terms : List Term) (t : ℕ) (slots : List SlotView) (live : IsLiveIn number terms t slots) → collected_in number slots ≡ Some live.slot.collected
collected-live number terms t slots live =
    let first = position-Some (λ (slot : SlotView). slot.number == number) slots live.index live.slot live.at in
    first_collected number live.index slots live.slot first
    ∙ ap (λ (slot : SlotView). Some slot.collected) (same_Some _ live.slot (sym (slice_get-get_or slots live.index live.slot first.0) ∙ live.there))

-- where two numbers differ, it does not matter which is asked for first
either : (number own other : ℕ) (x y rest : Option ℕ) → other == own ≡ false → cond (other == number) x (cond (own == number) y rest) ≡ cond (own == number) y (cond (other == number) x rest)
either number own other x y rest apart = elim (other == number) as (λ b. other == number ≡ b → cond b x (cond (own == number) y rest) ≡ cond (own == number) y (cond b x rest)) [
  | true ↦ λ is. sym (ap (λ b. cond b y x) (ne_eqb own number (λ same. eqb-false other own apart (eqb-true other number is ∙ sym same))))
  | false ↦ λ _. refl
] refl

-- a slot of a number in the stead of the first one
first_set : (number own index : ℕ) (slots : List SlotView) (slot any : SlotView) → slot.number ≡ own → IsFirst own index slots any → collected_in number (slice_set slots index slot) ≡ cond (own == number) (Some slot.collected) (collected_in number slots)
first_set number own index [] slot any is first = absurd (omega (arith, first.0))
first_set number own zero (old ∷ slots) slot any is first =
    let old_is : old.number ≡ own = eqb-true old.number own first.1 in
    ap (λ n. cond (n == number) (Some slot.collected) (collected_in number slots)) is
    ∙ elim (own == number) as (λ b. cond b (Some slot.collected) (collected_in number slots) ≡ cond b (Some slot.collected) (cond b (Some old.collected) (collected_in number slots))) [ true ↦ refl | false ↦ refl ]
    ∙ ap (λ n. cond (own == number) (Some slot.collected) (cond (n == number) (Some old.collected) (collected_in number slots))) (sym old_is)
first_set number own (suc index) (old ∷ slots) slot any is first =
    ap (λ rest. cond (old.number == number) (Some old.collected) rest) (first_set number own index slots slot any is (omega (arith, first.0), first.1, λ k less. first.2 (suc k) (omega (arith, less))))
    ∙ either number own old.number (Some old.collected) (Some slot.collected) (collected_in number slots) (first.2 0 (omega arith))

-- or beside the others
last_set : (number own first : ℕ) (slots : List SlotView) (slot : SlotView) → slot.number ≡ own → position_from (λ (old : SlotView). old.number == own) first slots ≡ None → collected_in number (slots ++ slot ∷ []) ≡ cond (own == number) (Some slot.collected) (collected_in number slots)
last_set number own first [] slot is none = ap (λ n. cond (n == number) (Some slot.collected) None) is
last_set number own first (old ∷ slots) slot is none =
    elim (old.number == own) as (λ b. old.number == own ≡ b → cond b (Some first) (position_from (λ (old : SlotView). old.number == own) (first + 1) slots) ≡ None
    → collected_in number (old ∷ slots ++ slot ∷ []) ≡ cond (own == number) (Some slot.collected) (collected_in number (old ∷ slots))) [
      | true ↦ λ _ here. absurd (none-some first (sym here))
      | false ↦ λ apart later.
          ap (λ rest. cond (old.number == number) (Some old.collected) rest) (last_set number own (first + 1) slots slot is later)
          ∙ either number own old.number (Some old.collected) (Some slot.collected) (collected_in number slots) apart
    ] refl none

-- a slot that is put in says it for its number
pub collected-set : (slot : SlotView) (slots : List SlotView) (number : ℕ) → collected_in number (with_slot slot slots) ≡ (if slot.number == number then Some slot.collected else collected_in number slots)
collected-set slot slots number = with_one (index_of slot.number slots) refl
  where
    with_one : (o : Option ℕ) → index_of slot.number slots ≡ o → collected_in number (put_at o slot slots) ≡ cond (slot.number == number) (Some slot.collected) (collected_in number slots)
    with_one None none = last_set number slot.number 0 slots slot refl (sym (position_from-zero (λ (own : SlotView). own.number == slot.number) slots) ∙ none)
    with_one (Some index) is = first_set number slot.number index slots slot slot refl (position-Some (λ (own : SlotView). own.number == slot.number) slots index slot is)

-- where the slot at an index is replaced by another of its number, each number whose first slot is elsewhere was answered as before
pub collected-others : (number index : ℕ) (slots : List SlotView) (own slot : SlotView) → slice_get slots index ≡ Some own → slot.number ≡ own.number → (position (λ slot. slot.number == number) slots ≡ Some index → ⊥)
    → collected_in number (slice_set slots index slot) ≡ collected_in number slots
collected-others number index slots own slot there is apart = elsewhere index slots there (λ same before. apart (first_at same before))
  where
    first_at : own.number == number ≡ true → ((k : ℕ) → k < index → (get_or slots k own).number == number ≡ false) → position (λ (slot : SlotView). slot.number == number) slots ≡ Some index
    first_at same before =
        let within = slice_get_within slots index own there in
        let here : get_or slots index own ≡ own = same_Some _ own (sym (slice_get-get_or slots index own within) ∙ there) in
        let at : position_or_len (λ (slot : SlotView). slot.number == number) slots ≡ index = position_or_len_is (λ (slot : SlotView). slot.number == number) slots index own (omega (arith, within)) before (λ _. ap (λ (slot : SlotView). slot.number == number) here ∙ same) in
        ap (λ n. cond (nat_lt n (length slots)) (Some n) None) at ∙ ap (λ b. cond b (Some index) None) (lt-ltb index (length slots) within)

    elsewhere : (index : ℕ) (slots : List SlotView) → slice_get slots index ≡ Some own → (own.number == number ≡ true → ((k : ℕ) → k < index → (get_or slots k own).number == number ≡ false) → ⊥) → collected_in number (slice_set slots index slot) ≡ collected_in number slots
    elsewhere index [] there apart = refl
    elsewhere zero (old ∷ slots) there apart =
        let same : old ≡ own = same_Some old own there in
        let not_own : own.number == number ≡ false = false_from_ne_true (own.number == number) (λ same. apart same (λ k less. absurd (omega (arith, less)))) in
        ap (λ n. cond (n == number) (Some slot.collected) (collected_in number slots)) is
        ∙ ap (λ b. cond b (Some slot.collected) (collected_in number slots)) not_own
        ∙ sym (ap (λ (old : SlotView). cond (old.number == number) (Some old.collected) (collected_in number slots)) same ∙ ap (λ b. cond b (Some own.collected) (collected_in number slots)) not_own)
    elsewhere (suc index) (old ∷ slots) there apart = elim (old.number == number) as (λ b. old.number == number ≡ b → cond b (Some old.collected) (collected_in number (slice_set slots index slot)) ≡ cond b (Some old.collected) (collected_in number slots)) [
      | true ↦ λ _. refl
      | false ↦ λ not_old. elsewhere index slots there (λ same before. apart same (λ k. at k not_old before))
    ] refl
      where
        at : (k : ℕ) → old.number == number ≡ false → ((k : ℕ) → k < index → (get_or slots k own).number == number ≡ false) → k < suc index → (get_or (old ∷ slots) k own).number == number ≡ false
        at zero not_old before less = not_old
        at (suc k) not_old before less = before k (omega (arith, less))

-- and that number at the moment of the other
pub collected-own : (number index : ℕ) (slots : List SlotView) (slot : SlotView) → slot.number ≡ number → position (λ slot. slot.number == number) slots ≡ Some index → collected_in number (slice_set slots index slot) ≡ Some slot.collected
collected-own number index slots slot is at =
    first_set number number index slots slot slot is (position-Some (λ (own : SlotView). own.number == number) slots index slot at)
    ∙ ap (λ b. cond b (Some slot.collected) (collected_in number slots)) (eq-eqb number number refl)

-- the first slot of a number has it
pub first_number : (number index : ℕ) (slots : List SlotView) (own : SlotView) → position (λ slot. slot.number == number) slots ≡ Some index → slice_get slots index ≡ Some own → own.number ≡ number
first_number number index slots own at there =
    let first = indexed number index slots own at in
    ap (λ (slot : SlotView). slot.number) (same_Some own first.0 (sym there ∙ first.1)) ∙ first.2
