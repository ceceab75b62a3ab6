-- Windows that stand for what entries add to them, while entries come and go.
use Rattle.std.specs.Prelude.{◌≡◌, ◌≢◌, ◌≤◌, ◌<◌, ℕ, zero, suc, ◌+◌, ◌*◌, nat_eq, nat_lt, Bool, true, false, cond, List, [], ◌∷◌, ◌++◌, map, length, Option, None, Some, IfSome, option_map, option_to_list, slice_get, refl}
use Rattle.std.specs.FinMap.{entries}
use Rattle.std.specs.List.{AllByRecursion, filter}
use Rattle.std.proofs.Common.{sym, ap, subst, ◌∙◌, append_assoc, arith}
use Rattle.std.proofs.lemmas.Bool.{eq-eqb, le-ltb, ne_eqb}
use Rattle.std.proofs.lemmas.Grind.{flat_map-append}
use Rattle.std.proofs.lemmas.Option.{none-some, same_Some, slice_get-map}
use Rattle.rl_labels.specs.EntryParts.{longest_line}
use Rattle.rl_labels.specs.LabelSet.{LabelSet}
use Rattle.rl_labels.specs.Selects.{selects}
use Rattle.rl_labels.specs.declared.entry.Entry.{Entry}
use Rattle.rl_pipeline.specs.Lines.{StreamLine}
use Rattle.rl_pipeline.specs.Running.{run}
use Rattle.rl_aggregate.specs.InRange.{line_run, second}
use Rattle.rl_windows.specs.Ranges.{element_for, element_of, elements_for, entry_elements}
use Rattle.rl_windows.specs.Windows.{is_needed, lines_of, StandsFor, WindowView}
use Rattle.rl_windows.specs.Buckets.{AreAlike}
use Rattle.rl_windows.specs.declared.element.Element.{Element}
use Rattle.rl_windows.specs.declared.range.RangeCode.{RangeCode}
use Rattle.rl_slots.specs.Slots.{changes_from, changes_in, changes_of, changes_of_all, line_of, outline, range_of, wanted, with_change, with_changes, with_element_at, AllStand, AreExact, AreNeededFrom, Contents, IsNeededFrom, IsOfLine, SlotView}
use Rattle.rl_slots.specs.laws.Alike.{at_index, stands-alike, total-between}
use Rattle.rl_slots.specs.declared.change.Change.{Change}
use Rattle.rl_slots.specs.declared.range_window.RangeWindow.{RangeWindow}

-- ELEMENTS

-- an element more, if there is one
abbrev pub put : Option Element → List Element → List Element
put None elements = elements
put (Some element) elements = element ∷ elements

pub with_changes-append : (xs ys : List Change) (contents : Contents) → with_changes (xs ++ ys) contents ≡ with_changes ys (with_changes xs contents)
with_changes-append [] ys contents = refl
with_changes-append (x ∷ xs) ys contents = with_changes-append xs ys (with_change x contents)

pub eqb-self : (n : ℕ) → nat_eq n n ≡ true
eqb-self n = eq-eqb n n refl

the_same : (n : ℕ) → 0 + n ≡ n
the_same n = omega arith

module _ (line : StreamLine) (timestamp : ℕ) where
  -- the change of one window
  abbrev pub own : (slot window : ℕ) → RangeWindow → List Change
  own slot window it = map (λ (element : Element). record { slot = slot; window = window; element = element }) (option_to_list (wanted line timestamp it))

  own-here : (slot window : ℕ) (it : RangeWindow) (contents : Contents) (code : RangeCode) → with_changes (own slot window it) contents slot window code ≡ put (wanted line timestamp it) (contents slot window code)
  own-here slot window it contents code =
      elim (wanted line timestamp it) as (λ (e : Option Element). with_changes (map (λ (element : Element). record { slot = slot; window = window; element = element }) (option_to_list e)) contents slot window code ≡ put e (contents slot window code)) [
        | None ↦ refl
        | Some e ↦ ap (λ b. cond b (with_element_at window e (contents slot)) (contents slot) window code) (eqb-self slot)
            ∙ ap (λ b. cond b (e ∷ contents slot window code) (contents slot window code)) (eqb-self window)
      ]

  own-window : (slot window : ℕ) (it : RangeWindow) (contents : Contents) (s w : ℕ) (code : RangeCode) → w ≢ window → with_changes (own slot window it) contents s w code ≡ contents s w code
  own-window slot window it contents s w code apart =
      elim (wanted line timestamp it) as (λ (e : Option Element). with_changes (map (λ (element : Element). record { slot = slot; window = window; element = element }) (option_to_list e)) contents s w code ≡ contents s w code) [
        | None ↦ refl
        | Some e ↦
            elim (nat_eq s slot) as (λ b. cond b (with_element_at window e (contents s)) (contents s) w code ≡ contents s w code) [
              | true ↦ ap (λ b. cond b (e ∷ contents s w code) (contents s w code)) (ne_eqb w window apart)
              | false ↦ refl
            ]
      ]

  own-slot : (slot window : ℕ) (it : RangeWindow) (contents : Contents) (s w : ℕ) (code : RangeCode) → s ≢ slot → with_changes (own slot window it) contents s w code ≡ contents s w code
  own-slot slot window it contents s w code apart =
      elim (wanted line timestamp it) as (λ (e : Option Element). with_changes (map (λ (element : Element). record { slot = slot; window = window; element = element }) (option_to_list e)) contents s w code ≡ contents s w code) [
        | None ↦ refl
        | Some e ↦ ap (λ b. cond b (with_element_at window e (contents s)) (contents s) w code) (ne_eqb s slot apart)
      ]

  -- changes of windows of a slot leave other slots, and the windows before them
  in-slot : (slot first : ℕ) (windows : List RangeWindow) (contents : Contents) (s w : ℕ) (code : RangeCode) → s ≢ slot → with_changes (changes_in line timestamp slot first windows) contents s w code ≡ contents s w code
  in-slot slot first [] contents s w code apart = refl
  in-slot slot first (it ∷ windows) contents s w code apart =
      ap (λ (c : Contents). c s w code) (with_changes-append (own slot first it) (changes_in line timestamp slot (suc first) windows) contents)
      ∙ in-slot slot (suc first) windows (with_changes (own slot first it) contents) s w code apart
      ∙ own-slot slot first it contents s w code apart

  in-before : (slot first : ℕ) (windows : List RangeWindow) (contents : Contents) (w : ℕ) (code : RangeCode) → w < first → with_changes (changes_in line timestamp slot first windows) contents slot w code ≡ contents slot w code
  in-before slot first [] contents w code less = refl
  in-before slot first (it ∷ windows) contents w code less =
      ap (λ (c : Contents). c slot w code) (with_changes-append (own slot first it) (changes_in line timestamp slot (suc first) windows) contents)
      ∙ in-before slot (suc first) windows (with_changes (own slot first it) contents) w code (omega (arith, less))
      ∙ own-window slot first it contents slot w code (λ same. omega (arith, less, same))

  -- each window has what it wants
  in-here : (slot first k : ℕ) (windows : List RangeWindow) (contents : Contents) (it : RangeWindow) (code : RangeCode) → slice_get windows k ≡ Some it
      → with_changes (changes_in line timestamp slot first windows) contents slot (first + k) code ≡ put (wanted line timestamp it) (contents slot (first + k) code)
  in-here slot first k [] contents it code there = absurd (none-some it there)
  in-here slot first zero (own_it ∷ windows) contents it code there =
      let zero_more : first + 0 ≡ first = omega arith in
      subst (λ w. with_changes (changes_in line timestamp slot first (own_it ∷ windows)) contents slot w code ≡ put (wanted line timestamp it) (contents slot w code)) (sym zero_more) (
      ap (λ (c : Contents). c slot first code) (with_changes-append (own slot first own_it) (changes_in line timestamp slot (suc first) windows) contents)
      ∙ in-before slot (suc first) windows (with_changes (own slot first own_it) contents) first code (omega arith)
      ∙ own-here slot first own_it contents code
      ∙ ap (λ o. put (wanted line timestamp o) (contents slot first code)) (same_Some _ _ there))
  in-here slot first (suc k) (own_it ∷ windows) contents it code there =
      let later : suc first + k ≡ first + suc k = omega arith in
      subst (λ w. with_changes (changes_in line timestamp slot first (own_it ∷ windows)) contents slot w code ≡ put (wanted line timestamp it) (contents slot w code)) later (
      ap (λ (c : Contents). c slot (suc first + k) code) (with_changes-append (own slot first own_it) (changes_in line timestamp slot (suc first) windows) contents)
      ∙ in-here slot (suc first) k windows (with_changes (own slot first own_it) contents) it code there
      ∙ ap (put (wanted line timestamp it)) (own-window slot first own_it contents slot (suc first + k) code (λ same. omega (arith, same))))

  from-before : (first : ℕ) (slots : List SlotView) (contents : Contents) (s w : ℕ) (code : RangeCode) → s < first → with_changes (changes_from line timestamp first slots) contents s w code ≡ contents s w code
  from-before first [] contents s w code less = refl
  from-before first (slot ∷ slots) contents s w code less =
      ap (λ (c : Contents). c s w code) (with_changes-append (changes_in line timestamp first 0 slot.windows) (changes_from line timestamp (suc first) slots) contents)
      ∙ from-before (suc first) slots (with_changes (changes_in line timestamp first 0 slot.windows) contents) s w code (omega (arith, less))
      ∙ in-slot first 0 slot.windows contents s w code (λ same. omega (arith, less, same))

  from-here : (first k w : ℕ) (slots : List SlotView) (contents : Contents) (slot : SlotView) (it : RangeWindow) (code : RangeCode) → slice_get slots k ≡ Some slot → slice_get slot.windows w ≡ Some it
      → with_changes (changes_from line timestamp first slots) contents (first + k) w code ≡ put (wanted line timestamp it) (contents (first + k) w code)
  from-here first k w [] contents slot it code there window = absurd (none-some slot there)
  from-here first zero w (own_slot ∷ slots) contents slot it code there window =
      let zero_more : first + 0 ≡ first = omega arith in
      subst (λ s. with_changes (changes_from line timestamp first (own_slot ∷ slots)) contents s w code ≡ put (wanted line timestamp it) (contents s w code)) (sym zero_more) (
      ap (λ (c : Contents). c first w code) (with_changes-append (changes_in line timestamp first 0 own_slot.windows) (changes_from line timestamp (suc first) slots) contents)
      ∙ from-before (suc first) slots (with_changes (changes_in line timestamp first 0 own_slot.windows) contents) first w code (omega arith)
      ∙ subst (λ n. with_changes (changes_in line timestamp first 0 own_slot.windows) contents first n code ≡ put (wanted line timestamp it) (contents first n code)) (the_same w) (in-here first 0 w own_slot.windows contents it code (ap (λ (s : SlotView). slice_get s.windows w) (same_Some _ _ there) ∙ window)))
  from-here first (suc k) w (own_slot ∷ slots) contents slot it code there window =
      let later : suc first + k ≡ first + suc k = omega arith in
      subst (λ s. with_changes (changes_from line timestamp first (own_slot ∷ slots)) contents s w code ≡ put (wanted line timestamp it) (contents s w code)) later (
      ap (λ (c : Contents). c (suc first + k) w code) (with_changes-append (changes_in line timestamp first 0 own_slot.windows) (changes_from line timestamp (suc first) slots) contents)
      ∙ from-here (suc first) k w slots (with_changes (changes_in line timestamp first 0 own_slot.windows) contents) slot it code there window
      ∙ ap (put (wanted line timestamp it)) (in-slot first 0 own_slot.windows contents (suc first + k) w code (λ same. omega (arith, same))))

  -- so each window of slots has what it wants
  pub changed_at : (slots : List SlotView) (contents : Contents) (s w : ℕ) (slot : SlotView) (it : RangeWindow) (code : RangeCode) → slice_get slots s ≡ Some slot → slice_get slot.windows w ≡ Some it
      → with_changes (changes_of line timestamp slots) contents s w code ≡ put (wanted line timestamp it) (contents s w code)
  changed_at slots contents s w slot it code there window =
      subst (λ n. with_changes (changes_of line timestamp slots) contents n w code ≡ put (wanted line timestamp it) (contents n w code)) (the_same s) (from-here 0 s w slots contents slot it code there window)

-- ENTRIES

-- an element of one line at a timestamp
abbrev pub IsLineAt : (timestamp : ℕ) → Element → Type 0
IsLineAt timestamp element = (element.stamp.timestamp ≡ timestamp) × IsOfLine element.volume

-- what a line adds is such an element
pub line_at : (code : RangeCode) (line : StreamLine) (timestamp : ℕ) → length line.text ≤ longest_line → IfSome (element_for code line timestamp) (IsLineAt timestamp)
line_at code line timestamp short =
    elim (selects code.selector line.labels) as (λ b. IfSome (cond b (option_map (λ labels. element_of timestamp (line_run labels (length line.text))) (run code.pipeline line.text line.labels)) None) (IsLineAt timestamp)) [
      | true ↦ elim (run code.pipeline line.text line.labels) as (λ (o : Option LabelSet). IfSome (option_map (λ labels. element_of timestamp (line_run labels (length line.text))) o) (IsLineAt timestamp)) [
        | None ↦ tt
        | Some labels ↦ (refl, (refl, short))
      ]
      | false ↦ tt
    ]

module _ (w : WindowView) (timestamp : ℕ) (others : List Element) where
  abbrev needed : Bool → Element → List Element → Type 0
  needed b e es = AreAlike (entries w.buckets) (cond b ((e.stamp, e.volume) ∷ filter (λ line. is_needed w.seconds w.moment line.0) (lines_of es)) (filter (λ line. is_needed w.seconds w.moment line.0) (lines_of es)))

  -- a window that stands for what it wants of a line stands for all that the line adds, and the other way
  with_wanted : (found : Option Element) → IfSome found (IsLineAt timestamp) → StandsFor w (put (cond (nat_lt w.moment (timestamp + w.seconds * second)) found None) others) → StandsFor w (option_to_list found ++ others)
  with_wanted None line = elim (nat_lt w.moment (timestamp + w.seconds * second)) as (λ b. StandsFor w (put (cond b None None) others) → StandsFor w others) [ true ↦ λ stands. stands | false ↦ λ stands. stands ]
  with_wanted (Some e) line =
      let at : is_needed w.seconds w.moment e.stamp ≡ nat_lt w.moment (timestamp + w.seconds * second) = ap (λ ts. nat_lt w.moment (ts + w.seconds * second)) line.0 in
      elim (nat_lt w.moment (timestamp + w.seconds * second)) as (λ b. is_needed w.seconds w.moment e.stamp ≡ b → StandsFor w (put (cond b (Some e) None) others) → StandsFor w (e ∷ others)) [
        | true ↦ λ _ stands. stands
        | false ↦ λ not stands. (((omega (arith, line.1.0), omega (arith, line.1)), stands.0), subst (λ b. needed b e others) (sym not) stands.1)
      ] at

  wanted_of : (found : Option Element) → IfSome found (IsLineAt timestamp) → StandsFor w (option_to_list found ++ others) → StandsFor w (put (cond (nat_lt w.moment (timestamp + w.seconds * second)) found None) others)
  wanted_of None line = elim (nat_lt w.moment (timestamp + w.seconds * second)) as (λ b. StandsFor w others → StandsFor w (put (cond b None None) others)) [ true ↦ λ stands. stands | false ↦ λ stands. stands ]
  wanted_of (Some e) line =
      let at : is_needed w.seconds w.moment e.stamp ≡ nat_lt w.moment (timestamp + w.seconds * second) = ap (λ ts. nat_lt w.moment (ts + w.seconds * second)) line.0 in
      elim (nat_lt w.moment (timestamp + w.seconds * second)) as (λ b. is_needed w.seconds w.moment e.stamp ≡ b → StandsFor w (e ∷ others) → StandsFor w (put (cond b (Some e) None) others)) [
        | true ↦ λ _ stands. stands
        | false ↦ λ not stands. (stands.0.1, subst (λ b. needed b e others) not stands.1)
      ] at

-- what was seen through a function is there
seen : {X Y : Type 0} (f : X → Y) (o : Option X) (y : Y) → option_map f o ≡ Some y → (x : X) × (o ≡ Some x) × (f x ≡ y)
seen f None y is = absurd (none-some y is)
seen f (Some x) y is = (x, refl, cc)

-- slots that differ in the lines of their windows alone have windows of the same ranges at the same indices
pub range_there : (slots others : List SlotView) (s w : ℕ) (slot : SlotView) (it : RangeWindow) → map outline others ≡ map outline slots → slice_get others s ≡ Some slot → slice_get slot.windows w ≡ Some it
    → (own : SlotView) × (slice_get slots s ≡ Some own) × ((own_it : RangeWindow) × (slice_get own.windows w ≡ Some own_it) × (range_of own_it ≡ range_of it))
range_there slots others s w slot it same there window =
    let own = seen outline (slice_get slots s) (outline slot) (sym (slice_get-map outline slots s) ∙ ap (λ o. slice_get o s) (sym same) ∙ slice_get-map outline others s ∙ ap (option_map outline) there) in
    let windows : map range_of own.0.windows ≡ map range_of slot.windows = ap (λ (o : SlotView). o.windows) own.2 in
    let range = seen range_of (slice_get own.0.windows w) (range_of it) (sym (slice_get-map range_of own.0.windows w) ∙ ap (λ o. slice_get o w) windows ∙ slice_get-map range_of slot.windows w ∙ ap (option_map range_of) window) in
    (own.0, own.1, range)

-- what follows from what holds of the value of an option
some_then : {X : Type 0} (P Q : X → Type 0) (o : Option X) → ((x : X) → o ≡ Some x → P x → Q x) → IfSome o P → IfSome o Q
some_then P Q None follows own = tt
some_then P Q (Some x) follows own = follows x refl own

-- what follows at each window from what holds there
each_window : (slots : List SlotView) (P Q : (slot window : ℕ) → RangeWindow → Type 0)
    → ((s w : ℕ) (slot : SlotView) (it : RangeWindow) → slice_get slots s ≡ Some slot → slice_get slot.windows w ≡ Some it → P s w it → Q s w it)
    → ((s : ℕ) → IfSome (slice_get slots s) (λ slot. (w : ℕ) → IfSome (slice_get slot.windows w) (P s w))) → (s : ℕ) → IfSome (slice_get slots s) (λ slot. (w : ℕ) → IfSome (slice_get slot.windows w) (Q s w))
each_window slots P Q follows all s = some_then (λ slot. (w : ℕ) → IfSome (slice_get slot.windows w) (P s w)) (λ slot. (w : ℕ) → IfSome (slice_get slot.windows w) (Q s w)) (slice_get slots s) (λ slot there own w.
    some_then (P s w) (Q s w) (slice_get slot.windows w) (λ it window. follows s w slot it there window) (own w)) (all s)

-- a window that stands for elements stands for them with one moved to the front
put-between : (window : WindowView) (found : Option Element) (xs ys : List Element) → StandsFor window (xs ++ put found ys) → StandsFor window (put found (xs ++ ys))
put-between window None xs ys stands = stands
put-between window (Some e) xs ys stands = stands-alike window (xs ++ e ∷ ys) (e ∷ (xs ++ ys)) (λ number. total-between number e xs ys) stands

-- and the other way
between-put : (window : WindowView) (found : Option Element) (xs ys : List Element) → StandsFor window (put found (xs ++ ys)) → StandsFor window (xs ++ put found ys)
between-put window None xs ys stands = stands
between-put window (Some e) xs ys stands = stands-alike window (e ∷ (xs ++ ys)) (xs ++ e ∷ ys) (λ number. sym (total-between number e xs ys)) stands

-- the elements more of entries, one after the other, those of the last in front
abbrev put_all : (Entry → Option Element) → List Entry → List Element → List Element
put_all found [] elements = elements
put_all found (entry ∷ entries) elements = put_all found entries (put (found entry) elements)

-- what a window wants of an entry
abbrev wants : RangeWindow → Entry → Option Element
wants it entry = wanted (line_of entry) entry.timestamp it

-- what windows have with the changes of entries
all_changed : (gained : List Entry) (slots : List SlotView) (contents : Contents) (s w : ℕ) (slot : SlotView) (it : RangeWindow) (code : RangeCode) → slice_get slots s ≡ Some slot → slice_get slot.windows w ≡ Some it
    → with_changes (changes_of_all gained slots) contents s w code ≡ put_all (wants it) gained (contents s w code)
all_changed [] slots contents s w slot it code there window = refl
all_changed (entry ∷ gained) slots contents s w slot it code there window =
    let own = changes_of (line_of entry) entry.timestamp slots in
    ap (λ (c : Contents). c s w code) (with_changes-append own (changes_of_all gained slots) contents)
    ∙ all_changed gained slots (with_changes own contents) s w slot it code there window
    ∙ ap (put_all (wants it) gained) (changed_at (line_of entry) entry.timestamp slots contents s w slot it code there window)

module _ (it : RangeWindow) where
  -- a window that stands for what it wants of entries stands for all that they add
  with_all_wanted : (gained : List Entry) (elements : List Element) → StandsFor it.window (put_all (wants it) gained elements) → StandsFor it.window (elements_for it.code gained ++ elements)
  with_all_wanted [] elements stands = stands
  with_all_wanted (entry ∷ gained) elements stands =
      let others = elements_for it.code gained in
      subst (StandsFor it.window) (sym (append_assoc (entry_elements it.code entry) others elements)) (
      with_wanted it.window entry.timestamp (others ++ elements) (element_for it.code (line_of entry) entry.timestamp) (line_at it.code (line_of entry) entry.timestamp entry.fits) (
      put-between it.window (wants it entry) others elements (with_all_wanted gained (put (wants it entry) elements) stands)
      )
      )

  -- and the other way
  all_wanted_of : (gained : List Entry) (elements : List Element) → StandsFor it.window (elements_for it.code gained ++ elements) → StandsFor it.window (put_all (wants it) gained elements)
  all_wanted_of [] elements stands = stands
  all_wanted_of (entry ∷ gained) elements stands =
      let others = elements_for it.code gained in
      all_wanted_of gained (put (wants it entry) elements) (
      between-put it.window (wants it entry) others elements (
      wanted_of it.window entry.timestamp (others ++ elements) (element_for it.code (line_of entry) entry.timestamp) (line_at it.code (line_of entry) entry.timestamp entry.fits) (
      subst (StandsFor it.window) (append_assoc (entry_elements it.code entry) others elements) stands
      )
      )
      )

  -- it wants nothing of entries before the first timestamp that it needs
  none_wanted : (first : ℕ) (others : List Entry) (elements : List Element) → IsNeededFrom first it → AllByRecursion (λ entry. entry.timestamp < first) others → put_all (wants it) others elements ≡ elements
  none_wanted first [] elements needed early = refl
  none_wanted first (entry ∷ others) elements needed early =
      let late : nat_lt it.window.moment (entry.timestamp + it.window.seconds * second) ≡ false = le-ltb it.window.moment (entry.timestamp + it.window.seconds * second) (omega (arith, needed, early.0)) in
      ap (λ b. put_all (wants it) others (put (cond b (element_for it.code (line_of entry) entry.timestamp) None) elements)) late
      ∙ none_wanted first others elements needed early.1

-- the changes of entries went in one after the other, so the windows stand for these entries more
pub exact-added : (gained entries : List Entry) (slots others : List SlotView) → map outline others ≡ map outline slots
    → AllStand others (with_changes (changes_of_all gained slots) (λ _ _ code. elements_for code entries)) → AreExact others (gained ++ entries)
exact-added gained entries slots others same = each_window others
    (λ s w it. StandsFor it.window (with_changes (changes_of_all gained slots) (λ _ _ code. elements_for code entries) s w it.code))
    (λ s w it. StandsFor it.window (elements_for it.code (gained ++ entries)))
    (λ s w slot it there window stands.
    let own = range_there slots others s w slot it same there window in
    subst (StandsFor it.window) (sym (flat_map-append (entry_elements it.code) gained entries)) (
    with_all_wanted it gained (elements_for it.code entries) (
    subst (StandsFor it.window) (
    all_changed gained slots (λ _ _ code. elements_for code entries) s w own.0 own.2.0 it.code own.1 own.2.1
    ∙ ap (λ (r : RangeWindow). put_all (wants r) gained (elements_for it.code entries)) own.2.2
    ) stands
    )
    ))

-- and that they stand for these more says what they are to stand for while the changes of these are in
pub exact-changed : (lost entries : List Entry) (slots others : List SlotView) → map outline others ≡ map outline slots
    → AreExact others (lost ++ entries) → AllStand others (with_changes (changes_of_all lost slots) (λ _ _ code. elements_for code entries))
exact-changed lost entries slots others same = each_window others
    (λ s w it. StandsFor it.window (elements_for it.code (lost ++ entries)))
    (λ s w it. StandsFor it.window (with_changes (changes_of_all lost slots) (λ _ _ code. elements_for code entries) s w it.code))
    (λ s w slot it there window stands.
    let own = range_there slots others s w slot it same there window in
    subst (StandsFor it.window) (sym (
    all_changed lost slots (λ _ _ code. elements_for code entries) s w own.0 own.2.0 it.code own.1 own.2.1
    ∙ ap (λ (r : RangeWindow). put_all (wants r) lost (elements_for it.code entries)) own.2.2
    )) (
    all_wanted_of it lost (elements_for it.code entries) (subst (StandsFor it.window) (flat_map-append (entry_elements it.code) lost entries) stands)
    ))

-- NEEDED

-- where no window needs a line before a timestamp, the one at some indices does not
needed_at : (first : ℕ) (slots : List SlotView) (s w : ℕ) (slot : SlotView) (it : RangeWindow) → AreNeededFrom first slots → slice_get slots s ≡ Some slot → slice_get slot.windows w ≡ Some it → IsNeededFrom first it
needed_at first slots s w slot it needed there window = at_index (IsNeededFrom first) slot.windows w it window (at_index (λ (slot : SlotView). AllByRecursion (IsNeededFrom first) slot.windows) slots s slot there needed)

-- windows that need no line before a timestamp stand for entries before it too
pub exact-unneeded : (first : ℕ) (slots : List SlotView) (others entries : List Entry) → AreNeededFrom first slots → AllByRecursion (λ entry. entry.timestamp < first) others → AreExact slots entries → AreExact slots (others ++ entries)
exact-unneeded first slots others entries needed early = each_window slots
    (λ s w it. StandsFor it.window (elements_for it.code entries))
    (λ s w it. StandsFor it.window (elements_for it.code (others ++ entries)))
    (λ s w slot it there window stands.
    subst (StandsFor it.window) (sym (flat_map-append (entry_elements it.code) others entries)) (
    with_all_wanted it others (elements_for it.code entries) (
    subst (StandsFor it.window) (sym (none_wanted it first others (elements_for it.code entries) (needed_at first slots s w slot it needed there window) early)) stands
    )
    ))

-- and, where they stand for them, also without them
pub exact-needed : (first : ℕ) (slots : List SlotView) (others entries : List Entry) → AreNeededFrom first slots → AllByRecursion (λ entry. entry.timestamp < first) others → AreExact slots (others ++ entries) → AreExact slots entries
exact-needed first slots others entries needed early = each_window slots
    (λ s w it. StandsFor it.window (elements_for it.code (others ++ entries)))
    (λ s w it. StandsFor it.window (elements_for it.code entries))
    (λ s w slot it there window stands.
    subst (StandsFor it.window) (none_wanted it first others (elements_for it.code entries) (needed_at first slots s w slot it needed there window) early) (
    all_wanted_of it others (elements_for it.code entries) (subst (StandsFor it.window) (flat_map-append (entry_elements it.code) others entries) stands)
    ))

module _ (first : ℕ) where
  -- windows and their ranges need lines from the same timestamp on, and so slots and their outlines
  windows_shown : (windows : List RangeWindow) → AllByRecursion (IsNeededFrom first) windows → AllByRecursion (IsNeededFrom first) (map range_of windows)
  windows_shown [] needed = tt
  windows_shown (it ∷ windows) needed = (needed.0, windows_shown windows needed.1)

  windows_hidden : (windows : List RangeWindow) → AllByRecursion (IsNeededFrom first) (map range_of windows) → AllByRecursion (IsNeededFrom first) windows
  windows_hidden [] needed = tt
  windows_hidden (it ∷ windows) needed = (needed.0, windows_hidden windows needed.1)

  slots_shown : (slots : List SlotView) → AreNeededFrom first slots → AreNeededFrom first (map outline slots)
  slots_shown [] needed = tt
  slots_shown (slot ∷ slots) needed = (windows_shown slot.windows needed.0, slots_shown slots needed.1)

  slots_hidden : (slots : List SlotView) → AreNeededFrom first (map outline slots) → AreNeededFrom first slots
  slots_hidden [] needed = tt
  slots_hidden (slot ∷ slots) needed = (windows_hidden slot.windows needed.0, slots_hidden slots needed.1)

-- slots that differ in the lines of their windows alone need lines from the same timestamp on
pub needed-outline : (first : ℕ) (slots others : List SlotView) → map outline others ≡ map outline slots → AreNeededFrom first slots → AreNeededFrom first others
needed-outline first slots others same needed = slots_hidden first others (subst (AreNeededFrom first) (sym same) (slots_shown first slots needed))

-- LINES

-- what holds of the changes of two lists holds of those of both
pub of_both : (P : Change → Type 0) (xs ys : List Change) → AllByRecursion P xs → AllByRecursion P ys → AllByRecursion P (xs ++ ys)
of_both P [] ys p q = q
of_both P (x ∷ xs) ys p q = (p.0, of_both P xs ys p.1 q)

-- a change is of one line, and so are all
abbrev IsOne : Change → Type 0
IsOne change = IsOfLine change.element.volume

abbrev AreOfLine : List Change → Type 0
AreOfLine changes = AllByRecursion IsOne changes

module _ (line : StreamLine) (timestamp : ℕ) (short : length line.text ≤ longest_line) where
  of_found : (slot window : ℕ) (found : Option Element) → IfSome found (IsLineAt timestamp) → AreOfLine (map (λ (element : Element). record { slot = slot; window = window; element = element }) (option_to_list found))
  of_found slot window None is = tt
  of_found slot window (Some element) is = (is.1, tt)

  of_window : (slot window : ℕ) (it : RangeWindow) → AreOfLine (own line timestamp slot window it)
  of_window slot window it =
      elim (nat_lt it.window.moment (timestamp + it.window.seconds * second)) as (λ b. AreOfLine (map (λ (element : Element). record { slot = slot; window = window; element = element }) (option_to_list (cond b (element_for it.code line timestamp) None)))) [
        | true ↦ of_found slot window (element_for it.code line timestamp) (line_at it.code line timestamp short)
        | false ↦ tt
      ]

  of_windows : (slot first : ℕ) (windows : List RangeWindow) → AreOfLine (changes_in line timestamp slot first windows)
  of_windows slot first [] = tt
  of_windows slot first (it ∷ windows) = of_both IsOne (own line timestamp slot first it) (changes_in line timestamp slot (suc first) windows) (of_window slot first it) (of_windows slot (suc first) windows)

  of_slots : (first : ℕ) (slots : List SlotView) → AreOfLine (changes_from line timestamp first slots)
  of_slots first [] = tt
  of_slots first (slot ∷ slots) = of_both IsOne (changes_in line timestamp first 0 slot.windows) (changes_from line timestamp (suc first) slots) (of_windows first 0 slot.windows) (of_slots (suc first) slots)

-- what a line changes are elements of one line
pub changes-lines : (line : StreamLine) (timestamp : ℕ) → length line.text ≤ longest_line → (slots : List SlotView) → AllByRecursion (λ (change : Change). IsOfLine change.element.volume) (changes_of line timestamp slots)
changes-lines line timestamp short slots = of_slots line timestamp short 0 slots

-- and so what the lines of entries change
pub changes_of_all-lines : (entries : List Entry) (slots : List SlotView) → AllByRecursion (λ (change : Change). IsOfLine change.element.volume) (changes_of_all entries slots)
changes_of_all-lines [] slots = tt
changes_of_all-lines (entry ∷ entries) slots = of_both IsOne (changes_of (line_of entry) entry.timestamp slots) (changes_of_all entries slots) (changes-lines (line_of entry) entry.timestamp entry.fits slots) (changes_of_all-lines entries slots)
