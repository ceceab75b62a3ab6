-- Windows that stand for what entries add to them: whatever the order of the entries, and in slots that are set.
use Rattle.std.specs.Prelude.{◌≡◌, ℕ, zero, suc, ◌+◌, ◌*◌, ◌==◌, nat_le, Bool, true, false, cond, ◌&&◌, List, [], ◌∷◌, ◌++◌, None, Some, IfSome, slice_get, slice_set, refl}
use Rattle.std.specs.List.{position, AllByRecursion, sum_by}
use Rattle.std.proofs.Common.{sym, ap, subst, ◌∙◌, arith}
use Rattle.std.proofs.lemmas.Bool.{and_from, and_parts, le-leb, leb-true}
use Rattle.std.proofs.lemmas.List.{map-append}
use Rattle.std.proofs.lemmas.List.Sums.{sum_by-append, sum_by-cons}
use Rattle.std.proofs.lemmas.Option.{none-some, same_Some, IfSome_then}
use Rattle.rl_labels.specs.EntryParts.{longest_line}
use Rattle.rl_labels.specs.declared.entry.Entry.{Entry}
use Rattle.rl_aggregate.specs.declared.volume.Volume.{Volume}
use Rattle.rl_windows.specs.Buckets.{AreAlike, AreShort, Lines}
use Rattle.rl_windows.specs.Ranges.{elements_for, entry_elements}
use Rattle.rl_windows.specs.Windows.{is_needed, lines_of, StandsFor, WindowView}
use Rattle.rl_windows.specs.declared.element.Element.{Element}
use Rattle.rl_windows.specs.declared.element.Stamp.{Stamp}
use Rattle.rl_windows.specs.declared.range.RangeCode.{RangeCode}
use Rattle.rl_windows.specs.laws.Alike.{alike-filter}
use Rattle.rl_slots.specs.Slots.{put_at, with_slot, AreExact, AreExactIn, SlotView}
use Rattle.rl_slots.specs.declared.range_window.RangeWindow.{RangeWindow}

-- SUMS

module _ (number : Stamp × Volume → ℕ) where
  -- a number for each line of one stamp, added up over elements
  abbrev pub total : List Element → ℕ
  total elements = sum_by number (lines_of elements)

  pub total-append : (xs ys : List Element) → total (xs ++ ys) ≡ total xs + total ys
  total-append xs ys = ap (sum_by number) (map-append (λ (element : Element). (element.stamp, element.volume)) xs ys) ∙ sum_by-append number (lines_of xs) (lines_of ys)

  pub total-cons : (element : Element) (elements : List Element) → total (element ∷ elements) ≡ number (element.stamp, element.volume) + total elements
  total-cons element elements = sum_by-cons number (element.stamp, element.volume) (lines_of elements)

  -- an element counts the same wherever it stands
  pub total-between : (element : Element) (xs ys : List Element) → total (element ∷ (xs ++ ys)) ≡ total (xs ++ element ∷ ys)
  total-between element xs ys = omega (arith, total-cons element (xs ++ ys), total-append xs ys, total-append xs (element ∷ ys), total-cons element ys)

-- a number for each line of one stamp, added up over what entries add to windows of a range
entry-sums : (number : Stamp × Volume → ℕ) (code : RangeCode) (entries : List Entry)
    → sum_by number (lines_of (elements_for code entries)) ≡ sum_by (λ entry. sum_by number (lines_of (entry_elements code entry))) entries
entry-sums number code [] = refl
entry-sums number code (entry ∷ entries) =
    total-append number (entry_elements code entry) (elements_for code entries)
    ∙ ap (λ n. total number (entry_elements code entry) + n) (entry-sums number code entries)
    ∙ sym (sum_by-cons (λ entry. sum_by number (lines_of (entry_elements code entry))) entry entries)

-- 1 for lines that are not short
abbrev one_if_long : Stamp × Volume → ℕ
one_if_long line = cond (nat_le 1 line.1.count && nat_le line.1.bytes (line.1.count * longest_line)) 0 1

-- all lines are short where there are none of these, and the other way
none-long : (lines : Lines) → AreShort lines → sum_by one_if_long lines ≡ 0
none-long [] short = refl
none-long (line ∷ lines) short =
    let own : one_if_long line ≡ 0 = ap (λ b. cond b 0 1) (and_from _ _ (le-leb 1 line.1.count short.0.0) (le-leb line.1.bytes (line.1.count * longest_line) short.0.1)) in
    omega (arith, sum_by-cons one_if_long line lines, own, none-long lines short.1)

short-lines : (lines : Lines) → sum_by one_if_long lines ≡ 0 → AreShort lines
short-lines [] none = tt
short-lines (line ∷ lines) none =
    let both = sum_by-cons one_if_long line lines in
    let parts = and_parts (nat_le 1 line.1.count) (nat_le line.1.bytes (line.1.count * longest_line)) (passes _ (omega (arith, both, none))) in
    ((leb-true 1 line.1.count parts.0, leb-true line.1.bytes (line.1.count * longest_line) parts.1), short-lines lines (omega (arith, both, none)))
  where
    passes : (b : Bool) → ◌≡◌ {A = ℕ} (cond b 0 1) 0 → b ≡ true
    passes true none = refl
    passes false none = absurd (omega (arith, none))

-- ENTRIES IN ANOTHER ORDER

-- a window stands for elements with the same sums
pub stands-alike : (window : WindowView) (elements others : List Element)
    → ((number : Stamp × Volume → ℕ) → sum_by number (lines_of others) ≡ sum_by number (lines_of elements)) → StandsFor window elements → StandsFor window others
stands-alike window elements others same stands = (
  short-lines (lines_of others) (same one_if_long ∙ none-long (lines_of elements) stands.0),
  λ test. stands.1 test ∙ alike-filter (λ stamp. is_needed window.seconds window.moment stamp) (lines_of elements) (lines_of others) alike test,
)
  where
    alike : AreAlike (lines_of elements) (lines_of others)
    alike test = λ i. record {
      count = sym (same (λ line. cond (test line.0) line.1.count 0)) i;
      bytes = sym (same (λ line. cond (test line.0) line.1.bytes 0)) i;
    }

-- windows that stand for what entries add to them stand for what the entries add in any order
pub exact-alike : (slots : List SlotView) (entries others : List Entry) → ((number : Entry → ℕ) → sum_by number others ≡ sum_by number entries) → AreExact slots entries → AreExact slots others
exact-alike slots entries others same exact s = IfSome_then (slice_get slots s) (exact s) (λ slot stand w. IfSome_then (slice_get slot.windows w) (stand w) (λ it. alike it))
  where
    alike : (it : RangeWindow) → StandsFor it.window (elements_for it.code entries) → StandsFor it.window (elements_for it.code others)
    alike it = stands-alike it.window (elements_for it.code entries) (elements_for it.code others) (λ number.
        entry-sums number it.code others
        ∙ same (λ entry. sum_by number (lines_of (entry_elements it.code entry)))
        ∙ sym (entry-sums number it.code entries))

-- ONE OF SEVERAL

-- what holds of each item of a list holds of the one at an index
pub at_index : {X : Type 0} (P : X → Type 0) (items : List X) (index : ℕ) (item : X) → slice_get items index ≡ Some item → AllByRecursion P items → P item
at_index P [] index item there all = absurd (none-some item there)
at_index P (first ∷ items) zero item there all = subst P (same_Some first item there) all.0
at_index P (first ∷ items) (suc index) item there all = at_index P items index item there all.1

-- SLOTS

module _ {X : Type 0} (P : X → Type 0) where
  -- it holds of each item
  abbrev HoldsOf : List X → Type 0
  HoldsOf items = (index : ℕ) → IfSome (slice_get items index) P

  -- what holds of each item and of another holds with that beside them
  one_beside : (items : List X) (item : X) → P item → HoldsOf items → HoldsOf (items ++ item ∷ [])
  one_beside [] item own all zero = own
  one_beside [] item own all (suc index) = tt
  one_beside (first ∷ items) item own all zero = all 0
  one_beside (first ∷ items) item own all (suc index) = one_beside items item own (λ i. all (suc i)) index

  -- and in the stead of one of them
  one_set : (items : List X) (at : ℕ) (item : X) → P item → HoldsOf items → HoldsOf (slice_set items at item)
  one_set [] at item own all index = tt
  one_set (first ∷ items) zero item own all zero = own
  one_set (first ∷ items) zero item own all (suc index) = all (suc index)
  one_set (first ∷ items) (suc at) item own all zero = all 0
  one_set (first ∷ items) (suc at) item own all (suc index) = one_set items at item own (λ i. all (suc i)) index

-- slots stand for what entries add to them also with one that does
pub exact-set : (slot : SlotView) (slots : List SlotView) (entries : List Entry) → AreExactIn slot.windows entries → AreExact slots entries → AreExact (with_slot slot slots) entries
exact-set slot slots entries own exact = elim (position (λ own. own.number == slot.number) slots) as (λ index. AreExact (put_at index slot slots) entries) [
  | None ↦ one_beside (λ slot. AreExactIn slot.windows entries) slots slot own exact
  | Some index ↦ one_set (λ slot. AreExactIn slot.windows entries) slots index slot own exact
]

-- no slots do
pub exact-none : (entries : List Entry) → AreExact [] entries
exact-none entries = λ _. tt
