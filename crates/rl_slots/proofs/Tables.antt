-- Tables by streams: what is found in them, and what leaves them as they are.
use Rattle.std.proofs.Common.{◌≡◌, ℕ, suc, ◌≤◌, Bool, true, false, cond, List, [], ◌∷◌, ◌++◌, length, map, Some, Result, Ok, Err, refl, sym, ap, subst, ◌∙◌}
use Rattle.std.specs.Prelude.{slice_get, slice_set, ◌+◌}
use Rattle.std.specs.List.{sum_by}
use Rattle.std.specs.Map.{lookup}
use Rattle.std.specs.Result.{OnOk}
use Rattle.std.proofs.lemmas.List.Sums.{sum_by-cons}
use Rattle.std.proofs.lemmas.Option.{none-some, same_Some}
use Rattle.indexmap.specs.IndexMap.{insert_entry}
use Rattle.rl_labels.specs.LabelSet.{LabelSet}
use Rattle.rl_labels.specs.LabelText.{label_set_eq}
use Rattle.rl_labels.specs.Selects.{selects}
use Rattle.rl_labels.specs.laws.TextLaws.{label_set_eq-true}
use Rattle.rl_query.specs.declared.query.Term.{Term}
use Rattle.rl_windows.specs.declared.range.RangeCode.{RangeCode}
use Rattle.rl_slots.specs.Slots.{key_of, outline, range_of, selecting_from, selecting_in, term_count, AreSelecting, IsTable, SlotView}
use Rattle.rl_slots.proofs.Setting.{set_seen}
use Rattle.rl_slots.specs.declared.window_index.WindowIndex.{WindowIndex}
use Rattle.rl_slots.specs.declared.range_window.RangeWindow.{RangeWindow}

-- what holds whatever comes of it holds where it went well
pub on_ok : {T E P : Type 0} (r : Result T E) → P → OnOk r P
on_ok (Ok x) p = p
on_ok (Err e) p = tt

-- ROWS

module _ (slots : List SlotView) where
  -- a stream that is found has the indices of its windows
  pub found : (labels : LabelSet) (rows : List (LabelSet × List WindowIndex)) (indices : List WindowIndex) → lookup (label_set_eq labels) rows ≡ Some indices → IsTable slots rows → AreSelecting slots labels indices
  found labels [] indices there table = absurd (none-some indices there)
  found labels (row ∷ rows) indices there table = by (λ there. found labels rows indices there table.1) (label_set_eq labels row.0) refl there
    where
      by : (lookup (label_set_eq labels) rows ≡ Some indices → AreSelecting slots labels indices) → (b : Bool) → label_set_eq labels row.0 ≡ b → cond b (Some row.1) (lookup (label_set_eq labels) rows) ≡ Some indices → AreSelecting slots labels indices
      by later true is there = subst (AreSelecting slots labels) (same_Some row.1 indices there) (subst (λ l. AreSelecting slots l row.1) (sym (label_set_eq-true labels row.0 is)) table.0)
      by later false is there = later there

  -- one stream more
  pub kept : (labels : LabelSet) (rows : List (LabelSet × List WindowIndex)) (indices : List WindowIndex) → IsTable slots rows → AreSelecting slots labels indices → IsTable slots (insert_entry label_set_eq rows labels indices)
  kept labels [] indices table are = (are, tt)
  kept labels (row ∷ rows) indices table are = by (kept labels rows indices table.1 are) (label_set_eq labels row.0) refl
    where
      by : IsTable slots (insert_entry label_set_eq rows labels indices) → (b : Bool) → label_set_eq labels row.0 ≡ b → IsTable slots (cond b ((row.0, indices) ∷ rows) (row ∷ insert_entry label_set_eq rows labels indices))
      by later true is = (subst (λ l. AreSelecting slots l indices) (label_set_eq-true labels row.0 is) are, table.1)
      by later false is = (table.0, later)

-- SLOTS

-- what a table rests on of a slot: its terms, and the ranges of its windows
abbrev pub asked_of : SlotView → List Term × List (RangeCode × ℕ)
asked_of slot = (slot.terms, map key_of slot.windows)

module _ (labels : LabelSet) where
  abbrev indices_in : (slot first : ℕ) → List (RangeCode × ℕ) → List WindowIndex
  indices_in slot first [] = []
  indices_in slot first (key ∷ keys) = cond (selects key.0.selector labels) (record { slot = slot; window = first } ∷ []) [] ++ indices_in slot (suc first) keys

  abbrev indices_from : (first : ℕ) → List (List Term × List (RangeCode × ℕ)) → List WindowIndex
  indices_from first [] = []
  indices_from first (asked ∷ others) = indices_in first 0 asked.1 ++ indices_from (suc first) others

  by_keys : (slot first : ℕ) (windows : List RangeWindow) → selecting_in labels slot first windows ≡ indices_in slot first (map key_of windows)
  by_keys slot first [] = refl
  by_keys slot first (it ∷ windows) = ap (λ rest. cond (selects it.code.selector labels) (record { slot = slot; window = first } ∷ []) [] ++ rest) (by_keys slot (suc first) windows)

  by_asked : (first : ℕ) (slots : List SlotView) → selecting_from labels first slots ≡ indices_from first (map asked_of slots)
  by_asked first [] = refl
  by_asked first (slot ∷ slots) = ap (λ indices. indices ++ selecting_from labels (suc first) slots) (by_keys first 0 slot.windows) ∙ ap (λ rest. indices_in first 0 (map key_of slot.windows) ++ rest) (by_asked (suc first) slots)

abbrev terms_in : List Term × List (RangeCode × ℕ) → ℕ
terms_in asked = length asked.0

count_asked : (slots : List SlotView) → term_count slots ≡ sum_by terms_in (map asked_of slots)
count_asked [] = refl
count_asked (slot ∷ slots) = sum_by-cons (λ (s : SlotView). length s.terms) slot slots ∙ ap (λ n. length slot.terms + n) (count_asked slots) ∙ sym (sum_by-cons terms_in (asked_of slot) (map asked_of slots))

same_selecting : (slots others : List SlotView) (labels : LabelSet) (indices : List WindowIndex) → map asked_of others ≡ map asked_of slots → AreSelecting slots labels indices → AreSelecting others labels indices
same_selecting slots others labels indices same are = (
  are.0 ∙ by_asked labels 0 slots ∙ ap (indices_from labels 0) (sym same) ∙ sym (by_asked labels 0 others),
  subst (λ n. length indices ≤ n) (count_asked slots ∙ ap (sum_by terms_in) (sym same) ∙ sym (count_asked others)) are.1,
)

-- a table of slots is one of others that have the same terms and ranges
pub same_table : (slots others : List SlotView) (rows : List (LabelSet × List WindowIndex)) → map asked_of others ≡ map asked_of slots → IsTable slots rows → IsTable others rows
same_table slots others [] same table = tt
same_table slots others (row ∷ rows) same table = (same_selecting slots others row.0 row.1 same table.0, same_table slots others rows same table.1)

-- so where one slot has its terms and ranges still
pub table_kept : (slots : List SlotView) (k : ℕ) (x y : SlotView) (rows : List (LabelSet × List WindowIndex)) → slice_get slots k ≡ Some x → y.terms ≡ x.terms → map key_of y.windows ≡ map key_of x.windows → IsTable slots rows → IsTable (slice_set slots k y) rows
table_kept slots k x y rows there terms ranges = same_table slots (slice_set slots k y) rows (set_seen asked_of slots k x y there (λ i. (terms i, ranges i)))

-- the ranges of windows are those of their outlines
of_ranges : (windows : List RangeWindow) → map key_of windows ≡ map key_of (map range_of windows)
of_ranges [] = refl
of_ranges (it ∷ windows) = ap (λ rest. key_of it ∷ rest) (of_ranges windows)

pub same_ranges : (x y : SlotView) → outline y ≡ outline x → map key_of y.windows ≡ map key_of x.windows
same_ranges x y same = of_ranges y.windows ∙ ap (λ (slot : SlotView). map key_of slot.windows) same ∙ sym (of_ranges x.windows)
