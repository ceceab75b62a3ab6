-- Where an entry of the streams stands: in the stream that has its labels, and in no other.
use Rattle.std.proofs.Common.{◌≡◌, ℕ, zero, suc, Bool, true, false, ◌||◌, ◌↔◌, Some, List, [], ◌∷◌, slice_get, get_or, refl, sym, ap, subst, ◌∙◌, true≢false, IsTrue, Contains, arith}
use Rattle.std.specs.List.{All, AllByRecursion, IsDistinct}
use Rattle.std.specs.Map.{keys_of}
use Rattle.std.specs.Ordering.{eq_by_cmp, is_eq}
use Rattle.std.specs.Cmp.{Equal-is, tied_itself}
use Rattle.std.proofs.lemmas.List.Folds.{list_any-append, list_any_none, list_any_at}
use Rattle.std.proofs.lemmas.List.Elements.{Contains-get_or, Contains-append_right}
use Rattle.std.proofs.lemmas.Map.Keys.{IsDistinct-head, IsDistinct-tail}
use Rattle.rl_labels.specs.LabelSet.{LabelSet}
use Rattle.rl_labels.specs.LabelText.{label_set_eq}
use Rattle.rl_labels.specs.EntryOrder.{entry_cmp}
use Rattle.rl_labels.specs.laws.OrderLaws.{entry_cmp_total, entry_cmp-IsAntisymmetric}
use Rattle.rl_labels.specs.laws.TextLaws.{label_set_eq_itself}
use Rattle.rl_labels.specs.declared.entry.Entry.{Entry}
use Rattle.rl_parts.specs.StreamParts.{StreamView, entries_of}
use Rattle.rl_streams.specs.StreamRows.{Row, joined, is_among, IsOwn}
use Rattle.rl_streams.proofs.RowChanges.{same_some, not_none, of_keys}

-- label sets that differ are not equal
differ : (a b : LabelSet) → label_set_eq a b ≡ false → a ≡ b → ⊥
differ a b apart same = true≢false (sym (label_set_eq_itself a) ∙ ap (label_set_eq a) same ∙ apart)

module _ (entry : Entry) where
  -- an entry that ties has the labels
  tie : (other : Entry) → eq_by_cmp entry_cmp entry other ≡ true → entry ≡ other
  tie other e = entry_cmp-IsAntisymmetric entry other ((Equal-is (entry_cmp entry other)).0 e)

  -- it is not among entries with other labels
  pub not_among : (labels : LabelSet) (others : List Entry) → (labels ≡ entry.labels → ⊥) → All (λ other. other.labels ≡ labels) others → is_among entry others ≡ false
  not_among labels others apart own = list_any_none (eq_by_cmp entry_cmp entry) others (λ k d within. by (get_or others k d) (own k d within) (eq_by_cmp entry_cmp entry (get_or others k d)) refl)
    where
      by : (other : Entry) → other.labels ≡ labels → (b : Bool) → eq_by_cmp entry_cmp entry other ≡ b → eq_by_cmp entry_cmp entry other ≡ false
      by other of true e = absurd (apart (sym of ∙ sym (ap (λ (x : Entry). x.labels) (tie other e))))
      by other of false e = e

  -- nor held by streams with other labels
  pub not_held : (rows : List Row) → AllByRecursion IsOwn rows → AllByRecursion (λ row. label_set_eq entry.labels row.0 ≡ false) rows → is_among entry (joined rows) ≡ false
  not_held [] own apart = refl
  not_held (row ∷ rows) own apart =
      list_any-append (eq_by_cmp entry_cmp entry) (entries_of row.1) (joined rows)
      ∙ ap (λ b. b || is_among entry (joined rows)) (not_among row.0 (entries_of row.1) (λ e. differ entry.labels row.0 apart.0 (sym e)) own.0.entries)
      ∙ not_held rows own.1 apart.1

  -- what holds it is the stream that has its labels
  pub held_at : (rows : List Row) (i : ℕ) (stream : StreamView) → AllByRecursion IsOwn rows → IsDistinct label_set_eq (keys_of rows) → slice_get rows i ≡ Some (entry.labels, stream) → is_among entry (joined rows) ≡ is_among entry (entries_of stream)
  held_at [] i stream own apart at = absurd (not_none (entry.labels, stream) at)
  held_at (row ∷ rows) zero stream own apart at =
      let here : row ≡ (entry.labels, stream) = same_some row (entry.labels, stream) at in
      let others : AllByRecursion (λ row. label_set_eq entry.labels row.0 ≡ false) rows =
      subst (λ (labels : LabelSet). AllByRecursion (λ (row : Row). label_set_eq labels row.0 ≡ false) rows) (ap (λ (row : Row). row.0) here) (of_keys (λ y. label_set_eq row.0 y ≡ false) rows (IsDistinct-head label_set_eq row.0 (keys_of rows) apart)) in
      list_any-append (eq_by_cmp entry_cmp entry) (entries_of row.1) (joined rows)
      ∙ ap (λ b. is_among entry (entries_of row.1) || b) (not_held rows own.1 others)
      ∙ or_false (is_among entry (entries_of row.1))
      ∙ ap (λ (row : Row). is_among entry (entries_of row.1)) here
    where
      or_false : (b : Bool) → (b || false) ≡ b
      or_false true = refl
      or_false false = refl
  held_at (row ∷ rows) (suc i) stream own apart at =
      list_any-append (eq_by_cmp entry_cmp entry) (entries_of row.1) (joined rows)
      ∙ ap (λ b. b || is_among entry (joined rows)) (not_among row.0 (entries_of row.1) (differ row.0 entry.labels (at_key rows i stream (IsDistinct-head label_set_eq row.0 (keys_of rows) apart) at)) own.0.entries)
      ∙ held_at rows i stream own.1 (IsDistinct-tail label_set_eq row.0 (keys_of rows) apart) at
    where
      at_key : (rows : List Row) (i : ℕ) (stream : StreamView) → AllByRecursion (λ y. label_set_eq row.0 y ≡ false) (keys_of rows) → slice_get rows i ≡ Some (entry.labels, stream) → label_set_eq row.0 entry.labels ≡ false
      at_key [] i stream h at = absurd (not_none (entry.labels, stream) at)
      at_key (e ∷ es) zero stream h at = ap (label_set_eq row.0) (sym (ap (λ (row : Row). row.0) (same_some e (entry.labels, stream) at))) ∙ h.0
      at_key (e ∷ es) (suc i) stream h at = at_key es i stream h.1 at

  -- it is among entries where it is one of them
  pub among_from_contains : (entries : List Entry) → Contains entries entry → is_among entry entries ≡ true
  among_from_contains entries there = list_any_at (eq_by_cmp entry_cmp entry) entries there.0 entry there.1 (ap (eq_by_cmp entry_cmp entry) there.2 ∙ ap is_eq (tied_itself entry_cmp_total entry))

  pub contains_from_among : (entries : List Entry) → is_among entry entries ≡ true → Contains entries entry
  contains_from_among [] h = absurd (true≢false (sym h))
  contains_from_among (x ∷ xs) h = by (eq_by_cmp entry_cmp entry x) refl h (contains_from_among xs)
    where
      by : (b : Bool) → eq_by_cmp entry_cmp entry x ≡ b → (b || is_among entry xs) ≡ true → (is_among entry xs ≡ true → Contains xs entry) → Contains (x ∷ xs) entry
      by true e h rest = subst (Contains (x ∷ xs)) (sym (tie x e)) (Contains-get_or (x ∷ xs) 0 x (omega arith))
      by false e h rest = Contains-append_right (x ∷ []) xs entry (rest h)

  -- an answer to whether it is one of them
  pub answer_is : (answer : Bool) (entries : List Entry) → IsTrue answer ↔ Contains entries entry → answer ≡ is_among entry entries
  answer_is true entries h = sym (among_from_contains entries (h.0 refl))
  answer_is false entries h = by (is_among entry entries) refl
    where
      by : (b : Bool) → is_among entry entries ≡ b → false ≡ is_among entry entries
      by true e = absurd (true≢false (sym (h.1 (contains_from_among entries e))))
      by false e = sym e
