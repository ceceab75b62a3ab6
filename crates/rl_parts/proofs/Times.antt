-- Timestamps along entries of one stream in order.
use Rattle.std.proofs.Common.{◌≡◌, ℕ, ◌-◌, ◌<◌, ◌≤◌, List, [], ◌∷◌, ◌⊎◌, length, get_or, refl, sym, ap, subst, ◌∙◌, inl, inr, arith}
use Rattle.std.specs.Option.{option_map, unwrap_or}
use Rattle.std.specs.List.{All, Contains}
use Rattle.std.specs.Ordering.{nat_cmp, ordering_then, ordering_reverse}
use Rattle.std.specs.declared.cmp.Ordering.{Ordering}
use Rattle.std.specs.declared.cmp.Ordering.TheVariants.{Less, Equal, Greater}
use Rattle.std.specs.Cmp.{nat_cmp_is}
use Rattle.std.specs.Cmp.Lexicographic.{slice_cmp}
use Rattle.std.proofs.lemmas.Bool.{cases_lt}
use Rattle.std.proofs.lemmas.Option.{slice_get-get_or}
use Rattle.std.proofs.lemmas.Map.Keys.{Less-from_sorted}
use Rattle.rl_labels.specs.LabelSet.{LabelSet}
use Rattle.rl_labels.specs.LabelText.{label_set_cmp}
use Rattle.rl_labels.specs.EntryOrder.{entry_cmp}
use Rattle.rl_labels.specs.laws.TextLaws.{label_set_cmp_total}
use Rattle.rl_labels.specs.declared.entry.Entry.{Entry}
use Rattle.rl_parts.specs.StreamParts.{IsRun}
use Rattle.rl_parts.specs.PartState.{timestamp_at, IsRange}
use Rattle.rl_parts.specs.Reading.{IsApart}

tied : (o : Ordering) → o ≡ ordering_reverse o → o ≡ Equal
tied Less h = cc
tied Equal h = refl
tied Greater h = cc

pub same_labels : (s t : LabelSet) → s ≡ t → label_set_cmp s t ≡ Equal
same_labels s t e = subst (λ u. label_set_cmp s u ≡ Equal) e (tied (label_set_cmp s s) (label_set_cmp_total.antisymm s s))

-- of two entries of a stream the later one is greater
pub after : (a b : Entry) → a.labels ≡ b.labels → b.timestamp < a.timestamp → entry_cmp a b ≡ Greater
after a b same lt =
    let times : nat_cmp a.timestamp b.timestamp ≡ Greater = sym (nat_cmp_is a.timestamp b.timestamp Greater lt) in
    ap (λ o. ordering_then (ordering_then o (nat_cmp a.timestamp b.timestamp)) (slice_cmp nat_cmp a.line b.line)) (same_labels a.labels b.labels same)
    ∙ ap (λ o. ordering_then o (slice_cmp nat_cmp a.line b.line)) times

le_from_less : (a b : Entry) → a.labels ≡ b.labels → entry_cmp a b ≡ Less → a.timestamp ≤ b.timestamp
le_from_less a b same less = elim (cases_lt b.timestamp a.timestamp) [
  | inl lt ↦ (let apart : Greater ≡ Less = sym (after a b same lt) ∙ less in cc)
  | inr le ↦ le
]

pub timestamp_is : (xs : List Entry) (i : ℕ) (d : Entry) → i < length xs → timestamp_at xs i ≡ (get_or xs i d).timestamp
timestamp_is xs i d within = ap (λ found. unwrap_or (option_map (λ entry. entry.timestamp) found) 0) (slice_get-get_or xs i d within)

module _ (set : LabelSet) (xs : List Entry) (run : IsRun set xs) where
  rise : (i j : ℕ) (d : Entry) → i < j → j < length xs → (get_or xs i d).timestamp ≤ (get_or xs j d).timestamp
  rise i j d lt within = le_from_less (get_or xs i d) (get_or xs j d) (run.labels i d (omega arith) ∙ sym (run.labels j d within)) (Less-from_sorted entry_cmp xs i j d run.rising lt within)

  -- no entry is later than the last
  pub up_to_last : All (λ entry. entry.timestamp ≤ timestamp_at xs (length xs - 1)) xs
  up_to_last k d within = elim (cases_lt k (length xs - 1)) [
    | inl lt ↦ (let e = timestamp_is xs (length xs - 1) d (omega arith) in let le = rise k (length xs - 1) d lt (omega arith) in omega arith)
    | inr le ↦ (let here : k ≡ length xs - 1 = omega arith in let e = timestamp_is xs (length xs - 1) d (omega arith) in let f : (get_or xs k d).timestamp ≡ (get_or xs (length xs - 1) d).timestamp = ap (λ i. (get_or xs i d).timestamp) here in omega arith)
  ]

  -- and none is earlier than the first
  pub from_first : All (λ entry. timestamp_at xs 0 ≤ entry.timestamp) xs
  from_first k d within = elim (cases_lt 0 k) [
    | inl lt ↦ (let e = timestamp_is xs 0 d (omega arith) in let le = rise 0 k d lt within in omega arith)
    | inr le ↦ (let here : k ≡ 0 = omega arith in let e = timestamp_is xs 0 d (omega arith) in let f : (get_or xs k d).timestamp ≡ (get_or xs 0 d).timestamp = ap (λ i. (get_or xs i d).timestamp) here in omega arith)
  ]

-- an entry outside of the range of time is not there
pub outside : (set : LabelSet) (xs : List Entry) (first last : ℕ) (entry : Entry) → IsRun set xs → IsRange xs first last → (last < entry.timestamp) ⊎ (entry.timestamp < first) → Contains xs entry → ⊥
outside set xs first last entry run range (inl out) there =
    let low : (get_or xs there.0 entry).timestamp ≤ timestamp_at xs (length xs - 1) = up_to_last set xs run there.0 entry there.1 in
    let same : (get_or xs there.0 entry).timestamp ≡ entry.timestamp = ap (λ (e : Entry). e.timestamp) there.2 in
    omega (arith, range.end)
outside set xs first last entry run range (inr out) there =
    let low : timestamp_at xs 0 ≤ (get_or xs there.0 entry).timestamp = from_first set xs run there.0 entry there.1 in
    let same : (get_or xs there.0 entry).timestamp ≡ entry.timestamp = ap (λ (e : Entry). e.timestamp) there.2 in
    omega (arith, range.start)

-- entries whose range of time reaches into another are not apart from it
pub reaches : (xs : List Entry) (first last from to : ℕ) → IsRange xs first last → 0 < length xs → from ≤ last → first ≤ to → IsApart from to xs → ⊥
reaches [] first last from to range some low high apart = omega arith
reaches (x ∷ xs) first last from to range some low high (inl before) =
    let es : List Entry = x ∷ xs in
    let end = timestamp_is es (length es - 1) x (omega arith) in
    let lt : (get_or es (length es - 1) x).timestamp < from = before (length es - 1) x (omega arith) in
    omega (arith, range.end)
reaches (x ∷ xs) first last from to range some low high (inr following) =
    let lt : to < x.timestamp = following 0 x (omega arith) in
    omega (arith, range.start)

-- entries whose range of time is outside are apart from it
pub apart_from : (set : LabelSet) (xs : List Entry) (first last from to : ℕ) → IsRun set xs → IsRange xs first last → (last < from) ⊎ (to < first) → IsApart from to xs
apart_from set xs first last from to run range (inl out) = inl (λ k d within. let le = up_to_last set xs run k d within in omega (arith, range.end))
apart_from set xs first last from to run range (inr out) = inr (λ k d within. let le = from_first set xs run k d within in omega (arith, range.start))
