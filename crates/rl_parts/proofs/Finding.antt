-- Where an entry is found, and where it is not.
use Rattle.std.proofs.Common.{◌≡◌, ℕ, zero, suc, ◌+◌, ◌<◌, ◌≤◌, ◌⊎◌, inl, inr, Bool, true, false, List, [], ◌∷◌, ◌++◌, length, get_or, map, take, Option, Some, None, refl, sym, ap, subst, ◌∙◌, append-nil, arith, Ordering}
use Rattle.std.specs.Prelude.{IsTrue, ◌↔◌}
use Rattle.std.specs.Option.{unwrap_or}
use Rattle.std.specs.List.{All, AllByRecursion, AllWithin, Contains, flat_map}
use Rattle.std.specs.Ordering.{ordering_reverse}
use Rattle.std.specs.declared.cmp.Ordering.TheVariants.{Less, Equal, Greater}
use Rattle.std.specs.Cmp.{IsTotalOrder}
use Rattle.std.proofs.lemmas.Bool.{cases_lt}
use Rattle.std.proofs.lemmas.List.{length-map, get_or-map, take_all}
use Rattle.std.proofs.lemmas.List.Concat.{flat_map-append}
use Rattle.std.proofs.lemmas.List.Elements.{All-contains, Contains-append_left, Contains-append_right, Contains-append_cases}
use Rattle.rl_labels.specs.LabelSet.{LabelSet}
use Rattle.rl_labels.specs.laws.OrderLaws.{same_entry}
use Rattle.rl_labels.specs.declared.entry.Entry.{Entry}
use Rattle.rl_chunks.specs.EntryLines.{line_of}
use Rattle.rl_chunks.specs.declared.line.Line.{Line}
use Rattle.rl_parts.specs.StreamParts.{Note, PartView}
use Rattle.rl_parts.specs.StreamState.{AreSealedUpTo}
use Rattle.rl_parts.specs.Reading.{IsOutside, IsWithout, in_memory, in_store}
use Rattle.rl_parts.specs.laws.EachLaws.{all_more, take_next}

no_true : {P : Type 0} → false ≡ true → P
no_true h = cc

-- what is so is answered by yes, and what is not by no
pub yes : {P : Type 0} → P → IsTrue true ↔ P
yes p = (λ _. p, λ _. refl)

pub no : {P : Type 0} → (P → ⊥) → IsTrue false ↔ P
no f = (λ h. no_true h, λ p. absurd (f p))

pub not_both : {b : Bool} → b ≡ true → b ≡ false → ⊥
not_both p q = no_true (sym q ∙ p)

module _ {K : Type 0} {R : K → K → Ordering} (o : IsTotalOrder R) where
  apart : (x y : Ordering) → x ≡ ordering_reverse x → (x ≡ Less) ⊎ (x ≡ Greater) → ⊥
  apart Less y h p = cc
  apart Equal y h (inl p) = cc
  apart Equal y h (inr p) = cc
  apart Greater y h p = cc

  -- a key between smaller and greater ones is not there
  pub not_there : (xs : List K) (q : K) (i : ℕ) → AllWithin (λ y. R y q ≡ Less) xs 0 i → AllWithin (λ y. R y q ≡ Greater) xs i (length xs) → Contains xs q → ⊥
  not_there xs q i before after there = elim (cases_lt there.0 i) [
    | inl lt ↦ apart (R q q) Less (o.antisymm q q) (inl (sym (ap (λ x. R x q) there.2) ∙ before there.0 q (omega arith) lt))
    | inr le ↦ apart (R q q) Less (o.antisymm q q) (inr (sym (ap (λ x. R x q) there.2) ∙ after there.0 q le there.1))
  ]

pub absent_all : {A : Type 0} (xs : List A) (i : ℕ) (q : A) → length xs ≤ i → (Contains (take i xs) q → ⊥) → Contains xs q → ⊥
absent_all xs i q le none there = none (subst (λ ys. Contains ys q) (sym (take_all i xs le)) there)

module _ (f : PartView → List Entry) where
  -- one part more, which does not have it
  pub absent_part : (parts : List PartView) (i : ℕ) (p : PartView) (q : Entry) → i < length parts → p ≡ get_or parts i p → (Contains (flat_map f (take i parts)) q → ⊥) → (Contains (f p) q → ⊥) → Contains (flat_map f (take (i + 1) parts)) q → ⊥
  absent_part parts i p q within is before here there =
      let all : flat_map f (take (i + 1) parts) ≡ flat_map f (take i parts) ++ f p = ap (flat_map f) (take_next parts i p within is) ∙ flat_map-append f (take i parts) (p ∷ []) ∙ ap (λ es. flat_map f (take i parts) ++ es) (append-nil (f p)) in
      elim (Contains-append_cases (flat_map f (take i parts)) (f p) q (subst (λ es. Contains es q) all there)) [ inl early ↦ before early | inr late ↦ here late ]

  pub absent_parts : (parts : List PartView) (i : ℕ) (q : Entry) → length parts ≤ i → (Contains (flat_map f (take i parts)) q → ⊥) → Contains (flat_map f parts) q → ⊥
  absent_parts parts i q le none there = none (subst (λ ps. Contains (flat_map f ps) q) (sym (take_all i parts le)) there)

  pub found_part : (parts : List PartView) (i : ℕ) (p : PartView) (q : Entry) → i < length parts → p ≡ get_or parts i p → Contains (f p) q → Contains (flat_map f parts) q
  found_part [] i p q within is here = absurd (omega arith)
  found_part (part ∷ parts) zero p q within is here = Contains-append_left (f part) (flat_map f parts) q (subst (λ p. Contains (f p) q) is here)
  found_part (part ∷ parts) (suc i) p q within is here = Contains-append_right (f part) (flat_map f parts) q (found_part parts i p q (omega arith) is here)

  -- what each part has of another is there too
  pub found_in : (g : PartView → List Entry) → ((p : PartView) (q : Entry) → Contains (f p) q → Contains (g p) q) → (parts : List PartView) (q : Entry) → Contains (flat_map f parts) q → Contains (flat_map g parts) q
  found_in g step [] q there = there
  found_in g step (part ∷ parts) q there = elim (Contains-append_cases (f part) (flat_map f parts) q there) [
    | inl here ↦ Contains-append_left (g part) (flat_map g parts) q (step part q here)
    | inr late ↦ Contains-append_right (g part) (flat_map g parts) q (found_in g step parts q late)
  ]

nothing : {A : Type 0} (q : A) → Contains [] q → ⊥
nothing q there = let within = there.1 in omega arith

from_memory : (part : PartView) (q : Entry) → Contains (in_memory part) q → Contains part.entries q
from_memory part q there = at part.note there
  where
    at : (note : Option Note) → Contains (in_memory (record { entries = part.entries; note = note })) q → Contains part.entries q
    at None h = h
    at (Some note) h = absurd (nothing q h)

from_store : (part : PartView) (q : Entry) → Contains (in_store part) q → Contains part.entries q
from_store part q there = at part.note there
  where
    at : (note : Option Note) → Contains (in_store (record { entries = part.entries; note = note })) q → Contains part.entries q
    at None h = absurd (nothing q h)
    at (Some note) h = h

either_location : (part : PartView) (q : Entry) → Contains part.entries q → Contains (in_memory part) q ⊎ Contains (in_store part) q
either_location part q there = at part.note
  where
    at : (note : Option Note) → Contains (in_memory (record { entries = part.entries; note = note })) q ⊎ Contains (in_store (record { entries = part.entries; note = note })) q
    at None = inl there
    at (Some note) = inr there

-- what stands in memory or in a store is an entry, and each entry stands in one of them
pub of_memory : (parts : List PartView) (q : Entry) → Contains (flat_map in_memory parts) q → Contains (flat_map (λ part. part.entries) parts) q
of_memory parts q there = found_in in_memory (λ part. part.entries) from_memory parts q there

pub of_store : (parts : List PartView) (q : Entry) → Contains (flat_map in_store parts) q → Contains (flat_map (λ part. part.entries) parts) q
of_store parts q there = found_in in_store (λ part. part.entries) from_store parts q there

pub of_either : (parts : List PartView) (q : Entry) → Contains (flat_map (λ part. part.entries) parts) q → Contains (flat_map in_memory parts) q ⊎ Contains (flat_map in_store parts) q
of_either [] q there = inl there
of_either (part ∷ parts) q there = elim (Contains-append_cases part.entries (flat_map (λ part. part.entries) parts) q there) [
  | inl here ↦ elim (either_location part q here) [
    | inl memory ↦ inl (Contains-append_left (in_memory part) (flat_map in_memory parts) q memory)
    | inr store ↦ inr (Contains-append_left (in_store part) (flat_map in_store parts) q store)
  ]
  | inr late ↦ elim (of_either parts q late) [
    | inl memory ↦ inl (Contains-append_right (in_memory part) (flat_map in_memory parts) q memory)
    | inr store ↦ inr (Contains-append_right (in_store part) (flat_map in_store parts) q store)
  ]
]

-- no part has an entry that is newer than all of them
pub above_all : (top : Option ℕ) (parts : List PartView) (q : Entry) → AreSealedUpTo top parts → unwrap_or top 0 < q.timestamp → Contains (flat_map (λ part. part.entries) parts) q → ⊥
above_all top [] q up_to lt there = nothing q there
above_all top (part ∷ parts) q up_to lt there = elim (Contains-append_cases part.entries (flat_map (λ part. part.entries) parts) q there) [
  | inl here ↦ (let le = All-contains (λ e. e.timestamp ≤ unwrap_or top 0) part.entries q up_to.0 here in omega arith)
  | inr late ↦ above_all top parts q up_to.1 lt late
]

-- the line of an entry is among the lines just where the entry is among the entries
pub line_found : (set : LabelSet) (entries : List Entry) (entry : Entry) → All (λ e. e.labels ≡ set) entries → entry.labels ≡ set → Contains (map line_of entries) (line_of entry) → Contains entries entry
line_found set entries entry same of there =
    let within : there.0 < length entries = subst (λ n. there.0 < n) (length-map entries line_of) there.1 in
    let line : line_of (get_or entries there.0 entry) ≡ line_of entry = sym (get_or-map line_of entries there.0 entry (line_of entry) within) ∙ there.2 in
    (there.0, within, same_entry (get_or entries there.0 entry) entry (same there.0 entry within ∙ sym of) (ap (λ (l : Line). l.timestamp) line) (ap (λ (l : Line). l.text) line))

pub line_there : (entries : List Entry) (entry : Entry) → Contains entries entry → Contains (map line_of entries) (line_of entry)
line_there entries entry there =
    (there.0, subst (λ n. there.0 < n) (sym (length-map entries line_of)) there.1, get_or-map line_of entries there.0 entry (line_of entry) there.1 ∙ ap line_of there.2)

-- an entry that stands neither in the head nor in memory is there just where a store has it
pub of_rest : (parts : List PartView) (head : List Entry) (q : Entry) → (Contains head q → ⊥) → (Contains (flat_map in_memory parts) q → ⊥) → (found : Bool) → IsTrue found ↔ Contains (flat_map in_store parts) q → IsTrue found ↔ Contains (flat_map (λ part. part.entries) parts ++ head) q
of_rest parts head q no_head no_memory found visited =
    let all : List Entry = flat_map (λ part. part.entries) parts in (
      λ t. Contains-append_left all head q (of_store parts q (visited.0 t)),
      λ there. elim (Contains-append_cases all head q there) [
        | inl here ↦ elim (of_either parts q here) [ inl memory ↦ absurd (no_memory memory) | inr store ↦ visited.1 store ]
        | inr late ↦ absurd (no_head late)
      ],
    )

-- what stands neither in the head nor in memory is not among what stands here
pub not_here : (parts : List PartView) (head : List Entry) (q : Entry) → (Contains head q → ⊥) → (Contains (flat_map in_memory parts) q → ⊥) → Contains (flat_map in_memory parts ++ head) q → ⊥
not_here parts head q no_head no_memory there = elim (Contains-append_cases (flat_map in_memory parts) head q there) [ inl memory ↦ no_memory memory | inr late ↦ no_head late ]

-- no store has an entry whose time no written part reaches
pub none_there : (parts : List PartView) (entry : Entry) → AllByRecursion (IsOutside entry.timestamp entry.timestamp) parts → Contains (flat_map in_store parts) entry → ⊥
none_there [] entry out there = nothing entry there
none_there (part ∷ parts) entry out there = elim (Contains-append_cases (in_store part) (flat_map in_store parts) entry there) [
  | inl here ↦ at part.note out.0 here
  | inr late ↦ none_there parts entry out.1 late
]
  where
    at : (note : Option Note) → IsOutside entry.timestamp entry.timestamp (record { entries = part.entries; note = note }) → Contains (in_store (record { entries = part.entries; note = note })) entry → ⊥
    at None apart h = nothing entry h
    at (Some note) (inl before) h = let lt = All-contains (λ e. e.timestamp < entry.timestamp) part.entries entry before h in omega arith
    at (Some note) (inr after) h = let lt = All-contains (λ e. entry.timestamp < e.timestamp) part.entries entry after h in omega arith

-- one more that is so
pub one_more : {A : Type 0} (P : A → Type 0) (xs : List A) (i : ℕ) (x : A) → i < length xs → x ≡ get_or xs i x → AllByRecursion P (take i xs) → P x → AllByRecursion P (take (i + 1) xs)
one_more P xs i x within is before here =
    subst (AllByRecursion P) (sym (take_next xs i x within is)) (all_more P (take i xs) x before here)

-- no part has an entry that is newer than all of them, wherever its entries are
pub without_above : (top : Option ℕ) (parts : List PartView) (entry : Entry) → AreSealedUpTo top parts → unwrap_or top 0 < entry.timestamp → AllByRecursion (IsWithout entry) parts
without_above top [] entry up_to lt = tt
without_above top (part ∷ parts) entry up_to lt = (at part.note, without_above top parts entry up_to.1 lt)
  where
    at : (note : Option Note) → IsWithout entry (record { entries = part.entries; note = note })
    at None = tt
    at (Some note) = inl (λ there. let le = All-contains (λ e. e.timestamp ≤ unwrap_or top 0) part.entries entry up_to.0 there in omega arith)
