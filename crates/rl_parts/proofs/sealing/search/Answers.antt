-- Entries of one stream compare as their lines do.
use Rattle.std.proofs.Common.{rules, ◌≡◌, ℕ, ◌≤◌, List, length, true, Result, Ok, Err, Ordering, refl, sym, ◌∙◌, arith}
use Rattle.std.specs.Prelude.{IfErr}
use Rattle.std.specs.List.{AllWithin}
use Rattle.std.specs.List.Sorted.{IsBinarySearchResult}
use Rattle.std.specs.Ordering.{is_lt}
use Rattle.std.specs.declared.cmp.Ordering.TheVariants.{Less, Equal, Greater}
use Rattle.std.proofs.lemmas.Fn.{always_returns_same}
use Rattle.rl_labels.specs.EntryOrder.{entry_cmp}
use Rattle.rl_labels.specs.laws.OrderLaws.{entry_cmp_total, entry_cmp-IsAntisymmetric}
use Rattle.rl_labels.specs.declared.entry.Entry.{Entry}
use Rattle.rl_chunks.specs.ChunkText.{line_cmp}
use Rattle.rl_chunks.specs.EntryLines.{line_of}
use Rattle.rl_parts.specs.StreamState.{BelongsAt}
use Rattle.rl_parts.proofs.InOrder.{all_less, stands, parts}
use Rattle.rl_parts.proofs.Lines.{last_of, lines_compare, searched}
use Rattle.rl_parts.proofs.sealing.search.Goals as goal

less : (o : Ordering) → is_lt o ≡ true → o ≡ Less
less Less h = refl
less Equal h = cc
less Greater h = cc

belongs : (xs : List Entry) (q : Entry) (r : Result ℕ ℕ) → IfErr r (λ i. (i ≤ length xs) × (AllWithin (λ y. entry_cmp y q ≡ Less) xs 0 i × AllWithin (λ y. entry_cmp y q ≡ Greater) xs i (length xs))) → IfErr r (λ i. BelongsAt xs q i)
belongs xs q (Ok i) h = tt
belongs xs q (Err i) h = record { within = h.0; before = h.1.0; after = h.1.1 }

pub returns-in-Some-clause-belongs : goal.returns-in-Some-clause-belongs
returns-in-Some-clause-belongs c =
    let entries = c.args.entries.now in
    let entry = c.args.entry.now in
    let last = c.in-Some.last.now in
    let same : last.labels ≡ entry.labels = last_of entry.labels entries last c.requires.labels (sym c.in-Some.ensures.value) in
    let below : entry_cmp last entry ≡ Less = lines_compare last entry same ∙ sym c.order.ensures ∙ less c.order.result (sym c.is_lt.ensures ∙ c.if-is_lt.true) in
    record { within = omega arith; before = all_less entry_cmp_total entries last entry c.requires.rising (sym c.in-Some.ensures.value) below; after = λ k d low high. absurd (omega (arith, low, high)) }

pub returns-in_default-clause-stands : goal.returns-in_default-clause-stands
returns-in_default-clause-stands c =
    let entries = c.args.entries.now in
    let entry = c.args.entry.now in
    let result = c.binary_search_by.result in
    let answered : IsBinarySearchResult (λ y. line_cmp (line_of y) (line_of entry)) entries result = c.binary_search_by.ensures.position (λ y. line_cmp (line_of y) (line_of entry)) (always_returns_same _ _ _ (λ a r f' k. search rules)) in
    stands entry_cmp_total entry_cmp-IsAntisymmetric entries entry result c.binary_search_by.ensures.bound (searched entry entries result c.requires.labels c.binary_search_by.ensures.bound answered)

pub returns-in_default-clause-belongs : goal.returns-in_default-clause-belongs
returns-in_default-clause-belongs c =
    let entries = c.args.entries.now in
    let entry = c.args.entry.now in
    let result = c.binary_search_by.result in
    let answered : IsBinarySearchResult (λ y. line_cmp (line_of y) (line_of entry)) entries result = c.binary_search_by.ensures.position (λ y. line_cmp (line_of y) (line_of entry)) (always_returns_same _ _ _ (λ a r f' k. search rules)) in
    belongs entries entry result (parts entry_cmp_total entries entry result c.requires.rising c.binary_search_by.ensures.bound (searched entry entries result c.requires.labels c.binary_search_by.ensures.bound answered))
