-- Fingerprints in rising order, and that of an entry among them.
use Rattle.std.proofs.Common.{◌≡◌, ℕ, ◌<◌, ◌≤◌, List, length, get_or, map, Result, Ok, Err, sym, subst, ◌∙◌, inl, inr, arith}
use Rattle.std.specs.Prelude.{IsTrue, ◌↔◌, MatchResult}
use Rattle.std.specs.Result.{is_ok}
use Rattle.std.specs.Ordering.{nat_cmp}
use Rattle.std.specs.List.{Contains}
use Rattle.std.specs.List.Sorted.{IsBinarySearchResult, IsSorted}
use Rattle.std.proofs.lemmas.Bool.{cases_lt}
use Rattle.std.proofs.lemmas.List.{length-map, get_or-map, get_or_default}
use Rattle.std.proofs.lemmas.List.Sorted.{Contains-permutation, IsNonDecreasingBy-from_sort, searched}
use Rattle.rl_labels.specs.declared.entry.Entry.{Entry}
use Rattle.rl_chunks.specs.EntryLines.{line_of}
use Rattle.rl_parts.specs.Fingerprints.{fingerprint, fingerprints_of, AreFingerprints}
use Rattle.rl_parts.proofs.Finding.{yes, no}

-- a search finds a number just where it is there
pub found_by_search : (xs : List ℕ) (x : ℕ) (r : Result ℕ ℕ) → IsSorted nat_cmp xs → IsBinarySearchResult (λ y. nat_cmp y x) xs r → IsTrue (is_ok r) ↔ Contains xs x
found_by_search xs x r sorted visited = at r (searched xs x r visited (λ i j le lt. IsNonDecreasingBy-from_sort (λ n. n) xs sorted i j 0 le lt))
  where
    at : (r : Result ℕ ℕ) → MatchResult r (λ i. (i < length xs) × (get_or xs i 0 ≡ x)) (λ i. (i ≤ length xs) × ((k : ℕ) → k < i → get_or xs k 0 < x) × ((k : ℕ) → i ≤ k → k < length xs → x < get_or xs k 0)) → IsTrue (is_ok r) ↔ Contains xs x
    at (Ok i) h = yes (i, h.0, get_or_default xs i x 0 h.0 ∙ h.1)
    at (Err i) h = no {P = Contains xs x} (λ there.
        let same : get_or xs there.0 0 ≡ x = get_or_default xs there.0 0 x there.1 ∙ there.2 in
        elim (cases_lt there.0 i) [ inl lt ↦ (let low = h.1 there.0 lt in omega arith) | inr le ↦ (let high = h.2 there.0 le there.1 in omega arith) ])

-- the fingerprint of one of the entries is among the fingerprints
pub fingerprint_there : (entries : List Entry) (fingerprints : List ℕ) (entry : Entry) → AreFingerprints entries fingerprints → Contains entries entry → Contains fingerprints (fingerprint (line_of entry))
fingerprint_there entries fingerprints entry are there =
    let own : Entry → ℕ = λ e. fingerprint (line_of e) in
    let within : there.0 < length (map own entries) = subst (λ n. there.0 < n) (sym (length-map entries own)) there.1 in
    Contains-permutation (fingerprints_of entries) fingerprints (own entry) are.all
    (there.0, within, get_or-map own entries there.0 entry (own entry) there.1 ∙ (λ i. own (there.2 i)))
