-- The lines of entries of one stream.
use Rattle.std.proofs.Common.{◌≡◌, ℕ, ◌-◌, ◌<◌, ◌≤◌, Result, Ok, Err, List, [], ◌∷◌, length, get_or, slice_get, Some, map, sym, ap, subst, ◌∙◌, arith}
use Rattle.std.specs.Prelude.{IsTrue}
use Rattle.std.specs.List.{All, AllByRecursion}
use Rattle.std.specs.List.Sorted.{IsStrictlySortedBy, IsSearchInRange, IsBinarySearchResult}
use Rattle.std.specs.Ordering.{nat_cmp, ordering_then, ordering_index}
use Rattle.std.specs.declared.cmp.Ordering.TheVariants.{Less}
use Rattle.std.specs.Cmp.Lexicographic.{slice_cmp}
use Rattle.std.proofs.lemmas.Option.{get_or_from_slice_get}
use Rattle.std.proofs.lemmas.List.Elements.{All-map, recursion_from_All}
use Rattle.rl_labels.specs.LabelSet.{LabelSet}
use Rattle.rl_labels.specs.EntryOrder.{entry_cmp}
use Rattle.rl_labels.specs.EntryParts.{is_stream, longest_line}
use Rattle.rl_labels.specs.declared.entry.Entry.{Entry}
use Rattle.rl_chunks.specs.ChunkText.{line_cmp}
use Rattle.rl_chunks.specs.EntryLines.{line_of}
use Rattle.rl_parts.specs.StreamParts.{IsRun}
use Rattle.rl_parts.proofs.Times.{same_labels}

-- labels that an entry has are those of a stream
pub stream_of : (set : LabelSet) (entries : List Entry) → All (λ entry. entry.labels ≡ set) entries → 0 < length entries → IsTrue (is_stream set)
stream_of set [] same some = absurd (omega arith)
stream_of set (entry ∷ entries) same some = subst (λ s. IsTrue (is_stream s)) (same 0 entry (omega arith)) entry.of_stream

pub short_lines : (entries : List Entry) → All (λ line. length line.text ≤ longest_line) (map line_of entries)
short_lines entries = All-map (λ line. length line.text ≤ longest_line) line_of entries (λ k d lt. (get_or entries k d).fits)

-- lines of one stream compare as its entries do
pub lines_compare : (a b : Entry) → a.labels ≡ b.labels → entry_cmp a b ≡ line_cmp (line_of a) (line_of b)
lines_compare a b same = ap (λ o. ordering_then (ordering_then o (nat_cmp a.timestamp b.timestamp)) (slice_cmp nat_cmp a.line b.line)) (same_labels a.labels b.labels same)

-- the last entry has the labels of all
pub last_of : (set : LabelSet) (entries : List Entry) (last : Entry) → All (λ entry. entry.labels ≡ set) entries → slice_get entries (length entries - 1) ≡ Some last → last.labels ≡ set
last_of set [] last same is = cc
last_of set (entry ∷ entries) last same is =
    let all = entry ∷ entries in
    subst (λ (e : Entry). e.labels ≡ set) (get_or_from_slice_get all (length all - 1) last last is) (same (length all - 1) last (omega arith))

-- a search by lines among entries of one stream is one by entries
pub searched : (q : Entry) (xs : List Entry) (r : Result ℕ ℕ) → All (λ entry. entry.labels ≡ q.labels) xs → IsSearchInRange r (length xs) → IsBinarySearchResult (λ y. line_cmp (line_of y) (line_of q)) xs r → IsBinarySearchResult (λ y. entry_cmp y q) xs r
searched q xs (Ok i) same within at = λ d. lines_compare (get_or xs i d) q (same i d within) ∙ at d
searched q xs (Err i) same within at = λ rises.
    let as_lines : (k : ℕ) (d : Entry) → k < length xs → entry_cmp (get_or xs k d) q ≡ line_cmp (line_of (get_or xs k d)) (line_of q) = λ k d lt. lines_compare (get_or xs k d) q (same k d lt) in
    let halves = at (λ j k d le high. subst (λ o. ordering_index o ≤ ordering_index (line_cmp (line_of (get_or xs k d)) (line_of q))) (as_lines j d (omega arith)) (subst (λ o. ordering_index (entry_cmp (get_or xs j d) q) ≤ ordering_index o) (as_lines k d high) (rises j k d le high))) in
    (λ k d low high. as_lines k d (omega (arith, within)) ∙ halves.0 k d low high, λ k d low high. as_lines k d high ∙ halves.1 k d low high)

below : (set : LabelSet) (x : Entry) (entries : List Entry) → x.labels ≡ set → AllByRecursion (λ entry. entry.labels ≡ set) entries → AllByRecursion (λ y. entry_cmp x y ≡ Less) entries → AllByRecursion (λ y. line_cmp (line_of x) y ≡ Less) (map line_of entries)
below set x [] of same less = tt
below set x (y ∷ ys) of same less = (sym (lines_compare x y (of ∙ sym same.0)) ∙ less.0, below set x ys of same.1 less.1)

rising : (set : LabelSet) (entries : List Entry) → AllByRecursion (λ entry. entry.labels ≡ set) entries → IsStrictlySortedBy entry_cmp entries → IsStrictlySortedBy line_cmp (map line_of entries)
unfolding IsStrictlySortedBy
rising set [] same rises = tt
rising set (x ∷ xs) same rises = (below set x xs same.0 same.1 rises.0, rising set xs same.1 rises.1)

pub rising_lines : (set : LabelSet) (entries : List Entry) → IsRun set entries → IsStrictlySortedBy line_cmp (map line_of entries)
rising_lines set entries run = rising set entries (recursion_from_All (λ entry. entry.labels ≡ set) entries run.labels) run.rising
