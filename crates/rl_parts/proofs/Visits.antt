-- The entries of a range, as they are visited.
use Rattle.std.proofs.Common.{◌≡◌, ℕ, ◌+◌, ◌-◌, ◌<◌, ◌≤◌, ◌⊎◌, inl, inr, leb, ◌&&◌, true, false, Bool, cond, List, [], ◌∷◌, ◌++◌, length, get_or, take, map, refl, sym, ap, subst, ◌∙◌, append-nil, arith}
use Rattle.std.specs.List.{All, AllByRecursion, filter, flat_map, fold}
use Rattle.std.proofs.lemmas.Bool.Decides.{nat_tests}
use Rattle.std.proofs.lemmas.List.{map-append}
use Rattle.std.proofs.lemmas.List.Concat.{flat_map-append}
use Rattle.std.proofs.lemmas.List.Sums.{fold-append}
use Rattle.std.proofs.lemmas.List.Elements.{filter-append, recursion_from_All}
use Rattle.rl_labels.specs.LabelSet.{LabelSet}
use Rattle.rl_labels.specs.declared.entry.Entry.{Entry}
use Rattle.rl_chunks.specs.EntryLines.{line_of}
use Rattle.rl_chunks.specs.declared.line.Line.{Line}
use Rattle.rl_parts.specs.laws.EachLaws.{take_next}
use Rattle.rl_parts.specs.StreamParts.{PartView, IsRun}
use Rattle.rl_parts.specs.PartState.{timestamp_at, IsRange}
use Rattle.rl_parts.specs.Reading.{is_in_range, visited, visited_in_range, lines_in_range, IsPiece, IsVisited}
use Rattle.rl_parts.specs.laws.VisitorLaws.{AllZip-append}
use Rattle.rl_parts.proofs.Times.{up_to_last, from_first}

pub lines-append : (set : LabelSet) (from to : ℕ) (xs ys : List Line) → lines_in_range set from to (xs ++ ys) ≡ lines_in_range set from to xs ++ lines_in_range set from to ys
lines-append set from to xs ys =
    ap (map (λ (line : Line). (set, line))) (filter-append (λ (line : Line). leb from line.timestamp && leb line.timestamp to) xs ys)
    ∙ map-append (λ (line : Line). (set, line)) (filter (λ line. leb from line.timestamp && leb line.timestamp to) xs) (filter (λ line. leb from line.timestamp && leb line.timestamp to) ys)

pub visited-append : (from to : ℕ) (xs ys : List Entry) → visited_in_range from to (xs ++ ys) ≡ visited_in_range from to xs ++ visited_in_range from to ys
visited-append from to xs ys = ap (map visited) (filter-append (is_in_range from to) xs ys) ∙ map-append visited (filter (is_in_range from to) xs) (filter (is_in_range from to) ys)

-- one line more
pub line_more : {A T : Type 0} (visiting : T → LabelSet × Line → T) (line : A → Line) (set : LabelSet) (from to : ℕ) (xs : List A) (i : ℕ) (x : A) (start taken now : T) → i < length xs → x ≡ get_or xs i x
    → taken ≡ fold visiting start (lines_in_range set from to (map line (take i xs))) → now ≡ fold visiting taken (lines_in_range set from to (line x ∷ [])) → now ≡ fold visiting start (lines_in_range set from to (map line (take (i + 1) xs)))
line_more visiting line set from to xs i x start taken now within is so_far one =
    let all : lines_in_range set from to (map line (take (i + 1) xs)) ≡ lines_in_range set from to (map line (take i xs)) ++ lines_in_range set from to (line x ∷ []) =
    ap (λ ys. lines_in_range set from to (map line ys)) (take_next xs i x within is) ∙ ap (lines_in_range set from to) (map-append line (take i xs) (x ∷ [])) ∙ lines-append set from to (map line (take i xs)) (line x ∷ []) in
    one ∙ ap (λ t. fold visiting t (lines_in_range set from to (line x ∷ []))) so_far ∙ sym (fold-append visiting start (lines_in_range set from to (map line (take i xs))) (lines_in_range set from to (line x ∷ []))) ∙ ap (fold visiting start) (sym all)

-- one part more
pub part_more : {T : Type 0} (visiting : T → LabelSet × Line → T) (from to : ℕ) (parts : List PartView) (i : ℕ) (p : PartView) (start taken now : T) → i < length parts → p ≡ get_or parts i p
    → taken ≡ fold visiting start (visited_in_range from to (flat_map (λ part. part.entries) (take i parts))) → now ≡ fold visiting taken (visited_in_range from to p.entries) → now ≡ fold visiting start (visited_in_range from to (flat_map (λ part. part.entries) (take (i + 1) parts)))
part_more visiting from to parts i p start taken now within is so_far one =
    let entries = λ (part : PartView). part.entries in
    let all : visited_in_range from to (flat_map entries (take (i + 1) parts)) ≡ visited_in_range from to (flat_map entries (take i parts)) ++ visited_in_range from to p.entries =
    ap (λ ps. visited_in_range from to (flat_map entries ps)) (take_next parts i p within is) ∙ ap (visited_in_range from to) (flat_map-append entries (take i parts) (p ∷ []) ∙ ap (λ es. flat_map entries (take i parts) ++ es) (append-nil p.entries)) ∙ visited-append from to (flat_map entries (take i parts)) p.entries in
    one ∙ ap (λ t. fold visiting t (visited_in_range from to p.entries)) so_far ∙ sym (fold-append visiting start (visited_in_range from to (flat_map entries (take i parts))) (visited_in_range from to p.entries)) ∙ ap (fold visiting start) (sym all)

-- lines of entries are visited as the entries are
same_visited : (set : LabelSet) (from to : ℕ) (entries : List Entry) → AllByRecursion (λ entry. entry.labels ≡ set) entries → lines_in_range set from to (map line_of entries) ≡ visited_in_range from to entries
same_visited set from to [] same = refl
same_visited set from to (entry ∷ entries) same = at (is_in_range from to entry) (same_visited set from to entries same.1)
  where
    at : (b : Bool) → lines_in_range set from to (map line_of entries) ≡ visited_in_range from to entries
        → map (λ line. (set, line)) (cond b (line_of entry ∷ filter (λ line. leb from line.timestamp && leb line.timestamp to) (map line_of entries)) (filter (λ line. leb from line.timestamp && leb line.timestamp to) (map line_of entries)))
        ≡ map visited (cond b (entry ∷ filter (is_in_range from to) entries) (filter (is_in_range from to) entries))
    at true others = λ i. (sym same.0 i, line_of entry) ∷ others i
    at false others = others

pub lines_visited : (set : LabelSet) (from to : ℕ) (entries : List Entry) → All (λ entry. entry.labels ≡ set) entries → lines_in_range set from to (map line_of entries) ≡ visited_in_range from to entries
lines_visited set from to entries same = same_visited set from to entries (recursion_from_All (λ entry. entry.labels ≡ set) entries same)

none_visited : (from to : ℕ) (entries : List Entry) → AllByRecursion (λ entry. is_in_range from to entry ≡ false) entries → visited_in_range from to entries ≡ []
none_visited from to [] out = refl
none_visited from to (entry ∷ entries) out = ap (λ b. map visited (cond b (entry ∷ filter (is_in_range from to) entries) (filter (is_in_range from to) entries))) out.0 ∙ none_visited from to entries out.1

-- of entries whose range of time is outside none is visited
pub nothing_visited : (set : LabelSet) (xs : List Entry) (first last from to : ℕ) → IsRun set xs → IsRange xs first last → (last < from) ⊎ (to < first) → visited_in_range from to xs ≡ []
nothing_visited set xs first last from to run range out = none_visited from to xs (recursion_from_All (λ entry. is_in_range from to entry ≡ false) xs (λ k d within. at (get_or xs k d) (up_to_last set xs run k d within) (from_first set xs run k d within) out))
  where
    at : (entry : Entry) → entry.timestamp ≤ timestamp_at xs (length xs - 1) → timestamp_at xs 0 ≤ entry.timestamp → (last < from) ⊎ (to < first) → is_in_range from to entry ≡ false
    at entry low high (inl before) = grind (arith, nat_tests, range.start, range.end)
    at entry low high (inr following) = grind (arith, nat_tests, range.start, range.end)

-- parts, and then the head
pub both_visited : {T : Type 0} (visiting : T → LabelSet × Line → T) (set : LabelSet) (from to : ℕ) (parts : List PartView) (head : List Entry) (start mid now : T) → All (λ entry. entry.labels ≡ set) head
    → mid ≡ fold visiting start (visited_in_range from to (flat_map (λ part. part.entries) parts)) → now ≡ fold visiting mid (lines_in_range set from to (map line_of head)) → now ≡ fold visiting start (visited_in_range from to (flat_map (λ part. part.entries) parts ++ head))
both_visited visiting set from to parts head start mid now same first second =
    let all : List Entry = flat_map (λ part. part.entries) parts in
    second ∙ (λ i. fold visiting (first i) (lines_visited set from to head same i)) ∙ sym (fold-append visiting start (visited_in_range from to all) (visited_in_range from to head)) ∙ ap (fold visiting start) (sym (visited-append from to all head))

-- pieces of parts, and then of others
visited_then : {T : Type 0} (visiting : T → LabelSet × Line → T) (set : LabelSet) (from to : ℕ) (xs ys : List PartView) (a b c : T) → IsVisited visiting set from to xs a b → IsVisited visiting set from to ys b c → IsVisited visiting set from to (xs ++ ys) a c
visited_then visiting set from to xs ys a b c p q = record {
  pieces = p.pieces ++ q.pieces;
  each = AllZip-append (IsPiece set from to) xs p.pieces ys q.pieces p.each q.each;
  becomes = q.becomes ∙ ap (λ t. fold visiting t (flat_map (λ piece. piece) q.pieces)) p.becomes ∙ sym (fold-append visiting a (flat_map (λ piece. piece) p.pieces) (flat_map (λ piece. piece) q.pieces)) ∙ ap (fold visiting a) (sym (flat_map-append (λ piece. piece) p.pieces q.pieces));
}

-- the piece of one part more
pub piece_more : {T : Type 0} (visiting : T → LabelSet × Line → T) (set : LabelSet) (from to : ℕ) (parts : List PartView) (i : ℕ) (p : PartView) (start taken now : T) → i < length parts → p ≡ get_or parts i p
    → IsVisited visiting set from to (take i parts) start taken → IsVisited visiting set from to (p ∷ []) taken now → IsVisited visiting set from to (take (i + 1) parts) start now
piece_more visiting set from to parts i p start taken now within is so_far one =
    subst (λ (ps : List PartView). IsVisited visiting set from to ps start now) (sym (take_next parts i p within is)) (visited_then visiting set from to (take i parts) (p ∷ []) start taken now so_far one)

-- one piece
pub one_piece : {T : Type 0} (visiting : T → LabelSet × Line → T) (set : LabelSet) (from to : ℕ) (p : PartView) (piece : List (LabelSet × Line)) (old new : T) → IsPiece set from to p piece → new ≡ fold visiting old piece → IsVisited visiting set from to (p ∷ []) old new
one_piece visiting set from to p piece old new is becomes = record { pieces = piece ∷ []; each = (is, tt); becomes = becomes ∙ ap (fold visiting old) (sym (append-nil piece)) }
