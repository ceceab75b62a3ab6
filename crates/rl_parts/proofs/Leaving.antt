-- What is left of parts without their covered entries.
use Rattle.std.proofs.Common.{◌≡◌, ℕ, zero, suc, ◌+◌, ◌-◌, ◌<◌, ◌≤◌, cond, not, Bool, true, false, List, [], ◌∷◌, ◌++◌, length, get_or, take, map, Option, refl, sym, ap, subst, ◌∙◌, append-nil, append_assoc, arith}
use Rattle.std.specs.Option.{unwrap_or}
use Rattle.std.specs.List.{All, AllByRecursion, filter, range_with_len}
use Rattle.std.specs.List.Sorted.{IsStrictlySortedBy}
use Rattle.std.specs.declared.cmp.Ordering.TheVariants.{Less}
use Rattle.std.proofs.lemmas.List.{length-append, length-map, length-take, map-append}
use Rattle.std.proofs.lemmas.List.Concat.{flat_map-append}
use Rattle.std.proofs.lemmas.List.Elements.{All-append, All-filter, All-from_recursion, filter-append, recursion_from_All}
use Rattle.std.proofs.lemmas.List.Kept.{IsStrictlySortedBy-filter}
use Rattle.std.proofs.lemmas.List.Sorted.{length_permutation}
use Rattle.rl_labels.specs.LabelSet.{LabelSet}
use Rattle.rl_labels.specs.EntryOrder.{entry_cmp}
use Rattle.rl_labels.specs.laws.OrderLaws.{same_entry}
use Rattle.rl_labels.specs.declared.entry.Entry.{Entry}
use Rattle.rl_chunks.specs.ChunkText.{line_cmp}
use Rattle.rl_chunks.specs.EntryLines.{line_of}
use Rattle.rl_parts.specs.ChunksState.{ChunksView}
use Rattle.rl_chunks.specs.declared.line.Line.{Line}
use Rattle.rl_parts.specs.StreamParts.{PartView, IsRun, IsPart, listed, notes_of, unwritten}
use Rattle.rl_parts.specs.StreamState.{AreSealedUpTo, IsInOrder}
use Rattle.rl_parts.specs.StoreUse.{IsKept, Keeps, Reads}
use Rattle.rl_parts.specs.Rewriting.{AreLeft, AreOfLines, AreRenumbered, AreRewritten, IsChangedHere, IsLeft, IsOneMore, carried, entries_in, gone_by, left_by, note_numbers, uncovered}
use Rattle.rl_parts.specs.declared.plan.Change.{Change}
use Rattle.rl_parts.specs.declared.plan.Change.TheVariants.{Stays, Goes, Becomes}
use Rattle.rl_parts.specs.Fingerprints.{AreFingerprints, fingerprint, fingerprints_of}
use Rattle.rl_parts.specs.declared.plan.Changes.{Changes}
use Rattle.rl_parts.specs.laws.EachLaws.{all_after, all_both, all_front, take_next}
use Rattle.rl_parts.specs.laws.RewriteLaws.{AreRenumbered-all, AreRenumbered-none, AreRenumbered-then, range-none}
use Rattle.rl_parts.specs.laws.VisitorLaws.{AllZip-append}
use Rattle.rl_parts.specs.laws.UseLaws.{IsKept-keeps, Keeps-reads, Reads-none, kept_later, kept_then}
use Rattle.rl_parts.proofs.Lines.{lines_compare}

pub filter_le : {A : Type 0} (p : A → Bool) (xs : List A) → length (filter p xs) ≤ length xs
filter_le p [] = omega arith
filter_le {A} p (x ∷ xs) = at (p x) (filter_le p xs)
  where
    at : (b : Bool) → length (filter p xs) ≤ length xs → length (cond b (x ∷ filter p xs) (filter p xs)) ≤ suc (length xs)
    at true h = omega (arith, h)
    at false h = omega (arith, h)

-- a filter that leaves the length as it was leaves all
pub filter_all : {A : Type 0} (p : A → Bool) (xs : List A) → length (filter p xs) ≡ length xs → filter p xs ≡ xs
filter_all p [] h = refl
filter_all {A} p (x ∷ xs) h = at (filter_all p xs) (filter_le p xs) (p x) h
  where
    at : (length (filter p xs) ≡ length xs → filter p xs ≡ xs) → length (filter p xs) ≤ length xs → (b : Bool) → length (cond b (x ∷ filter p xs) (filter p xs)) ≡ suc (length xs) → cond b (x ∷ filter p xs) (filter p xs) ≡ x ∷ xs
    at others le true h = ap (λ ys. x ∷ ys) (others (omega (arith, h)))
    at others le false h = absurd (omega (arith, h, le))

-- where none is covered all are left
pub none_covered : (covers : Entry → Bool) (entries : List Entry) → AllByRecursion (λ entry. covers entry ≡ false) entries → uncovered covers entries ≡ entries
none_covered covers [] h = refl
none_covered covers (entry ∷ entries) h =
    ap (λ b. cond (not b) (entry ∷ uncovered covers entries) (uncovered covers entries)) h.0 ∙ ap (λ es. entry ∷ es) (none_covered covers entries h.1)

pub uncovered-append : (covers : Entry → Bool) (xs ys : List Entry) → uncovered covers (xs ++ ys) ≡ uncovered covers xs ++ uncovered covers ys
uncovered-append covers xs ys = filter-append (λ entry. not (covers entry)) xs ys

pub entries_in-append : (xs ys : List PartView) → entries_in (xs ++ ys) ≡ entries_in xs ++ entries_in ys
entries_in-append xs ys = flat_map-append (λ (part : PartView). part.entries) xs ys

pub numbers-append : (xs ys : List PartView) → note_numbers (xs ++ ys) ≡ note_numbers xs ++ note_numbers ys
numbers-append xs ys =
    ap (map (λ note. note.number)) (flat_map-append (λ (part : PartView). listed part.note) xs ys)
    ∙ map-append (λ note. note.number) (notes_of xs) (notes_of ys)

-- what is left of a run is one
pub run_left : (covers : Entry → Bool) (set : LabelSet) (entries : List Entry) → IsRun set entries → IsRun set (uncovered covers entries)
run_left covers set entries run = record {
  labels = All-filter (λ entry. not (covers entry)) (λ entry. entry.labels ≡ set) entries run.labels;
  rising = IsStrictlySortedBy-filter entry_cmp (λ entry. not (covers entry)) entries run.rising;
}

pub part_left : (covers : Entry → Bool) (set : LabelSet) (entries : List Entry) → IsPart set (unwritten entries) → 0 < length (uncovered covers entries) → IsPart set (unwritten (uncovered covers entries))
part_left covers set entries is some = record { run = run_left covers set entries is.run; some = some; few = omega (arith, is.few, filter_le (λ entry. not (covers entry)) entries) }

-- entries of a stream whose lines rise are a run
below : (set : LabelSet) (x : Entry) (entries : List Entry) → x.labels ≡ set → AllByRecursion (λ entry. entry.labels ≡ set) entries → AllByRecursion (λ y. line_cmp (line_of x) y ≡ Less) (map line_of entries) → AllByRecursion (λ y. entry_cmp x y ≡ Less) entries
below set x [] of same less = tt
below set x (y ∷ ys) of same less = (lines_compare x y (of ∙ sym same.0) ∙ less.0, below set x ys of same.1 less.1)

rising : (set : LabelSet) (entries : List Entry) → AllByRecursion (λ entry. entry.labels ≡ set) entries → IsStrictlySortedBy line_cmp (map line_of entries) → IsStrictlySortedBy entry_cmp entries
unfolding IsStrictlySortedBy
rising set [] same rises = tt
rising set (x ∷ xs) same rises = (below set x xs same.0 same.1 rises.0, rising set xs same.1 rises.1)

pub run_of_lines : (set : LabelSet) (lines : List Line) (entries : List Entry) → AreOfLines set lines entries → IsStrictlySortedBy line_cmp lines → IsRun set entries
run_of_lines set lines entries are rises = record {
  labels = All-from_recursion (λ entry. entry.labels ≡ set) entries are.own;
  rising = rising set entries are.own (subst (IsStrictlySortedBy line_cmp) (sym are.same) rises);
}

-- one line more
pub lines_more : (set : LabelSet) (lines : List Line) (entries : List Entry) (line : Line) (entry : Entry) → AreOfLines set lines entries → entry.labels ≡ set → line_of entry ≡ line → AreOfLines set (lines ++ line ∷ []) (entries ++ entry ∷ [])
lines_more set lines entries line entry are own same = record {
  own = all_both (λ e. e.labels ≡ set) entries (entry ∷ []) are.own (own, tt);
  same = map-append line_of entries (entry ∷ []) ∙ (λ i. are.same i ++ same i ∷ []);
}

-- entries of the stream are equal where their lines are
same_by_line : (set : LabelSet) (xs ys : List Entry) → AllByRecursion (λ entry. entry.labels ≡ set) xs → AllByRecursion (λ entry. entry.labels ≡ set) ys → map line_of xs ≡ map line_of ys → xs ≡ ys
same_by_line set [] [] own of same = refl
same_by_line set [] (y ∷ ys) own of same = cc
same_by_line set (x ∷ xs) [] own of same = cc
same_by_line set (x ∷ xs) (y ∷ ys) own of same =
    let front : line_of x ≡ line_of y = cc in
    let rest : map line_of xs ≡ map line_of ys = cc in
    let first : x ≡ y = same_entry x y (own.0 ∙ sym of.0) (ap (λ (l : Line). l.timestamp) front) (ap (λ (l : Line). l.text) front) in
    λ i. first i ∷ same_by_line set xs ys own.1 of.1 rest i

pub read_is : (set : LabelSet) (lines : List Line) (read entries : List Entry) → AreOfLines set lines read → All (λ entry. entry.labels ≡ set) entries → lines ≡ map line_of entries → read ≡ entries
read_is set lines read entries are of same = same_by_line set read entries are.own (recursion_from_All (λ entry. entry.labels ≡ set) entries of) (are.same ∙ same)

-- a part that stays
pub rewritten_stays : (covers : Entry → Bool) (set : LabelSet) (part : PartView) (before after : ChunksView) → Reads before after → IsPart set part → IsLeft covers set part (part ∷ []) → (before.seen.honest ≡ true → IsKept before set part → uncovered covers part.entries ≡ part.entries)
    → AreRewritten covers set (part ∷ []) before (part ∷ []) [] after
rewritten_stays covers set part before after reads is left right = record {
  numbers = AreRenumbered-none (note_numbers (part ∷ [])) before.next after.next reads.next;
  left = record { lefts = (part ∷ []) ∷ []; each = (left, tt); are = refl };
  sealed = (is, tt);
  fewer = omega arith;
  up_to = λ top h. h;
  kept = λ h. (IsKept-keeps set before after part (Keeps-reads before after reads) h.0, tt);
  right = λ honest kept. append-nil part.entries ∙ sym (right honest kept.0) ∙ ap (uncovered covers) (sym (append-nil part.entries));
}

-- a part that is replaced by others, or by none
pub rewritten_to : (covers : Entry → Bool) (set : LabelSet) (part : PartView) (before : ChunksView) (now : List PartView) (after : ChunksView) → before.next ≤ after.next → note_numbers now ≡ range_with_len before.next (after.next - before.next) → IsLeft covers set part now → AllByRecursion (IsPart set) now
    → length (entries_in now) ≤ length part.entries → ((top : Option ℕ) → All (λ entry. entry.timestamp ≤ unwrap_or top 0) part.entries → AreSealedUpTo top now) → AllByRecursion (IsKept after set) now → (before.seen.honest ≡ true → IsKept before set part → entries_in now ≡ uncovered covers part.entries)
    → AreRewritten covers set (part ∷ []) before now (note_numbers (part ∷ [])) after
rewritten_to covers set part before now after le numbers left sealed fewer up_to kept right = record {
  numbers = subst (λ ns. AreRenumbered (note_numbers (part ∷ [])) before.next after.next ns (note_numbers (part ∷ []))) (sym numbers) (AreRenumbered-all (note_numbers (part ∷ [])) before.next after.next le);
  left = record { lefts = now ∷ []; each = (left, tt); are = sym (append-nil now) };
  sealed = sealed;
  fewer = subst (λ es. length (entries_in now) ≤ length es) (sym (append-nil part.entries)) fewer;
  up_to = λ top h. up_to top h.0;
  kept = λ h. kept;
  right = λ honest were. right honest were.0 ∙ ap (uncovered covers) (sym (append-nil part.entries));
}

left_then : (covers : Entry → Bool) (set : LabelSet) (xs ys us vs : List PartView) → AreLeft covers set xs us → AreLeft covers set ys vs → AreLeft covers set (xs ++ ys) (us ++ vs)
left_then covers set xs ys us vs p q = record {
  lefts = p.lefts ++ q.lefts;
  each = AllZip-append (IsLeft covers set) xs p.lefts ys q.lefts p.each q.each;
  are = (λ i. p.are i ++ q.are i) ∙ sym (flat_map-append (λ left. left) p.lefts q.lefts);
}

-- some parts, and then others
pub rewritten_then : (covers : Entry → Bool) (set : LabelSet) (a b c : ChunksView) (xs us : List PartView) (gone : List ℕ) (ys vs : List PartView) (away : List ℕ) → Keeps a b → Keeps b c
    → AreRewritten covers set xs a us gone b → AreRewritten covers set ys b vs away c → AreRewritten covers set (xs ++ ys) a (us ++ vs) (gone ++ away) c
rewritten_then covers set a b c xs us gone ys vs away keeps later p q =
    let kept = λ (chunks : ChunksView) (part : PartView). IsKept chunks set part in
    let is_old = λ (top : Option ℕ) (part : PartView). All (λ entry. entry.timestamp ≤ unwrap_or top 0) part.entries in
    record {
      numbers = subst (λ ns. AreRenumbered ns a.next c.next (note_numbers (us ++ vs)) (gone ++ away)) (sym (numbers-append xs ys))
          (subst (λ ns. AreRenumbered (note_numbers xs ++ note_numbers ys) a.next c.next ns (gone ++ away)) (sym (numbers-append us vs))
          (AreRenumbered-then (note_numbers xs) (note_numbers us) gone a.next b.next (note_numbers ys) (note_numbers vs) away c.next p.numbers q.numbers));
      left = left_then covers set xs ys us vs p.left q.left;
      sealed = all_both (IsPart set) us vs p.sealed q.sealed;
      fewer = omega (arith, p.fewer, q.fewer, ap length (entries_in-append us vs), ap length (entries_in-append xs ys), length-append (entries_in us) (entries_in vs), length-append (entries_in xs) (entries_in ys));
      up_to = λ top h. all_both (is_old top) us vs (p.up_to top (all_front (is_old top) xs ys h)) (q.up_to top (all_after (is_old top) xs ys h));
      kept = kept_then kept kept (IsKept-keeps set) (IsKept-keeps set) a b c keeps later xs ys us vs p.kept q.kept;
      right = λ honest h.
          entries_in-append us vs
          ∙ (λ i. p.right honest (all_front (IsKept a set) xs ys h) i ++ q.right (keeps.honest ∙ honest) (kept_later kept kept (IsKept-keeps set) (IsKept-keeps set) a b keeps xs ys h) i)
          ∙ sym (ap (uncovered covers) (entries_in-append xs ys) ∙ uncovered-append covers (entries_in xs) (entries_in ys));
    }

-- one change more
pub carried_more : (parts : List PartView) (changes : List Change) (part : PartView) (change : Change) → length parts ≡ length changes → carried (parts ++ part ∷ []) (changes ++ change ∷ []) ≡ carried parts changes ++ left_by part change
carried_more [] [] part change many = append-nil (left_by part change)
carried_more [] (c ∷ changes) part change many = cc
carried_more (p ∷ parts) [] part change many = cc
carried_more (p ∷ parts) (c ∷ changes) part change many =
    ap (λ ps. left_by p c ++ ps) (carried_more parts changes part change (omega (arith, many))) ∙ sym (append_assoc (left_by p c) (carried parts changes) (left_by part change))

-- one part more is planned
pub planned_more : (covers : Entry → Bool) (set : LabelSet) (a b c : ChunksView) (parts : List PartView) (i : ℕ) (p : PartView) (changes now : Changes) → i < length parts → p ≡ get_or parts i p → length changes.of_parts.items ≡ i → Keeps a b → Keeps b c
    → AreRewritten covers set (take i parts) a (carried (take i parts) changes.of_parts.items) changes.gone.items b → IsOneMore covers set p b c changes now
    → AreRewritten covers set (take (i + 1) parts) a (carried (take (i + 1) parts) now.of_parts.items) now.gone.items c
planned_more covers set a b c parts i p changes now within is many keeps later so_far one =
    let were = changes.of_parts.items in
    let are = now.of_parts.items in
    let all : carried (take i parts ++ p ∷ []) are ≡ carried (take i parts) were ++ left_by p one.change = ap (carried (take i parts ++ p ∷ [])) one.appended ∙ carried_more (take i parts) were p one.change (omega (arith, length-take i parts, many, within)) in
    subst (λ (ps : List PartView). AreRewritten covers set ps a (carried ps are) now.gone.items c) (sym (take_next parts i p within is))
    (subst (λ (us : List PartView). AreRewritten covers set (take i parts ++ p ∷ []) a us now.gone.items c) (sym all)
    (subst (λ ns. AreRewritten covers set (take i parts ++ p ∷ []) a (carried (take i parts) were ++ left_by p one.change) ns c) (sym one.gone_after)
    (rewritten_then covers set a b c (take i parts) (carried (take i parts) were) changes.gone.items (p ∷ []) (left_by p one.change) (gone_by p one.change) keeps later so_far one.rewritten)))

-- the entries of a part and of those before it are no more than all
pub count_up_to : (parts : List PartView) (i : ℕ) (p : PartView) → i < length parts → p ≡ get_or parts i p → length (entries_in (take i parts)) + length p.entries ≤ length (entries_in parts)
count_up_to [] i p within is = absurd (omega (arith, within))
count_up_to (q ∷ parts) zero p within is = omega (arith, ap (λ (part : PartView). length part.entries) is, length-append q.entries (entries_in parts))
count_up_to (q ∷ parts) (suc i) p within is =
    let others = count_up_to parts i p (omega (arith, within)) is in
    omega (arith, others, length-append q.entries (entries_in parts), length-append q.entries (entries_in (take i parts)))

-- there is one fingerprint for each entry
pub fingerprints_len : (entries : List Entry) (fingerprints : List ℕ) → AreFingerprints entries fingerprints → length fingerprints ≡ length entries
fingerprints_len entries fingerprints are = length_permutation (fingerprints_of entries) fingerprints are.all ∙ length-map entries (λ entry. fingerprint (line_of entry))

-- what becomes of entries in memory
pub here_rewritten : (covers : Entry → Bool) (set : LabelSet) (entries : List Entry) (change : Change) (chunks : ChunksView) → IsPart set (unwritten entries) → IsChangedHere covers entries change
    → AreRewritten covers set (unwritten entries ∷ []) chunks (left_by (unwritten entries) change) (gone_by (unwritten entries) change) chunks
here_rewritten covers set entries Stays chunks is none =
    rewritten_stays covers set (unwritten entries) chunks chunks (Reads-none chunks) is (append-nil entries ∙ sym none, refl) (λ honest kept. none)
here_rewritten covers set entries Goes chunks is all =
    rewritten_to covers set (unwritten entries) chunks [] chunks (omega arith) (sym (range-none chunks.next chunks.next refl)) (sym all, refl) tt (omega arith) (λ top h. tt) tt (λ honest kept. sym all)
here_rewritten covers set entries (Becomes now) chunks is some =
    let left = uncovered covers entries in
    subst (λ (p : PartView). AreRewritten covers set (unwritten entries ∷ []) chunks (p ∷ []) [] chunks) (sym some.0)
    (rewritten_to covers set (unwritten entries) chunks (unwritten left ∷ []) chunks (omega arith) (sym (range-none chunks.next chunks.next refl)) (append-nil left, refl) (part_left covers set entries is some.1, tt)
    (omega (arith, ap length (append-nil left), filter_le (λ entry. not (covers entry)) entries))
    (λ top h. (All-filter (λ entry. not (covers entry)) (λ entry. entry.timestamp ≤ unwrap_or top 0) entries h, tt)) (tt, tt) (λ honest kept. append-nil left))

module _ (covers : Entry → Bool) (set : LabelSet) (old new : List PartView) (head left : List Entry) (newest : ℕ) (top : Option ℕ) (order : IsInOrder (record { labels = set; parts = old; head = head; newest = newest }) top)
    (sealed : AllByRecursion (IsPart set) new) (is_left : left ≡ uncovered covers head) where
  -- a stream stays in order
  pub order_left : AreSealedUpTo top new → IsInOrder (record { labels = set; parts = new; head = left; newest = newest }) top
  order_left up_to = record {
    parts = record {
      sealed = sealed;
      growing = subst (IsRun set) (sym is_left) (run_left covers set head order.parts.growing);
      few = omega (arith, order.parts.few, ap length is_left, filter_le (λ entry. not (covers entry)) head);
    };
    up_to = up_to;
  }

  -- its entries are its own
  pub own_left : All (λ entry. entry.labels ≡ set) (entries_in new ++ left)
  own_left = All-append (λ entry. entry.labels ≡ set) (entries_in new) left (of_parts new sealed) (subst (IsRun set) (sym is_left) (run_left covers set head order.parts.growing)).labels
    where
      of_parts : (parts : List PartView) → AllByRecursion (IsPart set) parts → All (λ entry. entry.labels ≡ set) (entries_in parts)
      of_parts [] h = λ k d within. absurd (omega (arith, within))
      of_parts (part ∷ parts) h = All-append (λ entry. entry.labels ≡ set) part.entries (entries_in parts) h.0.run.labels (of_parts parts h.1)

  -- and no more
  pub fewer_left : length (entries_in new) ≤ length (entries_in old) → length (entries_in new ++ left) ≤ length (entries_in old ++ head)
  fewer_left fewer = omega (arith, fewer, ap length is_left, filter_le (λ entry. not (covers entry)) head, length-append (entries_in new) left, length-append (entries_in old) head)
