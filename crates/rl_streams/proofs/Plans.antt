-- Plans for all streams, and the rows that they make.
use Rattle.std.proofs.Common.{◌≡◌, ℕ, zero, suc, ◌+◌, ◌<◌, ◌≤◌, not, Bool, true, List, [], ◌∷◌, ◌++◌, Some, Result, Ok, Err, length, get_or, slice_get, take, map, append-nil, refl, sym, ap, subst, ◌∙◌, arith}
use Rattle.std.specs.List.{All, AllByRecursion}
use Rattle.std.specs.Map.{keys_of, values_of}
use Rattle.std.proofs.lemmas.List.{length-append, map-append, take_more}
use Rattle.std.proofs.lemmas.Option.{get_or_from_slice_get}
use Rattle.indexmap.specs.IndexMap.{set_value_at}
use Rattle.std.proofs.lemmas.List.Concat.{flat_map-append}
use Rattle.std.proofs.lemmas.List.Elements.{filter-append}
use Rattle.rl_labels.specs.declared.entry.Entry.{Entry}
use Rattle.rl_parts.specs.ChunksState.{ChunksView}
use Rattle.rl_parts.specs.StreamParts.{StreamView, entries_of}
use Rattle.rl_parts.specs.StoreUse.{AreKept, Keeps}
use Rattle.rl_parts.specs.Rewriting.{AreLeft, AreRenumbered, PlanView, note_numbers, uncovered}
use Rattle.rl_parts.specs.declared.fault.RewriteFault.{RewriteFault}
use Rattle.rl_parts.specs.laws.RewriteLaws.{AreRenumbered-none, AreRenumbered-then}
use Rattle.rl_parts.specs.laws.EachLaws.{all_both, all_front}
use Rattle.rl_parts.specs.laws.UseLaws.{AreKept-keeps, kept_later, kept_then}
use Rattle.rl_streams.specs.StreamRows.{Row, joined, newest_in, numbers_in, IsOwn}
use Rattle.rl_streams.specs.Rewritten.{AreLeftIn, AreOf, ArePlanned, IsLeftIn, IsSound, numbers_before, numbers_after, numbers_gone, rewritten}
use Rattle.rl_streams.proofs.RowChanges.{not_none, same_some, with_key, within}

-- no stream
pub planned_none : (covers : Entry → Bool) (chunks : ChunksView) → ArePlanned covers chunks [] chunks
planned_none covers chunks = record { sound = tt; left = tt; numbers = AreRenumbered-none [] chunks.next chunks.next refl; kept = λ h. tt; right = λ honest h. tt }

-- some streams, and then others
pub planned_then : (covers : Entry → Bool) (a b c : ChunksView) (plans others : List PlanView) → Keeps a b → Keeps b c → ArePlanned covers a plans b → ArePlanned covers b others c → ArePlanned covers a (plans ++ others) c
planned_then covers a b c plans others keeps later p q =
    let old = λ (chunks : ChunksView) (plan : PlanView). AreKept chunks plan.of in
    let new = λ (chunks : ChunksView) (plan : PlanView). AreKept chunks plan.becomes in
    let stays = λ (x y : ChunksView) (plan : PlanView). AreKept-keeps x y plan.of in
    let remains = λ (x y : ChunksView) (plan : PlanView). AreKept-keeps x y plan.becomes in
    record {
      sound = all_both IsSound plans others p.sound q.sound;
      left = all_both (λ plan. IsLeftIn covers plan.of plan.becomes) plans others p.left q.left;
      numbers = subst (λ ns. AreRenumbered ns a.next c.next (numbers_after (plans ++ others)) (numbers_gone (plans ++ others))) (sym (flat_map-append (λ (plan : PlanView). note_numbers plan.of.parts) plans others))
          (subst (λ ns. AreRenumbered (numbers_before plans ++ numbers_before others) a.next c.next ns (numbers_gone (plans ++ others))) (sym (flat_map-append (λ (plan : PlanView). note_numbers plan.becomes.parts) plans others))
          (subst (λ ns. AreRenumbered (numbers_before plans ++ numbers_before others) a.next c.next (numbers_after plans ++ numbers_after others) ns) (sym (flat_map-append (λ (plan : PlanView). plan.gone) plans others))
          (AreRenumbered-then (numbers_before plans) (numbers_after plans) (numbers_gone plans) a.next b.next (numbers_before others) (numbers_after others) (numbers_gone others) c.next p.numbers q.numbers)));
      kept = kept_then old new stays remains a b c keeps later plans others plans others p.kept q.kept;
      right = λ honest h. all_both (λ plan. entries_of plan.becomes ≡ uncovered covers (entries_of plan.of)) plans others (p.right honest (all_front (old a) plans others h)) (q.right (keeps.honest ∙ honest) (kept_later old new stays remains a b keeps plans others h));
    }

-- no plan has rows, and no row plans
module _ (row : Row) (rows : List Row) (plan : PlanView) (plans : List PlanView) (of : AreOf (row ∷ rows) (plan ∷ plans)) where
  first_of : plan.of ≡ row.1
  first_of = cc

  others_of : AreOf rows plans
  others_of = cc

no_plan : (row : Row) (rows : List Row) → AreOf (row ∷ rows) [] → ⊥
no_plan row rows of = cc

no_row : (plan : PlanView) (plans : List PlanView) → AreOf [] (plan ∷ plans) → ⊥
no_row plan plans of = cc

-- the rows keep their labels and newest timestamps
pub keys_rewritten : (rows : List Row) (plans : List PlanView) → AreOf rows plans → keys_of (rewritten rows plans) ≡ keys_of rows
keys_rewritten [] plans of = refl
keys_rewritten (row ∷ rows) [] of = refl
keys_rewritten (row ∷ rows) (plan ∷ plans) of = ap (λ ks. row.0 ∷ ks) (keys_rewritten rows plans (others_of row rows plan plans of))

pub newest_rewritten : (rows : List Row) (plans : List PlanView) → AreOf rows plans → AllByRecursion IsSound plans → newest_in (rewritten rows plans) ≡ newest_in rows
newest_rewritten [] plans of sound = refl
newest_rewritten (row ∷ rows) [] of sound = refl
newest_rewritten (row ∷ rows) (plan ∷ plans) of sound =
    let newest : plan.becomes.newest ≡ row.1.newest = sound.0.newest ∙ ap (λ (s : StreamView). s.newest) (first_of row rows plan plans of) in
    λ i. (row.0, newest i) ∷ newest_rewritten rows plans (others_of row rows plan plans of) sound.1 i

pub own_rewritten : (rows : List Row) (plans : List PlanView) → AreOf rows plans → AllByRecursion IsSound plans → AllByRecursion IsOwn rows → AllByRecursion IsOwn (rewritten rows plans)
own_rewritten [] plans of sound own = tt
own_rewritten (row ∷ rows) [] of sound own = absurd (no_plan row rows of)
own_rewritten (row ∷ rows) (plan ∷ plans) of sound own =
    let labels : plan.of.labels ≡ row.0 = ap (λ (s : StreamView). s.labels) (first_of row rows plan plans of) ∙ own.0.labels in
    (record { labels = sound.0.labels ∙ labels; entries = subst (λ set. All (λ entry. entry.labels ≡ set) (entries_of plan.becomes)) labels sound.0.own }, own_rewritten rows plans (others_of row rows plan plans of) sound.1 own.1)

pub fewer_rewritten : (rows : List Row) (plans : List PlanView) → AreOf rows plans → AllByRecursion IsSound plans → length (joined (rewritten rows plans)) ≤ length (joined rows)
fewer_rewritten [] plans of sound = omega arith
fewer_rewritten (row ∷ rows) [] of sound = omega arith
fewer_rewritten (row ∷ rows) (plan ∷ plans) of sound =
    let others = fewer_rewritten rows plans (others_of row rows plan plans of) sound.1 in
    omega (arith, others, sound.0.fewer, ap (λ (s : StreamView). length (entries_of s)) (first_of row rows plan plans of), length-append (entries_of row.1) (joined rows), length-append (entries_of plan.becomes) (joined (rewritten rows plans)))

-- the numbers are those of the plans
pub numbers_of_rows : (rows : List Row) (plans : List PlanView) → AreOf rows plans → numbers_in rows ≡ numbers_before plans
numbers_of_rows [] [] of = refl
numbers_of_rows [] (plan ∷ plans) of = absurd (no_row plan plans of)
numbers_of_rows (row ∷ rows) [] of = absurd (no_plan row rows of)
numbers_of_rows (row ∷ rows) (plan ∷ plans) of = λ i. note_numbers (sym (first_of row rows plan plans of) i).parts ++ numbers_of_rows rows plans (others_of row rows plan plans of) i

pub numbers_rewritten : (rows : List Row) (plans : List PlanView) → AreOf rows plans → numbers_in (rewritten rows plans) ≡ numbers_after plans
numbers_rewritten [] [] of = refl
numbers_rewritten [] (plan ∷ plans) of = absurd (no_row plan plans of)
numbers_rewritten (row ∷ rows) [] of = absurd (no_plan row rows of)
numbers_rewritten (row ∷ rows) (plan ∷ plans) of = ap (λ ns. note_numbers plan.becomes.parts ++ ns) (numbers_rewritten rows plans (others_of row rows plan plans of))

-- what is said of the streams of the rows
pub of_rows : (P : StreamView → Type 0) (rows : List Row) (plans : List PlanView) → AreOf rows plans → AllByRecursion (λ row. P row.1) rows → AllByRecursion (λ plan. P plan.of) plans
of_rows P [] [] of h = tt
of_rows P [] (plan ∷ plans) of h = absurd (no_row plan plans of)
of_rows P (row ∷ rows) [] of h = tt
of_rows P (row ∷ rows) (plan ∷ plans) of h = (subst P (sym (first_of row rows plan plans of)) h.0, of_rows P rows plans (others_of row rows plan plans of) h.1)

-- and of what they become
pub to_rows : (P : StreamView → Type 0) (rows : List Row) (plans : List PlanView) → AreOf rows plans → AllByRecursion (λ plan. P plan.becomes) plans → AllByRecursion (λ row. P row.1) (rewritten rows plans)
to_rows P [] plans of h = tt
to_rows P (row ∷ rows) [] of h = absurd (no_plan row rows of)
to_rows P (row ∷ rows) (plan ∷ plans) of h = (h.0, to_rows P rows plans (others_of row rows plan plans of) h.1)

-- what is left is what is not covered
pub joined_rewritten : (covers : Entry → Bool) (rows : List Row) (plans : List PlanView) → AreOf rows plans → AllByRecursion (λ plan. entries_of plan.becomes ≡ uncovered covers (entries_of plan.of)) plans → joined (rewritten rows plans) ≡ uncovered covers (joined rows)
joined_rewritten covers [] plans of right = refl
joined_rewritten covers (row ∷ rows) [] of right = absurd (no_plan row rows of)
joined_rewritten covers (row ∷ rows) (plan ∷ plans) of right =
    let first : entries_of plan.becomes ≡ uncovered covers (entries_of row.1) = right.0 ∙ ap (λ (s : StreamView). uncovered covers (entries_of s)) (first_of row rows plan plans of) in
    (λ i. first i ++ joined_rewritten covers rows plans (others_of row rows plan plans of) right.1 i) ∙ sym (filter-append (λ entry. not (covers entry)) (entries_of row.1) (joined rows))

pub rewritten_left : (covers : Entry → Bool) (rows : List Row) (plans : List PlanView) → AreOf rows plans → AllByRecursion (λ plan. IsLeftIn covers plan.of plan.becomes) plans → AreLeftIn covers rows (rewritten rows plans)
rewritten_left covers [] plans of left = tt
rewritten_left covers (row ∷ rows) [] of left = absurd (no_plan row rows of)
rewritten_left covers (row ∷ rows) (plan ∷ plans) of left =
    ((refl, subst (λ (s : StreamView). IsLeftIn covers s plan.becomes) (first_of row rows plan plans of) left.0), rewritten_left covers rows plans (others_of row rows plan plans of) left.1)

-- the plan of one stream, by what its making promises
pub one_planned : (covers : Entry → Bool) (stream : StreamView) (before : ChunksView) (plan : PlanView) (after : ChunksView) → plan.of ≡ stream → plan.becomes.labels ≡ stream.labels → plan.becomes.newest ≡ stream.newest → All (λ entry. entry.labels ≡ stream.labels) (entries_of plan.becomes)
    → length (entries_of plan.becomes) ≤ length (entries_of stream) → AreLeft covers stream.labels stream.parts plan.becomes.parts → plan.becomes.head ≡ uncovered covers stream.head → AreRenumbered (note_numbers stream.parts) before.next after.next (note_numbers plan.becomes.parts) plan.gone
    → (AreKept before stream → AreKept after plan.becomes) → (before.seen.honest ≡ true → AreKept before stream → entries_of plan.becomes ≡ uncovered covers (entries_of stream)) → ArePlanned covers before (plan ∷ []) after
one_planned covers stream before plan after of labels newest own fewer parts head numbers kept right =
    let back = sym of in
    record {
      sound = (
        record {
          labels = labels ∙ ap (λ (s : StreamView). s.labels) back;
          newest = newest ∙ ap (λ (s : StreamView). s.newest) back;
          own = subst (λ (s : StreamView). All (λ entry. entry.labels ≡ s.labels) (entries_of plan.becomes)) back own;
          fewer = subst (λ (s : StreamView). length (entries_of plan.becomes) ≤ length (entries_of s)) back fewer;
        },
        tt,
      );
      left = (subst (λ (s : StreamView). IsLeftIn covers s plan.becomes) back (record { parts = parts; head = head }), tt);
      numbers = subst (λ ns. AreRenumbered ns before.next after.next (note_numbers plan.becomes.parts ++ []) (plan.gone ++ [])) (sym (append-nil (note_numbers plan.of.parts)))
          (subst (λ ns. AreRenumbered (note_numbers plan.of.parts) before.next after.next ns (plan.gone ++ [])) (sym (append-nil (note_numbers plan.becomes.parts)))
          (subst (λ ns. AreRenumbered (note_numbers plan.of.parts) before.next after.next (note_numbers plan.becomes.parts) ns) (sym (append-nil plan.gone))
          (subst (λ (s : StreamView). AreRenumbered (note_numbers s.parts) before.next after.next (note_numbers plan.becomes.parts) plan.gone) back numbers)));
      kept = λ h. (kept (subst (AreKept before) of h.0), tt);
      right = λ honest h. (right honest (subst (AreKept before) of h.0) ∙ ap (λ (s : StreamView). uncovered covers (entries_of s)) back, tt);
    }

-- no plan carried out
pub rewritten_none : (rows : List Row) → rewritten rows [] ≡ rows
rewritten_none [] = refl
rewritten_none (row ∷ rows) = refl

-- the stream after those whose plans are carried out, and the rows once its own is
pub next_row : (rows : List Row) (plans : List PlanView) (plan : PlanView) (rest : List PlanView) → AreOf rows (plans ++ plan ∷ rest) → slice_get (values_of (rewritten rows plans)) (length plans) ≡ Some plan.of
next_row [] [] plan rest of = absurd (no_row plan rest of)
next_row [] (p ∷ plans) plan rest of = absurd (no_row p (plans ++ plan ∷ rest) of)
next_row (row ∷ rows) [] plan rest of = ap Some (sym (first_of row rows plan rest of))
next_row (row ∷ rows) (p ∷ plans) plan rest of = next_row rows plans plan rest (others_of row rows p (plans ++ plan ∷ rest) of)

pub set_next : (rows : List Row) (plans : List PlanView) (plan : PlanView) (rest : List PlanView) → AreOf rows (plans ++ plan ∷ rest) → set_value_at (rewritten rows plans) (length plans) plan.becomes ≡ rewritten rows (plans ++ plan ∷ [])
set_next [] [] plan rest of = absurd (no_row plan rest of)
set_next [] (p ∷ plans) plan rest of = absurd (no_row p (plans ++ plan ∷ rest) of)
set_next (row ∷ rows) [] plan rest of = ap (λ rs. (row.0, plan.becomes) ∷ rs) (sym (rewritten_none rows))
set_next (row ∷ rows) (p ∷ plans) plan rest of = ap (λ rs. (row.0, p.becomes) ∷ rs) (set_next rows plans plan rest (others_of row rows p (plans ++ plan ∷ rest) of))

pub long_rewritten : (rows : List Row) (plans : List PlanView) → length (rewritten rows plans) ≡ length rows
long_rewritten [] plans = refl
long_rewritten (row ∷ rows) [] = refl
long_rewritten (row ∷ rows) (plan ∷ plans) = ap suc (long_rewritten rows plans)

-- one plan for each row
pub as_many : (rows : List Row) (plans : List PlanView) → AreOf rows plans → length plans ≡ length rows
as_many [] [] of = refl
as_many [] (plan ∷ plans) of = absurd (no_row plan plans of)
as_many (row ∷ rows) [] of = absurd (no_plan row rows of)
as_many (row ∷ rows) (plan ∷ plans) of = ap suc (as_many rows plans (others_of row rows plan plans of))

values_within : (rows : List Row) (i : ℕ) (stream : StreamView) → slice_get (values_of rows) i ≡ Some stream → i < length (values_of rows)
values_within [] i stream at = absurd (not_none stream at)
values_within (row ∷ rows) zero stream at = omega arith
values_within (row ∷ rows) (suc i) stream at = let others = values_within rows i stream at in omega (arith, others)

-- the plan of the next row after the others
pub of_more : (rows : List Row) (plans : List PlanView) (i : ℕ) (plan : PlanView) (stream : StreamView) → map (λ (p : PlanView). p.of) plans ≡ take i (values_of rows) → slice_get (values_of rows) i ≡ Some stream → plan.of ≡ stream → map (λ (p : PlanView). p.of) (plans ++ plan ∷ []) ≡ take (i + 1) (values_of rows)
of_more rows plans i plan stream so_far at of =
    let values = values_of rows in
    let is : get_or values i stream ≡ stream = get_or_from_slice_get values i stream stream at in
    map-append (λ (p : PlanView). p.of) plans (plan ∷ []) ∙ (λ k. so_far k ++ (of ∙ sym is) k ∷ []) ∙ sym (take_more values i stream (values_within rows i stream at))

-- the entries of one row and of those before it are no more than all
pub joined_up_to : (rows : List Row) (i : ℕ) (stream : StreamView) → slice_get (values_of rows) i ≡ Some stream → length (joined (take i rows)) + length (entries_of stream) ≤ length (joined rows)
joined_up_to [] i stream at = absurd (not_none stream at)
joined_up_to (row ∷ rows) zero stream at = omega (arith, ap (λ (s : StreamView). length (entries_of s)) (same_some row.1 stream at), length-append (entries_of row.1) (joined rows))
joined_up_to (row ∷ rows) (suc i) stream at =
    let others = joined_up_to rows i stream at in
    omega (arith, others, length-append (entries_of row.1) (joined rows), length-append (entries_of row.1) (joined (take i rows)))

pub joined_more : (rows : List Row) (i : ℕ) (stream : StreamView) → slice_get (values_of rows) i ≡ Some stream → length (joined (take (i + 1) rows)) ≡ length (joined (take i rows)) + length (entries_of stream)
joined_more rows i stream at =
    let row = with_key rows i stream at in
    let is : get_or rows i (row.0, stream) ≡ (row.0, stream) = get_or_from_slice_get rows i (row.0, stream) (row.0, stream) row.1 in
    let front : take (i + 1) rows ≡ take i rows ++ (row.0, stream) ∷ [] = take_more rows i (row.0, stream) (within rows i (row.0, stream) row.1) ∙ ap (λ r. take i rows ++ r ∷ []) is in
    ap (λ (rs : List Row). length (joined rs)) front
    ∙ ap length (flat_map-append (λ (r : Row). entries_of r.1) (take i rows) ((row.0, stream) ∷ []))
    ∙ length-append (joined (take i rows)) (entries_of stream ++ [])
    ∙ ap (λ es. length (joined (take i rows)) + length es) (append-nil (entries_of stream))

-- the plans so far, the next one, and the others are those of the rows
pub of_split : (rows : List Row) (plans done left : List PlanView) (plan : PlanView) (rest : List PlanView) → done ++ left ≡ plans → left ≡ plan ∷ rest → AreOf rows plans → AreOf rows (done ++ plan ∷ rest)
of_split rows plans done left plan rest split next of = subst (λ (ps : List PlanView). AreOf rows ps) (sym split ∙ ap (λ ps. done ++ ps) next) of

-- so the next stream is that of its plan
pub at_next : (rows : List Row) (done : List PlanView) (plan : PlanView) (rest : List PlanView) → AreOf rows (done ++ plan ∷ rest) → (now : List Row) (position : ℕ) (stream : StreamView) → now ≡ rewritten rows done → position ≡ length done → slice_get (values_of now) position ≡ Some stream → plan.of ≡ stream
at_next rows done plan rest of now position stream same many at =
    same_some plan.of stream (sym (next_row rows done plan rest of) ∙ sym (λ i. slice_get (values_of (same i)) (many i)) ∙ at)

pub below_next : (rows : List Row) (done : List PlanView) (plan : PlanView) (rest : List PlanView) → AreOf rows (done ++ plan ∷ rest) → (now : List Row) (position : ℕ) → now ≡ rewritten rows done → position ≡ length done → position < length now
below_next rows done plan rest of now position same many =
    omega (arith, many, ap length same, long_rewritten rows done, as_many rows (done ++ plan ∷ rest) of, length-append done (plan ∷ rest))

abbrev fault_in : {A : Type 0} → RewriteFault → Result A RewriteFault → RewriteFault
fault_in other (Ok answer) = other
fault_in other (Err fault) = fault

-- a fault is the same in answers of two kinds
pub same_fault : {A B : Type 0} (fault other : RewriteFault) → ◌≡◌ {A = Result A RewriteFault} (Err fault) (Err other) → ◌≡◌ {A = Result B RewriteFault} (Err fault) (Err other)
same_fault fault other same = ap Err (ap (fault_in fault) same)
