-- What an entry that is put makes of a head, and a head that is sealed of a stream.
use Rattle.std.proofs.Common.{◌≡◌, ℕ, ◌+◌, ◌-◌, ◌<◌, ◌≤◌, max, List, [], ◌∷◌, ◌++◌, length, take, drop, None, Option, refl, sym, ap, subst, ◌∙◌, append-nil, lit<, arith}
use Rattle.std.specs.Option.{unwrap_or}
use Rattle.std.specs.List.{All, AllByRecursion, flat_map, insert as List_insert}
use Rattle.std.proofs.lemmas.List.{length-append}
use Rattle.std.proofs.lemmas.List.Concat.{flat_map-append}
use Rattle.std.proofs.lemmas.List.Edits.{length-insert, insert-append_right}
use Rattle.std.proofs.lemmas.List.Elements.{All-append, All-cons, All-take, All-drop, All-weaker}
use Rattle.rl_labels.specs.LabelSet.{LabelSet}
use Rattle.rl_labels.specs.laws.OrderLaws.{entry_cmp_total}
use Rattle.rl_labels.specs.declared.entry.Entry.{Entry}
use Rattle.rl_parts.specs.StreamParts.{PartView, IsRun, IsPart, unwritten, most_entries}
use Rattle.rl_parts.specs.PartState.{timestamp_at}
use Rattle.rl_parts.specs.Changes.{IsInserted}
use Rattle.rl_parts.specs.StreamState.{AreSealedUpTo, IsInOrder, IsPut}
use Rattle.rl_parts.specs.laws.EachLaws.{all_more}
use Rattle.rl_parts.proofs.InOrder.{insert_in_order, nothing_in_order}
use Rattle.rl_parts.proofs.Times.{up_to_last}

-- a run with an entry put in
pub run_put : (set : LabelSet) (old : List Entry) (entry : Entry) (new : List Entry) → IsRun set old → entry.labels ≡ set → IsPut old entry new → IsRun set new
run_put set old entry new run of put =
    let labels : All (λ e. e.labels ≡ set) (List_insert old put.index entry) =
    All-append (λ e. e.labels ≡ set) (take put.index old) (entry ∷ drop put.index old) (All-take (λ e. e.labels ≡ set) put.index old run.labels)
    (All-cons (λ e. e.labels ≡ set) entry (drop put.index old) of (All-drop (λ e. e.labels ≡ set) put.index old run.labels)) in
    subst (IsRun set) (sym put.is) (record { labels = labels; rising = insert_in_order entry_cmp_total old entry put.index run.rising put.belongs.within put.belongs.before put.belongs.after })

pub run_none : (set : LabelSet) → IsRun set []
run_none set = record { labels = λ k d h. absurd (omega arith); rising = nothing_in_order entry_cmp_total }

pub many_put : (old : List Entry) (entry : Entry) (new : List Entry) → IsPut old entry new → length new ≡ length old + 1
many_put old entry new put = ap length put.is ∙ length-insert old put.index entry put.belongs.within

-- all entries, where one was put into the head
pub entries_put : (front old : List Entry) (entry : Entry) (new : List Entry) → IsPut old entry new → IsInserted (front ++ old) entry (front ++ new)
entries_put front old entry new put =
    let back : length front + put.index - length front ≡ put.index = omega arith in
    record {
      index = length front + put.index;
      within = omega (arith, put.belongs.within, length-append front old);
      is = ap (λ xs. front ++ xs) put.is ∙ sym (insert-append_right front old (length front) (length front + put.index) entry refl (omega arith) ∙ ap (λ i. front ++ List_insert old i entry) back);
    }

-- all entries stay where the head is sealed
pub entries_sealed : (parts : List PartView) (head : List Entry) → flat_map (λ part. part.entries) (parts ++ unwritten head ∷ []) ++ [] ≡ flat_map (λ part. part.entries) parts ++ head
entries_sealed parts head = append-nil _ ∙ flat_map-append (λ (part : PartView). part.entries) parts (unwritten head ∷ []) ∙ ap (λ xs. flat_map (λ part. part.entries) parts ++ xs) (append-nil head)

-- no sealed entry is newer than a later timestamp either
up_to_later : (old new : Option ℕ) (parts : List PartView) → unwrap_or old 0 ≤ unwrap_or new 0 → AreSealedUpTo old parts → AreSealedUpTo new parts
up_to_later old new [] le h = tt
up_to_later old new (part ∷ parts) le h = (All-weaker (λ e. e.timestamp ≤ unwrap_or old 0) (λ e. e.timestamp ≤ unwrap_or new 0) (λ e k. omega arith) part.entries h.0, up_to_later old new parts le h.1)

-- a stream whose head was sealed is in order
pub in_order_sealed : (set : LabelSet) (parts : List PartView) (head : List Entry) (newest : ℕ) (old new : Option ℕ) → AllByRecursion (IsPart set) parts → AreSealedUpTo old parts → IsRun set head → 0 < length head → length head ≤ most_entries
    → unwrap_or new 0 ≡ max (unwrap_or old 0) (timestamp_at head (length head - 1)) → IsInOrder (record { labels = set; parts = parts ++ unwritten head ∷ []; head = []; newest = newest }) new
in_order_sealed set parts head newest old new are up_to run some few is =
    let ends : All (λ e. e.timestamp ≤ unwrap_or new 0) head = All-weaker (λ e. e.timestamp ≤ timestamp_at head (length head - 1)) (λ e. e.timestamp ≤ unwrap_or new 0) (λ e k. omega arith) head (up_to_last set head run) in
    record {
      parts = record { sealed = all_more (IsPart set) parts (unwritten head) are (record { run = run; some = some; few = few }); growing = run_none set; few = lit< tt };
      up_to = all_more (λ part. All (λ e. e.timestamp ≤ unwrap_or new 0) part.entries) parts (unwritten head) (up_to_later old new parts (omega arith) up_to) ends;
    }

-- and so is one of a single entry
pub one_in_order : (set : LabelSet) (entry : Entry) (newest : ℕ) → entry.labels ≡ set → IsInOrder (record { labels = set; parts = []; head = entry ∷ []; newest = newest }) None
one_in_order set entry newest of =
    let put : IsPut [] entry (entry ∷ []) = record { index = 0; belongs = record { within = omega arith; before = λ k d low high. absurd (omega (arith, low, high)); after = λ k d low high. absurd (omega (arith, high)) }; is = refl } in
    record { parts = record { sealed = tt; growing = run_put set [] entry (entry ∷ []) (run_none set) of put; few = lit< tt }; up_to = tt }
