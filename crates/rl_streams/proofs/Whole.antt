-- Streams as they are seen, and what is always true of them.
use Rattle.std.proofs.Common.{◌≡◌, ℕ, ◌+◌, ◌<◌, ◌≤◌, Bool, true, false, not, List, [], ◌∷◌, length, Result, Ok, Err, inl, inr, refl, sym, ap, subst, ◌∙◌, true≢false, arith}
use Rattle.std.specs.Prelude.{None, OnOk, MatchBool, MatchOption, MatchResult, nat_le}
use Rattle.std.specs.List.{IsDistinct}
use Rattle.std.specs.FinMap.{contains_key, len}
use Rattle.std.proofs.lemmas.Bool.Decides.{nat_tests}
use Rattle.std.proofs.lemmas.List.Sorted.{length_permutation}
use Rattle.rl_labels.specs.EntryOrder.{EntrySet}
use Rattle.rl_labels.specs.laws.OrderLaws.{entry_cmp_total, entry_cmp-IsAntisymmetric}
use Rattle.rl_labels.specs.declared.entry.Entry.{Entry}
use Rattle.rl_parts.specs.StoreUse.{Reads}
use Rattle.rl_parts.specs.laws.UseLaws.{Keeps-reads, Looked-then}
use Rattle.rl_parts.specs.declared.fault.ReadFault.TheVariants as reads
use Rattle.rl_streams.specs.laws.HeldLaws.{contains_key-of_list, len-of_distinct, set-permuted}
use Rattle.rl_streams.specs.declared.refusal.AddRefusal.{AddRefusal}
use Rattle.rl_streams.specs.declared.refusal.AddRefusal.TheVariants.{Expired, TooFarBehind, Full, Read}
use Rattle.rl_labels.specs.declared.limits.Limits.{Limits}
use Rattle.rl_parts.specs.ChunksState.{ChunksView}
use Rattle.rl_streams.specs.StreamRows.{Row, joined, newest_in, newest_map, loose_in, unwritten_in, is_among}
use Rattle.rl_streams.specs.StreamsState.{StreamsView, IsWhole, Cuts, Flushes, Looks, Takes, IsDecided, age_refusal, view_of}
use Rattle.rl_streams.specs.Found.{IsAnswered, IsAnsweredUnread, IsFound, IsMissing, IsSettled, IsSettledUnread}
use Rattle.rl_streams.specs.HeldSet.{set_of}
use Rattle.rl_streams.specs.RowSteps.{AreCut, AreAdded, AreFlushed, IsOfferedRight}
use Rattle.rl_streams.proofs.Steps.{streams_kept}

-- no streams
pub none_whole : (limits : Limits) (rows : List Row) (chunks : ChunksView) → rows ≡ [] → IsWhole limits rows chunks 0
unfolding IsDistinct
none_whole limits rows chunks none = subst (λ rows. IsWhole limits rows chunks 0) (sym none) (record {
  streams = record { own = tt; apart = tt; kept = tt; numbers = tt; once = λ _. tt };
  counted = refl;
  room = omega arith;
})

module _ (limits : Limits) (chunks : ChunksView) (count : ℕ) (old new : List Row) (cut : AreCut old new) where
  -- streams whose heads were sealed
  pub cut_whole : IsWhole limits old chunks count → IsWhole limits new chunks count
  cut_whole whole = record { streams = cut.streams chunks whole.streams; counted = whole.counted ∙ ap length (sym cut.entries); room = whole.room }

  pub cut_view : Cuts (view_of limits old chunks) (view_of limits new chunks)
  cut_view = record { limits = refl; held = ap set_of cut.entries; newest = ap newest_map cut.newest; next = refl; order = cut.order; numbers = cut.numbers; seen = refl }

-- streams whose parts were written
pub flush_view : (limits : Limits) (old new : List Row) (before after : ChunksView) → AreFlushed old before new after → Flushes (view_of limits old before) (view_of limits new after)
flush_view limits old new before after flushed = record { limits = refl; held = ap set_of flushed.entries; newest = ap newest_map flushed.newest; next = flushed.up; loose = ap length flushed.loose; order = flushed.order; numbers = flushed.counted; given = flushed.given }

-- looks, one after another
pub looks_then : (a b c : StreamsView) → Looks a b → Looks b c → Looks a c
looks_then a b c p q = record {
  limits = q.limits ∙ p.limits;
  held = q.held ∙ p.held;
  newest = q.newest ∙ p.newest;
  next = q.next ∙ p.next;
  loose = q.loose ∙ p.loose;
  unwritten = q.unwritten ∙ p.unwritten;
  rows = q.rows ∙ p.rows;
  seen = Looked-then a.seen b.seen c.seen p.seen q.seen;
}

-- none are left
pub on_ok_none : {A T E : Type 0} (xs : List A) (result : Result T E) → OnOk result (xs ≡ []) → OnOk result (length xs ≡ 0)
on_ok_none xs (Ok x) none = ap length none
on_ok_none xs (Err e) none = tt

-- an entry that was taken was not held, and there was room for it
pub taken_new : (held : Bool) → true ≡ not held → held ≡ false
taken_new true e = e
taken_new false e = refl

pub has_room : (limits : Limits) (count : ℕ) → nat_le limits.entries count ≡ false → count < limits.entries
has_room limits count h = grind (arith, nat_tests, h)

abbrev answer_in : {E : Type 0} → Bool → Result Bool E → Bool
answer_in other (Ok answer) = answer
answer_in other (Err _) = other

abbrev refusal_in : {A : Type 0} → AddRefusal → Result A AddRefusal → AddRefusal
refusal_in other (Ok _) = other
refusal_in other (Err refusal) = refusal

not_ok : {A : Type 0} (refusal : AddRefusal) (answer : A) → ◌≡◌ {A = Result A AddRefusal} (Err refusal) (Ok answer) → ⊥
not_ok {A} refusal answer e = true≢false (sym (ap is_answer e))
  where
    is_answer : Result A AddRefusal → Bool
    is_answer (Ok _) = true
    is_answer (Err _) = false

-- what becomes of an entry, by its age
abbrev pub IsSettledBy : Result Bool AddRefusal → ℕ → Entry → StreamsView → StreamsView → Type 0
IsSettledBy result horizon entry new old = MatchOption (age_refusal old.limits old.newest horizon entry) (IsSettled result old entry new) (λ refusal. (result ≡ Err refusal) × (new ≡ old))

pub settled_young : (result : Result Bool AddRefusal) (horizon : ℕ) (entry : Entry) (new old : StreamsView) → age_refusal old.limits old.newest horizon entry ≡ None → IsSettled result old entry new → IsSettledBy result horizon entry new old
settled_young result horizon entry new old young is = subst (λ refusal. MatchOption refusal (IsSettled result old entry new) (λ refusal. (result ≡ Err refusal) × (new ≡ old))) (sym young) is

module _ (limits : Limits) (rows new : List Row) (old now : ChunksView) (count : ℕ) (whole : IsWhole limits rows old count) (looked : Reads old now) where
  -- streams whose store was looked at
  pub looked_whole : new ≡ rows → IsWhole limits new now count
  looked_whole same = subst (λ rows. IsWhole limits rows now count) (sym same) (record { streams = streams_kept rows old whole.streams now (Keeps-reads old now looked); counted = whole.counted; room = whole.room })

  pub looked_view : new ≡ rows → Looks (view_of limits rows old) (view_of limits new now)
  looked_view same = record { limits = refl; held = ap (λ rows. set_of (joined rows)) same; newest = ap (λ rows. newest_map (newest_in rows)) same; next = looked.next; loose = ap (λ rows. length (loose_in rows)) same; unwritten = ap (λ rows. length (unwritten_in rows)) same; rows = same; seen = looked.seen }

  abbrev before : StreamsView
  before = view_of limits rows old

  abbrev after : StreamsView
  after = view_of limits new now

  module _ (entry : Entry) where
    abbrev held : EntrySet
    held = set_of (joined rows)

    is_held : contains_key held entry ≡ is_among entry (joined rows)
    is_held = contains_key-of_list entry_cmp_total (joined rows) entry

    many_held : old.seen.honest ≡ true → len held ≡ count
    many_held honest = len-of_distinct entry_cmp_total (joined rows) (whole.streams.once honest) ∙ sym whole.counted

    -- streams that took an entry
    pub taken_whole : AreAdded limits.chunk_entries rows entry new → (old.seen.honest ≡ true → is_among entry (joined rows) ≡ false) → count < limits.entries → IsWhole limits new now (count + 1)
    taken_whole added is_new room =
        let longer = length_permutation (entry ∷ joined rows) (joined new) added.entries in
        record {
          streams = added.streams now (streams_kept rows old whole.streams now (Keeps-reads old now looked)) (λ honest. is_new (sym looked.seen.honest ∙ honest));
          counted = omega (arith, longer, whole.counted);
          room = omega (arith, room);
        }

    pub taken_view : AreAdded limits.chunk_entries rows entry new → Takes (view_of limits rows old) entry (view_of limits new now)
    taken_view added = record { limits = refl; held = set-permuted entry_cmp_total entry_cmp-IsAntisymmetric (entry ∷ joined rows) (joined new) added.entries; newest = added.newest; next = looked.next; rows = added.rows; numbers = added.numbers; seen = looked.seen }

    -- what was decided, where it was refused
    pub decided_refused : (refusal : AddRefusal) (is_full : Bool) (to : StreamsView) → old.seen.honest ≡ true → IsOfferedRight (Err refusal) (is_among entry (joined rows)) → IsAnswered (Err refusal) (IsFound rows entry) (IsMissing rows entry) is_full → is_full ≡ nat_le limits.entries count → IsDecided (Err refusal) (view_of limits rows old) entry to
    decided_refused Full is_full to honest right (_, full) is = (is_held ∙ right, let le = sym is ∙ full in let many = many_held honest in grind (arith, nat_tests, le, many))
    decided_refused (Read reads.Fault) is_full to honest right full is = tt
    decided_refused (Read reads.Damaged) is_full to honest right full is = right
    decided_refused (Read reads.Memory) is_full to honest right full is = tt
    decided_refused (Expired horizon) is_full to honest right full is = right
    decided_refused (TooFarBehind newest) is_full to honest right full is = right

    -- where it was held already, and where it was taken
    pub decided_held : old.seen.honest ≡ true → IsOfferedRight (Ok false) (is_among entry (joined rows)) → new ≡ rows → IsDecided (Ok false) (view_of limits rows old) entry (view_of limits new now)
    decided_held honest right same = (is_held ∙ was (is_among entry (joined rows)) right, looked_view same)
      where
        was : (b : Bool) → false ≡ not b → b ≡ true
        was true e = refl
        was false e = e

    pub decided_taken : old.seen.honest ≡ true → IsOfferedRight (Ok true) (is_among entry (joined rows)) → AreAdded limits.chunk_entries rows entry new → count < limits.entries → IsDecided (Ok true) (view_of limits rows old) entry (view_of limits new now)
    decided_taken honest right added room = (is_held ∙ taken_new (is_among entry (joined rows)) right, (subst (λ n. n < limits.entries) (sym (many_held honest)) room, taken_view added))

    -- over any store: where it was refused, where it was found, and where it was taken
    pub settled_refused : (refusal : AddRefusal) (is_full : Bool) → IsAnswered (Err refusal) (IsFound rows entry) (IsMissing rows entry) is_full → is_full ≡ nat_le limits.entries count → new ≡ rows → IsSettled (Err refusal) before entry after
    settled_refused Full is_full (missing, full) is same =
        let le = sym is ∙ full in
        let room : limits.entries ≤ count = grind (arith, nat_tests, le) in
        (missing, (omega (arith, room, whole.counted), looked_view same))
    settled_refused (Read _) is_full h is same = looked_view same
    settled_refused (Expired _) is_full h is same = h
    settled_refused (TooFarBehind _) is_full h is same = h

    pub settled_held : IsFound rows entry → new ≡ rows → IsSettled (Ok false) before entry after
    settled_held found same = (found, looked_view same)

    pub settled_taken : IsMissing rows entry → AreAdded limits.chunk_entries rows entry new → count < limits.entries → IsSettled (Ok true) before entry after
    settled_taken missing added room = (missing, (omega (arith, room, whole.counted), taken_view added))

    -- and where no written part reaches it
    module _ (is_full : Bool) (full : is_full ≡ nat_le limits.entries count) (same_store : now ≡ old) where
      abbrev Cases : Result Bool AddRefusal → Bool → Bool → Type 0
      Cases result is_held no_room = MatchBool is_held ((result ≡ Ok false) × (after ≡ before)) (MatchBool no_room ((result ≡ Err Full) × (after ≡ before)) (MatchResult result (λ taken. (taken ≡ true) × (Takes before entry after × (after.seen ≡ before.seen))) (λ refusal. (refusal ≡ Read reads.Memory) × (after ≡ before))))

      by_cases : (result : Result Bool AddRefusal) → Cases result (is_among entry (joined rows)) is_full → IsSettledUnread result before entry after
      by_cases result is =
          let room : is_full ≡ nat_le limits.entries (length (joined rows)) = full ∙ ap (nat_le limits.entries) whole.counted in
          subst (λ b. Cases result b (nat_le limits.entries (length (joined rows)))) (sym is_held) (subst (λ b. Cases result (is_among entry (joined rows)) b) room is)

      same_view : new ≡ rows → after ≡ before
      same_view same = λ i. view_of limits (same i) (same_store i)

      pub unread_refused : (refusal : AddRefusal) → IsAnsweredUnread (Err refusal) (is_among entry (joined rows)) is_full → new ≡ rows → IsSettledUnread (Err refusal) before entry after
      unread_refused refusal answers same = by_cases (Err refusal) (by (is_among entry (joined rows)) is_full answers)
        where
          by : (held no_room : Bool) → IsAnsweredUnread (Err refusal) held no_room → Cases (Err refusal) held no_room
          by true no_room e = absurd (not_ok refusal false e)
          by false true e = (ap Err (ap (refusal_in refusal) e), same_view same)
          by false false (inl e) = absurd (not_ok refusal true e)
          by false false (inr e) = (ap (refusal_in refusal) e, same_view same)

      pub unread_held : IsAnsweredUnread (Ok false) (is_among entry (joined rows)) is_full → new ≡ rows → IsSettledUnread (Ok false) before entry after
      unread_held answers same = by_cases (Ok false) (by (is_among entry (joined rows)) is_full answers)
        where
          by : (held no_room : Bool) → IsAnsweredUnread (Ok false) held no_room → Cases (Ok false) held no_room
          by true no_room e = (refl, same_view same)
          by false true e = absurd (not_ok Full false (sym e))
          by false false (inl e) = absurd (true≢false (sym (ap (answer_in true) e)))
          by false false (inr e) = absurd (not_ok (Read reads.Memory) false (sym e))

      pub unread_taken : IsAnsweredUnread (Ok true) (is_among entry (joined rows)) is_full → AreAdded limits.chunk_entries rows entry new → IsSettledUnread (Ok true) before entry after
      unread_taken answers added = by_cases (Ok true) (by (is_among entry (joined rows)) is_full answers)
        where
          by : (held no_room : Bool) → IsAnsweredUnread (Ok true) held no_room → Cases (Ok true) held no_room
          by true no_room e = absurd (true≢false (ap (answer_in true) e))
          by false true e = absurd (not_ok Full true (sym e))
          by false false e = (refl, (taken_view added, ap (λ (chunks : ChunksView). chunks.seen) same_store))
