-- What windows stand for while a shard takes its steps.
use Rattle.std.proofs.Common.{◌≡◌, ◌≤◌, ◌<◌, ℕ, leb, Bool, true, false, cond, not, List, [], ◌∷◌, ◌++◌, map, length, Result, Ok, Err, refl, sym, ap, subst, ◌∙◌, ⊎_elim, le-leb, arith}
use Rattle.std.specs.FinMap.{contains_key, entries, insert, keys, len, len-entries}
use Rattle.std.specs.List.{AllByRecursion, filter, sum_by}
use Rattle.std.proofs.lemmas.List.{length-map}
use Rattle.std.proofs.lemmas.List.Sorted.{sum_by-IsPermutation}
use Rattle.std.proofs.lemmas.List.Sums.{sum_by-cons}
use Rattle.rl_labels.specs.EntryOrder.{EntrySet}
use Rattle.rl_labels.specs.Quantity.{greatest_moment}
use Rattle.rl_labels.specs.laws.OrderLaws.{entry_cmp_total}
use Rattle.rl_labels.specs.declared.entry.Entry.{Entry}
use Rattle.rl_labels.specs.declared.limits.Limits.{Limits}
use Rattle.rl_chunks.specs.StoreState.{Seen}
use Rattle.rl_deletes.specs.Deletes.{RequestsView, covered, process_fault}
use Rattle.rl_parts.specs.Rewriting.{uncovered}
use Rattle.rl_parts.specs.StoreUse.{IsGrown}
use Rattle.rl_windows.specs.Built.{timely}
use Rattle.rl_windows.specs.Ranges.{elements_for}
use Rattle.rl_slots.specs.Slots.{outline, with_changes, with_slot, AllStand, AreExact, AreExactIn, AreOfMost, Contents, SlotView}
use Rattle.rl_slots.specs.laws.Alike.{exact-alike, exact-none, exact-set}
use Rattle.rl_slots.specs.laws.Living.{most-outline, most-set}
use Rattle.rl_slots.specs.declared.change.Change.{Change}
use Rattle.rl_slots.specs.declared.range_window.RangeWindow.{RangeWindow}
use Rattle.rl_streams.specs.StreamsState.{StreamsView}
use Rattle.rl_streams.specs.laws.HeldLaws.{keys-inserted}
use Rattle.rl_shard.specs.Live.{windowed, AreCrowded, AreRight, IsLetIn}
use Rattle.rl_shard.specs.ShardState.{ShardState}
use Rattle.rl_shard.specs.ShardStep.{left_of, processed_if, removed_if, stepped}
use Rattle.rl_shard.specs.laws.Shown.{shows-stepped}
use Rattle.rl_records.specs.declared.step.ShardStep.TheVariants as steps
use Rattle.rl_shard.proofs.Few.{few_pass}

-- what windows stand for, by what is held
abbrev pub stood : RequestsView → EntrySet → List Entry
stood requests held = uncovered (covered requests) (timely (keys held))

-- no slot is right
pub right_none : (streams : StreamsView) (requests : RequestsView) → AreRight streams requests []
right_none streams requests = record { most = tt; exact = λ _. exact-none (windowed streams requests) }

-- so are slots where nothing changes of what is held
pub right_same : (old new : StreamsView) (requests : RequestsView) (slots : List SlotView) → new.limits ≡ old.limits → new.seen.honest ≡ old.seen.honest → new.held ≡ old.held → AreRight old requests slots → AreRight new requests slots
right_same old new requests slots limits honest held right = record {
  most = subst (λ (l : Limits). AreOfMost l.entries slots) (sym limits) right.most;
  exact = λ is. subst (λ held. AreExact slots (stood requests held)) (sym held) (right.exact (sym honest ∙ is));
}

-- and others that stand for the same
pub right_others : (streams : StreamsView) (requests : RequestsView) (slots others : List SlotView) → (AreOfMost streams.limits.entries slots → AreOfMost streams.limits.entries others) → ((contents : Contents) → AllStand slots contents → AllStand others contents) → AreRight streams requests slots → AreRight streams requests others
right_others streams requests slots others most stand right = record {
  most = most right.most;
  exact = λ is. stand (λ _ _ code. elements_for code (windowed streams requests)) (right.exact is);
}

-- SUMS

module _ (number : Entry → ℕ) where
  -- a number of entries at moments that there are
  abbrev pub timed : Entry → ℕ
  timed e = cond (leb e.timestamp greatest_moment) (number e) 0

  timely_step : (p is_timely : Bool) (e : Entry) (kept all : List Entry) → cond is_timely (number e) 0 ≡ timed e → sum_by number kept ≡ sum_by timed all → sum_by number (cond is_timely (cond p (e ∷ kept) kept) kept) ≡ sum_by timed (cond p (e ∷ all) all)
  timely_step true true e kept all is same = omega (arith, sum_by-cons number e kept, sum_by-cons timed e all, is, same)
  timely_step true false e kept all is same = omega (arith, sum_by-cons timed e all, is, same)
  timely_step false true e kept all is same = same
  timely_step false false e kept all is same = same

  moved_in : (p : Entry → Bool) (b : Bool) (e : Entry) (es : List Entry) → filter p (cond b (e ∷ es) es) ≡ cond b (cond (p e) (e ∷ filter p es) (filter p es)) (filter p es)
  moved_in p true e es = refl
  moved_in p false e es = refl

  pub timely_sum : (p : Entry → Bool) (es : List Entry) → sum_by number (filter p (timely es)) ≡ sum_by timed (filter p es)
  timely_sum p [] = refl
  timely_sum p (e ∷ es) =
      ap (sum_by number) (moved_in p (leb e.timestamp greatest_moment) e (timely es))
      ∙ timely_step (p e) (leb e.timestamp greatest_moment) e (filter p (timely es)) (filter p es) refl (timely_sum p es)

-- A STEP

-- where a process loses and gains nothing, windows stand for what is shown after it
pub exact_processed : (limits : Limits) (shard : ShardState) (id now : ℕ) (slots : List SlotView) → AreExact slots (stood shard.requests shard.held)
    → AreExact slots (stood (stepped limits shard (steps.Process id now)).requests (stepped limits shard (steps.Process id now)).held)
exact_processed limits shard id now slots exact =
    let after = stepped limits shard (steps.Process id now) in
    exact-alike slots (stood shard.requests shard.held) (stood after.requests after.held) (λ number.
    let shows = (shows-stepped limits shard (steps.Process id now)).sums (timed number) in
    omega (arith, timely_sum number (λ e. not (covered after.requests e)) (keys after.held), timely_sum number (λ e. not (covered shard.requests e)) (keys shard.held), shows)) exact

-- with an entry that was missing, windows stand for it too, unless a received request covers it
pub exact_taken : (slots : List SlotView) (requests : RequestsView) (held : EntrySet) (entry : Entry) → contains_key held entry ≡ false → entry.timestamp ≤ greatest_moment
    → AreExact slots (cond (covered requests entry) [] (entry ∷ []) ++ stood requests held) → AreExact slots (stood requests (insert held entry tt))
exact_taken slots requests held entry missing timely_entry =
    exact-alike slots (cond (covered requests entry) [] (entry ∷ []) ++ stood requests held) (stood requests (insert held entry tt)) (λ number.
    timely_sum number shown (keys (insert held entry tt))
    ∙ sum_by-IsPermutation (timed number) _ _ (keys-inserted entry_cmp_total shown held entry missing)
    ∙ by number (covered requests entry))
  where
    shown : Entry → Bool
    shown e = not (covered requests e)

    is_timed : (number : Entry → ℕ) → timed number entry ≡ number entry
    is_timed number = ap (λ b. cond b (number entry) 0) (le-leb entry.timestamp greatest_moment timely_entry)

    by : (number : Entry → ℕ) (b : Bool) → sum_by (timed number) (cond (not b) (entry ∷ filter shown (keys held)) (filter shown (keys held))) ≡ sum_by number (cond b [] (entry ∷ []) ++ stood requests held)
    by number true = sym (timely_sum number shown (keys held))
    by number false = omega (arith, sum_by-cons (timed number) entry (filter shown (keys held)), sum_by-cons number entry (stood requests held), is_timed number, timely_sum number shown (keys held))

-- no more entries are windowed than are held
pub few_stood : (requests : RequestsView) (held : EntrySet) → length (stood requests held) ≤ len held
few_stood requests held =
    let many : length (keys held) ≡ length (entries held) = length-map (entries held) (λ e. e.0) in
    omega (arith, few_pass (λ (e : Entry). not (covered requests e)) (timely (keys held)), few_pass (λ (e : Entry). leb e.timestamp greatest_moment) (keys held), many, len-entries held)

module _ (old new : StreamsView) (requests : RequestsView) (entry : Entry) (slots mid after : List SlotView) (changes : List Change) (timely_entry : entry.timestamp ≤ greatest_moment) (right : AreRight old requests slots)
    (let_in : IsLetIn requests entry slots mid) (went_in : (contents : Contents) → AllStand slots contents → AllStand mid (with_changes changes contents)) (same : map outline mid ≡ map outline slots) where
  abbrev before : Contents
  before _ _ code = elements_for code (windowed old requests)

  -- a window that has no room shows that as many are held as may be
  no_room : AreCrowded slots → len old.held < old.limits.entries → AreExact slots (windowed old requests) → ⊥
  no_room crowded room exact = omega (arith, crowded old.limits.entries (windowed old requests) right.most exact, few_stood requests old.held, room)

  exact_mid : old.seen.honest ≡ true → len old.held < old.limits.entries → AreExact mid (cond (covered requests entry) [] (entry ∷ []) ++ windowed old requests)
  exact_mid honest room = ⊎_elim (λ crowded. absurd (no_room crowded room (right.exact honest))) (λ goes_in. goes_in (windowed old requests) (right.exact honest)) let_in

  -- windows that an entry was let into are right after it was taken, and where they were settled
  pub right_pushed : (is_taken : Bool) → (is_taken ≡ true → after ≡ mid) → (is_taken ≡ false → (contents : Contents) → AllStand mid (with_changes changes contents) → AllStand after contents) → map outline after ≡ map outline mid
      → new.limits ≡ old.limits → new.seen.honest ≡ old.seen.honest
      → (old.seen.honest ≡ true → is_taken ≡ true → (contains_key old.held entry ≡ false) × ((len old.held < old.limits.entries) × (new.held ≡ insert old.held entry tt)))
      → (is_taken ≡ false → new.held ≡ old.held) → AreRight new requests after
  right_pushed is_taken taken back stays limits honest missing held = record {
    most = subst (λ (l : Limits). AreOfMost l.entries after) (sym limits) (most-outline slots after (stays ∙ same) old.limits.entries right.most);
    exact = λ is. by is_taken refl (sym honest ∙ is);
  }
    where
      by : (b : Bool) → is_taken ≡ b → old.seen.honest ≡ true → AreExact after (windowed new requests)
      by true is was =
          let found = missing was is in
          subst (λ held. AreExact after (stood requests held)) (sym found.1.1) (subst (λ slots. AreExact slots (stood requests (insert old.held entry tt))) (sym (taken is)) (exact_taken mid requests old.held entry found.0 timely_entry (exact_mid was found.1.0)))
      by false is was = subst (λ held. AreExact after (stood requests held)) (sym (held is)) (back is before (went_in before (right.exact was)))

-- so they are after a process
pub right_processed : (old new : StreamsView) (requests after : RequestsView) (horizon id now : ℕ) (slots : List SlotView) → new.limits ≡ old.limits → new.seen.honest ≡ old.seen.honest → after ≡ processed_if (process_fault requests id now) requests id
    → (old.seen.honest ≡ true → new.held ≡ left_of (removed_if (process_fault requests id now) requests id) old.held) → AreRight old requests slots → AreRight new after slots
right_processed old new requests after horizon id now slots limits honest ended left right = record {
  most = subst (λ (l : Limits). AreOfMost l.entries slots) (sym limits) right.most;
  exact = λ is.
      let was = sym honest ∙ is in
      let shard : ShardState = record { held = old.held; newest = old.newest; requests = requests; horizon = horizon } in
      subst (λ held. AreExact slots (stood after held)) (sym (left was))
      (subst (λ own. AreExact slots (stood own (left_of (removed_if (process_fault requests id now) requests id) old.held))) (sym ended) (exact_processed old.limits shard id now slots (right.exact was)));
}

-- what was written leaves the store as honest as it was
pub honest_written : {A E : Type 0} (result : Result A E) (old : Seen) (first next : ℕ) (new : Seen) → IsGrown result old first next new → new.honest ≡ old.honest
honest_written (Ok _) old first next new grown = grown.honest
honest_written (Err _) old first next new grown = grown.honest

-- a slot that is right takes the place of the one of its number
pub right_set : (streams : StreamsView) (requests : RequestsView) (slots : List SlotView) (slot : SlotView) → AllByRecursion (λ (it : RangeWindow). it.window.most ≡ streams.limits.entries) slot.windows → (streams.seen.honest ≡ true → AreExactIn slot.windows (windowed streams requests))
    → AreRight streams requests slots → AreRight streams requests (with_slot slot slots)
right_set streams requests slots slot most exact right = record {
  most = most-set slot slots streams.limits.entries most right.most;
  exact = λ honest. exact-set slot slots (windowed streams requests) (exact honest) (right.exact honest);
}
