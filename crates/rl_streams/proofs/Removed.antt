-- What a store keeps of streams once numbers are removed that they no longer use.
use Rattle.std.proofs.Common.{◌≡◌, ◌⊎◌, inl, inr, ◌||◌, ℕ, ◌-◌, cond, Contains, not, Bool, true, false, List, [], ◌∷◌, ◌++◌, map, length, Option, Some, None, refl, sym, ap, subst, ◌∙◌, arith, ◌+◌, ◌<◌, ◌≤◌, get_or, take, Result, Ok, Err, eq-eqb, eqb-true, true≢false}
use Rattle.std.specs.Prelude.{IfErr, IfSome, OnErr, OnOk, nat_eq}
use Rattle.std.specs.FinMap as finite
use Rattle.std.specs.Cmp.{nat_eq_equiv, unsigned_tied}
use Rattle.std.proofs.lemmas.Cmp.{nat_cmp_total}
use Rattle.std.proofs.lemmas.List.Elements.{All-contains, All-from_recursion, Contains-append_cases, Contains-append_left, Contains-append_right}
use Rattle.std.proofs.lemmas.List.Folds.{list_any-append}
use Rattle.std.proofs.lemmas.Map.Views.{Contains-from_any, list_any-from_Contains}
use Rattle.std.proofs.lemmas.List.Sorted.{Contains-permutation, IsPermutation-append_comm, IsPermutation-sym}
use Rattle.rl_chunks.specs.StoreState.{KeepsReads, LeavesOthers, faults_after, with_fault}
use Rattle.rl_chunks.specs.declared.store.StoreFault.{StoreFault}
use Rattle.rl_chunks.specs.declared.store.StoreFault.TheVariants as stores
use Rattle.std.specs.List.{AllByRecursion, IsDistinct, filter, range_with_len}
use Rattle.std.specs.Ordering.{eq_by_cmp}
use Rattle.std.proofs.lemmas.Map.Keys.{IsDistinct-IsPermutation, IsDistinct-cons, IsDistinct-head, IsDistinct-tail}
use Rattle.rl_labels.specs.LabelSet.{LabelSet}
use Rattle.rl_labels.specs.LabelText.{label_set_eq}
use Rattle.rl_labels.specs.EntryOrder.{entry_cmp}
use Rattle.rl_labels.specs.declared.entry.Entry.{Entry}
use Rattle.rl_parts.specs.ChunksState.{ChunksView}
use Rattle.rl_parts.specs.StreamParts.{Note, PartView, chunk_of, listed, notes_of}
use Rattle.rl_parts.specs.StoreUse.{AreKept, FaultsRise, IsKept, IsNoteOf}
use Rattle.rl_parts.specs.Rewriting.{PlanView, note_numbers, uncovered}
use Rattle.rl_parts.specs.laws.EachLaws.{all_after, all_front, take_next}
use Rattle.rl_parts.specs.laws.RewriteLaws.{AreRenumbered-both}
use Rattle.rl_parts.specs.laws.UseLaws.{with_fault-rises}
use Rattle.rl_streams.specs.laws.HeldLaws.{none_ties}
use Rattle.rl_streams.specs.StreamRows.{AreGiven, AreStreams, Row, joined, numbers_in}
use Rattle.rl_streams.specs.Rewritten.{AreOf, ArePlanned, AreRemoved, IsGone, is_one_of, with_faults, numbers_before, numbers_after, numbers_gone, rewritten}
use Rattle.rl_streams.proofs.Numbers.{all_below, given_in, row_apart}
use Rattle.rl_streams.proofs.Plans.{joined_rewritten, keys_rewritten, numbers_of_rows, numbers_rewritten, of_rows, own_rewritten, to_rows}

distinct_front : (xs ys : List ℕ) → IsDistinct nat_eq (xs ++ ys) → IsDistinct nat_eq xs
unfolding IsDistinct
distinct_front [] ys h = tt
distinct_front (x ∷ xs) ys h =
    IsDistinct-cons nat_eq x xs (all_front (λ y. nat_eq x y ≡ false) xs ys (IsDistinct-head nat_eq x (xs ++ ys) h)) (distinct_front xs ys (IsDistinct-tail nat_eq x (xs ++ ys) h))

all_apart : (xs ys : List ℕ) → IsDistinct nat_eq (xs ++ ys) → AllByRecursion (λ x. is_one_of ys x ≡ false) xs
all_apart [] ys h = tt
all_apart (x ∷ xs) ys h = (none_ties (nat_eq x) ys (all_after (λ y. nat_eq x y ≡ false) xs ys (IsDistinct-head nat_eq x (xs ++ ys) h)), all_apart xs ys (IsDistinct-tail nat_eq x (xs ++ ys) h))

all_left : {A : Type 0} (P : A → Type 0) (p : A → Bool) (xs : List A) → AllByRecursion P xs → AllByRecursion P (filter p xs)
all_left P p [] h = tt
all_left {A} P p (x ∷ xs) h = by (p x) (all_left P p xs h.1)
  where
    by : (b : Bool) → AllByRecursion P (filter p xs) → AllByRecursion P (cond b (x ∷ filter p xs) (filter p xs))
    by true others = (h.0, others)
    by false others = others

-- a filter leaves items apart
distinct_left : {A : Type 0} (eq : A → A → Bool) (p : A → Bool) (xs : List A) → IsDistinct eq xs → IsDistinct eq (filter p xs)
distinct_left eq p [] h = h
distinct_left {A} eq p (x ∷ xs) h = by (p x) (distinct_left eq p xs (IsDistinct-tail eq x xs h))
  where
    by : (b : Bool) → IsDistinct eq (filter p xs) → IsDistinct eq (cond b (x ∷ filter p xs) (filter p xs))
    by true others = IsDistinct-cons eq x (filter p xs) (all_left (λ y. eq x y ≡ false) p xs (IsDistinct-head eq x xs h)) others
    by false others = others

-- faults of some refusals, and then of others
faults_then : (xs ys : List ℕ) (faults : ℕ) → with_faults (length (xs ++ ys)) faults ≡ with_faults (length ys) (with_faults (length xs) faults)
faults_then [] ys faults = refl
faults_then (x ∷ xs) ys faults = faults_then xs ys (with_fault faults)

-- nothing removed
pub removed_none : (chunks : ChunksView) → AreRemoved chunks [] chunks
removed_none chunks = record { next = refl; honest = refl; faults = omega arith; refused = []; counted = refl; gone = λ number there. absurd (true≢false (sym there)); others = λ number apart. refl }

neither : (x y : Bool) → (x || y) ≡ false → (x ≡ false) × (y ≡ false)
neither true y is = absurd (true≢false is)
neither false y is = (refl, is)

-- some numbers, and then others
pub removed_then : (a : ChunksView) (xs : List ℕ) (b : ChunksView) (ys : List ℕ) (c : ChunksView) → AreRemoved a xs b → AreRemoved b ys c → AreRemoved a (xs ++ ys) c
removed_then a xs b ys c p q =
    let first : FaultsRise a.seen.faults b.seen.faults = p.faults in
    let second : FaultsRise b.seen.faults c.seen.faults = q.faults in
    record {
      next = q.next ∙ p.next;
      honest = q.honest ∙ p.honest;
      faults = omega arith;
      refused = p.refused ++ q.refused;
      counted = q.counted ∙ ap (with_faults (length q.refused)) p.counted ∙ sym (faults_then p.refused q.refused a.seen.faults);
      gone = λ number there kept.
          let free = neither (is_one_of p.refused number) (is_one_of q.refused number) (sym (list_any-append (nat_eq number) p.refused q.refused) ∙ kept) in
          gone number free.0 free.1 (is_one_of xs number) (is_one_of ys number) refl refl (sym (list_any-append (nat_eq number) xs ys) ∙ there);
      others = λ number apart. let free = neither (is_one_of xs number) (is_one_of ys number) (sym (list_any-append (nat_eq number) xs ys) ∙ apart) in q.others number free.1 ∙ p.others number free.0;
    }
  where
    gone : (number : ℕ) → is_one_of p.refused number ≡ false → is_one_of q.refused number ≡ false → (x y : Bool) → is_one_of xs number ≡ x → is_one_of ys number ≡ y → (x || y) ≡ true → finite.get c.seen.blobs number ≡ None
    gone number first second x true early late there = q.gone number late second
    gone number first second true false early late there = q.others number late ∙ p.gone number early first
    gone number first second false false early late there = absurd (true≢false (sym there))

-- a number is none of these
abbrev IsApart : List ℕ → ℕ → Type 0
IsApart numbers number = is_one_of numbers number ≡ false

-- parts whose numbers are not removed are kept
parts_removed : (old new : ChunksView) (gone : List ℕ) (labels : LabelSet) (parts : List PartView) → AreRemoved old gone new → AllByRecursion (IsApart gone) (note_numbers parts) → AllByRecursion (IsKept old labels) parts → AllByRecursion (IsKept new labels) parts
parts_removed old new gone labels [] removed apart kept = tt
parts_removed old new gone labels (part ∷ parts) removed apart kept = by (λ away. parts_removed old new gone labels parts removed away kept.1) part.note apart kept.0
  where
    by : (AllByRecursion (IsApart gone) (note_numbers parts) → AllByRecursion (IsKept new labels) parts) → (note : Option Note) → AllByRecursion (IsApart gone) (map (λ note. note.number) (listed note ++ notes_of parts)) → IfSome note (IsNoteOf old (chunk_of labels part.entries))
        → IfSome note (IsNoteOf new (chunk_of labels part.entries)) × AllByRecursion (IsKept new labels) parts
    by others None away is = (tt, others away)
    by others (Some note) away is = (record { given = omega (arith, is.given, removed.next); digest = is.digest; read = is.read; kept = λ honest. removed.others note.number away.0 ∙ is.kept (sym removed.honest ∙ honest) }, others away.1)

all_removed : (old new : ChunksView) (gone : List ℕ) (plans : List PlanView) → AreRemoved old gone new → AllByRecursion (IsApart gone) (numbers_after plans) → AllByRecursion (λ plan. AreKept old plan.becomes) plans → AllByRecursion (λ plan. AreKept new plan.becomes) plans
all_removed old new gone [] removed apart kept = tt
all_removed old new gone (plan ∷ plans) removed apart kept = (
  parts_removed old new gone plan.becomes.labels plan.becomes.parts removed (all_front (IsApart gone) (note_numbers plan.becomes.parts) (numbers_after plans) apart) kept.0,
  all_removed old new gone plans removed (all_after (IsApart gone) (note_numbers plan.becomes.parts) (numbers_after plans) apart) kept.1,
)

-- what is always true of streams is true of them without their covered entries
module _ (covers : Entry → Bool) (rows : List Row) (before : ChunksView) (plans : List PlanView) (seen after : ChunksView)
    (are : AreStreams rows before) (of : AreOf rows plans) (planned : ArePlanned covers before plans seen) (honest_same : seen.seen.honest ≡ before.seen.honest) (removed : AreRemoved seen (numbers_gone plans) after) where
  kept_before : AllByRecursion (λ plan. AreKept before plan.of) plans
  kept_before = of_rows (AreKept before) rows plans of are.kept

  all_distinct : IsDistinct nat_eq (numbers_after plans ++ numbers_gone plans)
  all_distinct =
      let old = numbers_before plans in
      IsDistinct-IsPermutation nat_eq nat_eq_equiv.symm (range_with_len before.next (seen.next - before.next) ++ old) (numbers_after plans ++ numbers_gone plans) (AreRenumbered-both old before.next seen.next (numbers_after plans) (numbers_gone plans) planned.numbers)
      (subst (λ ns. IsDistinct nat_eq (range_with_len before.next (seen.next - before.next) ++ ns)) (numbers_of_rows rows plans of) (row_apart before.next before.next (seen.next - before.next) (numbers_in rows) (omega arith) (all_below before rows are.kept) are.numbers))

  pub joined_left : before.seen.honest ≡ true → joined (rewritten rows plans) ≡ uncovered covers (joined rows)
  joined_left honest = joined_rewritten covers rows plans of (planned.right honest kept_before)

  -- each number that is removed is gone, and so what another has stays
  is_gone : (number : ℕ) → Contains (numbers_gone plans) number → IsGone rows (rewritten rows plans) number
  is_gone number there = (
    subst (λ ns. Contains ns number) (sym (numbers_of_rows rows plans of)) (Contains-permutation (planned.numbers.stay ++ numbers_gone plans) (numbers_before plans) number (IsPermutation-sym _ _ planned.numbers.before) (Contains-append_right planned.numbers.stay (numbers_gone plans) number there)),
    λ still.
        let after = subst (λ ns. Contains ns number) (numbers_rewritten rows plans of) still in
        let apart = All-contains (IsApart (numbers_gone plans)) (numbers_after plans) number (All-from_recursion (IsApart (numbers_gone plans)) (numbers_after plans) (all_apart (numbers_after plans) (numbers_gone plans) all_distinct)) after in
        true≢false (sym (list_any-from_Contains nat_eq_equiv number (numbers_gone plans) there) ∙ apart),
  )

  pub none_gone : (number : ℕ) → (IsGone rows (rewritten rows plans) number → ⊥) → IsApart (numbers_gone plans) number
  none_gone number stays = by (is_one_of (numbers_gone plans) number) refl
    where
      by : (b : Bool) → is_one_of (numbers_gone plans) number ≡ b → IsApart (numbers_gone plans) number
      by true there = absurd (stays (is_gone number (Contains-from_any eqb-true number (numbers_gone plans) there)))
      by false apart = apart

  -- and each number that is gone is removed
  pub is_removed : (number : ℕ) → IsGone rows (rewritten rows plans) number → is_one_of (numbers_gone plans) number ≡ true
  is_removed number lost = by (Contains-append_cases planned.numbers.stay (numbers_gone plans) number (Contains-permutation (numbers_before plans) (planned.numbers.stay ++ numbers_gone plans) number planned.numbers.before (subst (λ ns. Contains ns number) (numbers_of_rows rows plans of) lost.0)))
    where
      by : Contains planned.numbers.stay number ⊎ Contains (numbers_gone plans) number → is_one_of (numbers_gone plans) number ≡ true
      by (inl stays) =
          let range = range_with_len before.next (seen.next - before.next) in
          let there = Contains-permutation (planned.numbers.stay ++ range) (numbers_after plans) number (IsPermutation-sym _ _ planned.numbers.now) (Contains-append_left planned.numbers.stay range number stays) in
          absurd (lost.1 (subst (λ ns. Contains ns number) (sym (numbers_rewritten rows plans of)) there))
      by (inr there) = list_any-from_Contains nat_eq_equiv number (numbers_gone plans) there

  -- where the numbers come from that are left
  pub given_since : AreGiven (numbers_in rows) before.next seen.next (numbers_in (rewritten rows plans))
  given_since number there =
      let range = range_with_len before.next (seen.next - before.next) in
      let after = Contains-permutation (numbers_after plans) (planned.numbers.stay ++ range) number planned.numbers.now (subst (λ ns. Contains ns number) (numbers_rewritten rows plans of) there) in
      by (given_in planned.numbers.stay before.next seen.next planned.numbers.up number (Contains-permutation (planned.numbers.stay ++ range) (range ++ planned.numbers.stay) number (IsPermutation-append_comm planned.numbers.stay range) after))
    where
      by : Contains planned.numbers.stay number ⊎ ((before.next ≤ number) × (number < seen.next)) → Contains (numbers_in rows) number ⊎ ((before.next ≤ number) × (number < seen.next))
      by (inl stays) = inl (subst (λ ns. Contains ns number) (sym (numbers_of_rows rows plans of)) (Contains-permutation (planned.numbers.stay ++ numbers_gone plans) (numbers_before plans) number (IsPermutation-sym _ _ planned.numbers.before) (Contains-append_left planned.numbers.stay (numbers_gone plans) number stays)))
      by (inr new) = inr new

  pub streams_rewritten : AreStreams (rewritten rows plans) after
  streams_rewritten = record {
    own = own_rewritten rows plans of planned.sound are.own;
    apart = subst (IsDistinct label_set_eq) (sym (keys_rewritten rows plans of)) are.apart;
    kept = to_rows (AreKept after) rows plans of (all_removed seen after (numbers_gone plans) plans removed (all_apart (numbers_after plans) (numbers_gone plans) all_distinct) (planned.kept kept_before));
    numbers = subst (IsDistinct nat_eq) (sym (numbers_rewritten rows plans of)) (distinct_front (numbers_after plans) (numbers_gone plans) all_distinct);
    once = λ honest.
        let was : before.seen.honest ≡ true = sym honest_same ∙ sym removed.honest ∙ honest in
        subst (IsDistinct (eq_by_cmp entry_cmp)) (sym (joined_left was)) (distinct_left (eq_by_cmp entry_cmp) (λ entry. not (covers entry)) (joined rows) (are.once was));
  }

alone : (b : Bool) → (b || false) ≡ b
alone true = refl
alone false = refl

-- one number, removed or refused
pub one_removed : (old new : ChunksView) (number : ℕ) (result : Result (Unit {0}) StoreFault) → OnOk result (new.seen.blobs ≡ finite.remove old.seen.blobs number) → OnErr result (LeavesOthers number old.seen.blobs new.seen.blobs) → KeepsReads old.seen new.seen → IfErr result (λ fault. fault ≡ stores.Fault)
    → new.seen.faults ≡ faults_after result old.seen.faults → new.next ≡ old.next → AreRemoved old (number ∷ []) new
one_removed old new number (Ok _) ok err keeps device counted next = record {
  next = next;
  honest = keeps.honest;
  faults = omega (arith, counted);
  refused = [];
  counted = counted;
  gone = λ other there kept. after other ∙ ap (λ b. cond b None (finite.get old.seen.blobs other)) (sym (alone (nat_eq other number)) ∙ there);
  others = λ other apart. after other ∙ ap (λ b. cond b None (finite.get old.seen.blobs other)) (sym (alone (nat_eq other number)) ∙ apart);
}
  where
    after : (other : ℕ) → finite.get new.seen.blobs other ≡ cond (nat_eq other number) None (finite.get old.seen.blobs other)
    after other = ap (λ blobs. finite.get blobs other) ok ∙ finite.get-remove nat_cmp_total old.seen.blobs number other ∙ ap (λ b. cond b None (finite.get old.seen.blobs other)) (unsigned_tied other number)
one_removed old new number (Err stores.Fault) ok err keeps device counted next = record {
  next = next;
  honest = keeps.honest;
  faults = subst (FaultsRise old.seen.faults) (sym counted) (with_fault-rises old.seen.faults);
  refused = number ∷ [];
  counted = counted;
  gone = λ other there kept. absurd (true≢false (sym there ∙ kept));
  others = λ other apart. err other (λ e. true≢false (sym (eq-eqb other number e) ∙ sym (alone (nat_eq other number)) ∙ apart));
}
one_removed old new number (Err stores.Memory) ok err keeps device counted next = cc

-- one number more
pub removed_more : (numbers : List ℕ) (i : ℕ) (number : ℕ) (start seen after : ChunksView) → i < length numbers → number ≡ get_or numbers i number → AreRemoved start (take i numbers) seen → AreRemoved seen (number ∷ []) after → AreRemoved start (take (i + 1) numbers) after
removed_more numbers i number start seen after within is before one =
    subst (λ ns. AreRemoved start ns after) (sym (take_next numbers i number within is)) (removed_then start (take i numbers) seen (number ∷ []) after before one)
