-- What a gather makes of a world.
use Rattle.std.proofs.Common.{◌≡◌, ◌+◌, inl, inr, ℕ, ◌≤◌, true, false, cond, List, map, length, Option, None, Some, Result, Ok, Err, OnOk, OnErr, option_map, slice_get, slice_set, refl, sym, ap, subst, ◌∙◌}
use Rattle.std.specs.List.{AllByRecursion}
use Rattle.std.proofs.lemmas.List.{map-set, length-set}
use Rattle.rl_aggregate.specs.declared.partial.Partial.{Partial}
use Rattle.rl_query.specs.declared.query.Term.{Term}
use Rattle.rl_chunks.specs.StoreState.{greatest}
use Rattle.rl_parts.specs.StoreUse.{Grown}
use Rattle.rl_shard.specs.ShardFault.{Gives, MayCome, Stored}
use Rattle.rl_shard.specs.ShardState.{ShardView, journalled, visible}
use Rattle.rl_shard.specs.ShardStep.{recorded, is_journal_full}
use Rattle.rl_records.specs.declared.step.ShardReply.TheVariants as shard_replies
use Rattle.rl_records.specs.declared.step.ShardStep.{ShardStep}
use Rattle.rl_records.specs.declared.step.ShardStep.TheVariants as shard_steps
use Rattle.rl_shard.specs.declared.step.ShardFault.{ShardFault}
use Rattle.rl_shard.specs.declared.step.ShardFault.TheVariants as shard_faults
use Rattle.rl_world.specs.BookCalls.{with_history}
use Rattle.rl_world.specs.Evaluating.{group_terms}
use Rattle.rl_world.specs.Kept.{partials_of}
use Rattle.rl_world.specs.History.{gather_fault, gathered}
use Rattle.rl_world.specs.ShardsTurn.{Decides, Faults, IsAskable, ShardsTurn, collect_for}
use Rattle.rl_world.specs.WorldState.{BookState, IsBookOf, seen_as, world_of}
use Rattle.rl_world.specs.WorldStep.{WorldStep, IsRefused, MayRefuse, partials, known, or_else, journal_refusal, refusal_of, refusal_of_shard}
use Rattle.rl_world.specs.declared.fault.BookFault.{BookFault}
use Rattle.rl_world.specs.declared.fault.Refusal.{Refusal}
use Rattle.rl_world.specs.declared.fault.Refusal.TheVariants as refusals
use Rattle.rl_world.specs.declared.opened.OpenEvaluation.{OpenEvaluation}
use Rattle.rl_world.specs.declared.step.Step.TheVariants as steps
use Rattle.rl_world.specs.declared.step.Reply.TheVariants as replies
use Rattle.rl_world.proofs.Turning.{each_set, history_at, shard_at, shard_kept}

-- the evaluation that is open, by its moment
record OpenAt {X : Type 0} (maybe : Option (OpenEvaluation X)) (t : ℕ) : Type 0 where
  pub opened : OpenEvaluation X
  pub is : maybe ≡ Some opened
  pub moment : opened.t ≡ t

some_is : {X : Type 0} (a b : X) → Some a ≡ Some b → a ≡ b
some_is a b h = cc

none_some : {X : Type 0} (x : X) → None ≡ Some x → ⊥
none_some x h = cc

open_at : {X : Type 0} (maybe : Option (OpenEvaluation X)) (t : ℕ) → option_map (λ (o : OpenEvaluation X). o.t) maybe ≡ Some t → OpenAt maybe t
open_at None t h = absurd (none_some t h)
open_at (Some opened) t h = record { opened = opened; is = refl; moment = some_is opened.t t h }

-- what was read at one index twice is one
pub same_read : {X : Type 0} (xs : List X) (k : ℕ) (x y : X) → slice_get xs k ≡ Some x → slice_get xs k ≡ Some y → x ≡ y
same_read xs k x y first second = some_is x y (sym first ∙ second)

-- a book that was handed partials, or refused them, is still one of its world
pub fits_put : (n : ℕ) (result : Result (Unit {0}) BookFault) (book after : BookState) (number place : ℕ) (shown : List Partial) → IsBookOf n book
    → OnOk result (after ≡ with_history book (gathered book.history number place shown)) → OnErr result (after ≡ book) → IsBookOf n after
fits_put n (Ok x) book after number place shown fits ok err = subst (IsBookOf n) (sym ok) fits
fits_put n (Err e) book after number place shown fits ok err = subst (IsBookOf n) (sym err) fits

-- the books of a world whose shard and book changed
pub fits_both : (shards : List ShardView) (books : List BookState) (number : ℕ) (shard : ShardView) (group : ℕ) (after : BookState) → AllByRecursion (IsBookOf (length shards)) books → IsBookOf (length shards) after
    → AllByRecursion (IsBookOf (length (slice_set shards number shard))) (slice_set books group after)
fits_both shards books number shard group after all here =
    subst (λ n. AllByRecursion (IsBookOf n) (slice_set books group after)) (sym (length-set shards number shard)) (each_set (IsBookOf (length shards)) books group after all here)

module _ (shards : List ShardView) (books : List BookState) (group number : ℕ) (book : BookState) (shard : ShardView) (there : slice_get books group ≡ Some book) (shard_there : slice_get shards number ≡ Some shard) where
  gather_refusal : refusal_of (world_of shards books) (steps.Gather group number) ≡ or_else (option_map refusals.Book (gather_fault book.history number)) (journal_refusal (journalled shard))
  gather_refusal =
      ap (λ h. known h (λ history. known (slice_get (map journalled shards) number) (λ s. or_else (option_map refusals.Book (gather_fault history number)) (journal_refusal s)))) (history_at shards books group book there)
      ∙ ap (λ s. known s (λ s. or_else (option_map refusals.Book (gather_fault book.history number)) (journal_refusal s))) (shard_at shards books number shard shard_there)

  asked_free : gather_fault book.history number ≡ None → refusal_of (world_of shards books) (steps.Gather group number) ≡ journal_refusal (journalled shard)
  asked_free free = gather_refusal ∙ ap (λ f. or_else (option_map refusals.Book f) (journal_refusal (journalled shard))) free

  -- its journal is full, or not
  pub gather_full : gather_fault book.history number ≡ None → is_journal_full (journalled shard) ≡ true → refusal_of (world_of shards books) (steps.Gather group number) ≡ Some refusals.JournalFull
  gather_full free full = asked_free free ∙ ap (λ b. cond b (Some refusals.JournalFull) None) full

  pub gather_free : gather_fault book.history number ≡ None → is_journal_full (journalled shard) ≡ false → refusal_of (world_of shards books) (steps.Gather group number) ≡ None
  gather_free free room = asked_free free ∙ ap (λ b. cond b (Some refusals.JournalFull) None) room

  -- the shard refused
  pub gather_refused : (after : ShardView) (slot t : ℕ) (terms : List Term) (fault : ShardFault) (refusal : Refusal) → gather_fault book.history number ≡ None → is_journal_full (journalled shard) ≡ false → MayCome shard (shard_steps.Collect slot terms t) fault after
      → journalled after ≡ journalled shard → refusal ≡ refusal_of_shard fault → IsRefused (world_of shards books) (steps.Gather group number) refusal (world_of (slice_set shards number after) books)
  gather_refused after slot t terms fault refusal free room came kept refusal_is = (
    subst (λ r. MayRefuse (world_of shards books) (steps.Gather group number) r) (sym refusal_is) (may fault came),
    shard_kept shards books number shard after shard_there kept,
  )
    where
      may : (fault : ShardFault) → MayCome shard (shard_steps.Collect slot terms t) fault after → MayRefuse (world_of shards books) (steps.Gather group number) (refusal_of_shard fault)
      may shard_faults.JournalFull came = inl (gather_full free (came.full refl))
      may shard_faults.Fault came = inr (gather_free free room, refl)
      may shard_faults.Damaged came = inr (gather_free free room, refl)
      may shard_faults.NumbersSpent came = inr (gather_free free room, refl)
      may shard_faults.Memory came = inr (gather_free free room, refl)

  -- the group has an open evaluation, and no refusal keeps the shard from being asked
  abbrev askable : (t : ℕ) → gather_fault book.history number ≡ None → is_journal_full (journalled shard) ≡ false → (here : OpenAt book.history.opened t) → IsAskable (seen_as shards books) group number
  askable t free room here = record { free = gather_free free room; book = book; there = there; opened = here.opened; open_is = here.is }

  -- what holds of the terms and the moment that were asked about holds of the group's and the evaluation's
  for_group : (P : ShardStep → Type 0) (t : ℕ) (terms : List Term) (here : OpenAt book.history.opened t) → terms ≡ group_terms book.history.group → P (shard_steps.Collect group terms t) → P (collect_for group book here.opened)
  for_group P t terms here terms_is holds = subst (λ (n : ℕ). P (shard_steps.Collect group (group_terms book.history.group) n)) (sym here.moment) (subst (λ (ts : List Term). P (shard_steps.Collect group ts t)) terms_is holds)

  -- the shard decided, and the book keeps what it answered
  pub stores_gathered : (after_shard : ShardView) (after : BookState) (t place : ℕ) (terms : List Term) (shown : List Partial) → gather_fault book.history number ≡ None → is_journal_full (journalled shard) ≡ false → option_map (λ (o : OpenEvaluation (List Partial)). o.t) book.history.opened ≡ Some t
      → terms ≡ group_terms book.history.group → Stored shard.streams after_shard.streams → after_shard.streams.next ≤ greatest → Decides place (shard_steps.Collect group terms t) (shard_replies.Collected shown) shard after_shard → after ≡ with_history book (gathered book.history number place shown)
      → ShardsTurn (seen_as shards books) (steps.Gather group number) (replies.Gathered place) (seen_as (slice_set shards number after_shard) (slice_set books group after))
  stores_gathered after_shard after t place terms shown free room moment terms_is stored numbers decides after_is =
      let here = open_at book.history.opened t moment in
      record {
        asked = askable t free room here;
        partials = shown;
        decided = record {
          before = shard;
          there = shard_there;
          after = after_shard;
          now = refl;
          stored = stored;
          numbers = numbers;
          as_said = for_group (λ step. Decides place step (shard_replies.Collected shown) shard after_shard) t terms here terms_is decides;
        };
        kept = ap (slice_set books group) after_is;
      }

  -- it met a fault
  pub stores_not_gathered : (after : ShardView) (t : ℕ) (terms : List Term) (fault : ShardFault) (refusal : Refusal) → gather_fault book.history number ≡ None → is_journal_full (journalled shard) ≡ false → option_map (λ (o : OpenEvaluation (List Partial)). o.t) book.history.opened ≡ Some t
      → terms ≡ group_terms book.history.group → Stored shard.streams after.streams → after.streams.next ≤ greatest → MayCome shard (shard_steps.Collect group terms t) fault after → Grown shard.streams.seen shard.streams.next (after.streams.next + 1) after.streams.seen → Gives (shard_steps.Collect group terms t) shard.streams after.streams
      → journalled after ≡ journalled shard → refusal ≡ refusal_of_shard fault → ShardsTurn (seen_as shards books) (steps.Gather group number) (replies.Refused refusal) (seen_as (slice_set shards number after) books)
  stores_not_gathered after t terms fault refusal free room moment terms_is stored numbers came grown gives kept reported =
      let here = open_at book.history.opened t moment in
      inr (record {
        asked = askable t free room here;
        met = record {
          before = shard;
          there = shard_there;
          after = after;
          now = refl;
          stored = stored;
          numbers = numbers;
          as_said = for_group (λ step. Faults step refusal shard after) t terms here terms_is (record { kept = kept; fault = fault; reported = reported; cause = came; grown = grown; gives = gives });
        };
        stay = refl;
      })

  -- the shard showed what it has, and the book keeps the partials
  pub gather_turn : (after_shard : ShardView) (after : BookState) (slot t place : ℕ) (terms : List Term) (shown : List Partial) → gather_fault book.history number ≡ None → option_map (λ (o : OpenEvaluation (List Partial)). o.t) book.history.opened ≡ Some t → terms ≡ group_terms book.history.group
      → is_journal_full (journalled shard) ≡ false → place ≡ (journalled shard).records → shown ≡ partials_of (visible (journalled shard).state) terms t
      → journalled after_shard ≡ recorded (journalled shard) (shard_steps.Collect slot terms t) → after ≡ with_history book (gathered book.history number place shown)
      → WorldStep partials (world_of shards books) (steps.Gather group number) (replies.Gathered place) (world_of (slice_set shards number after_shard) (slice_set books group after))
  gather_turn after_shard after slot t place terms shown free moment terms_is room place_is shown_is after_shard_is after_is =
      let here = open_at book.history.opened t moment in (
        gather_free free room,
        record {
          history = book.history;
          there = history_at shards books group book there;
          opened = here.opened;
          open_is = here.is;
          shard = journalled shard;
          shard_there = shard_at shards books number shard shard_there;
          place_is = place_is;
          after = λ i. record {
            shards = (map-set journalled shards number after_shard ∙ ap (slice_set (map journalled shards) number) after_shard_is) i;
            histories = (map-set (λ (b : BookState). b.history) books group after
                ∙ ap (slice_set (map (λ (b : BookState). b.history) books) group)
                (ap (λ (b : BookState). b.history) after_is
                ∙ ap (gathered book.history number place) (shown_is ∙ (λ j. partials_of (visible (journalled shard).state) (terms_is j) (sym here.moment j))))) i;
          };
        },
      )
