-- What each turn makes of a world, by what the calls of its shards and books promise.
use Rattle.std.proofs.Common.{◌≡◌, ◌⊎◌, inl, inr, ℕ, zero, suc, ◌+◌, ◌≤◌, [], ◌∷◌, Bool, true, false, cond, List, map, length, Option, None, Some, Result, Ok, Err, option_map, slice_get, slice_set, refl, sym, ap, subst, ◌∙◌}
use Rattle.std.specs.List.{AllByRecursion}
use Rattle.std.proofs.lemmas.List.{length-map, map-set, set-get_or}
use Rattle.std.proofs.lemmas.Bool.{true≢false}
use Rattle.std.proofs.lemmas.Option.{slice_get-map, get_or_from_slice_get}
use Rattle.std.proofs.Math.Seq.{map-set_same}
use Rattle.rl_labels.specs.Name.{is_text}
use Rattle.rl_rules.specs.declared.rule.Group.{Group}
use Rattle.rl_chunks.specs.StoreState.{greatest}
use Rattle.rl_parts.specs.StoreUse.{Grown}
use Rattle.rl_shard.specs.Collecting.{AreRead}
use Rattle.rl_shard.specs.Pushing.{Pushes}
use Rattle.rl_shard.specs.ShardFault.{Gives, IsDone, MayCome, Stored}
use Rattle.rl_shard.specs.ShardState.{ShardView, journalled}
use Rattle.rl_shard.specs.ShardStep.{recorded, is_journal_full, IsAnswered, IsReply}
use Rattle.rl_records.specs.declared.step.ShardStep.{ShardStep}
use Rattle.rl_records.specs.declared.step.ShardReply.{ShardReply}
use Rattle.rl_shard.specs.declared.step.ShardFault.{ShardFault}
use Rattle.rl_shard.specs.declared.step.ShardFault.TheVariants as shard_faults
use Rattle.rl_world.specs.BookCalls.{Answers, Refuses, with_history}
use Rattle.rl_world.specs.History.{begin_fault, commit_fault, abandon_fault, edit_fault, begun, abandoned, edited}
use Rattle.rl_world.specs.ShardsTurn.{ShardsTurn}
use Rattle.rl_world.specs.WorldRun.{offers}
use Rattle.rl_world.specs.WorldState.{BookState, world_of, seen_as}
use Rattle.rl_world.specs.WorldStep.{WorldStep, IsRefused, MayRefuse, may_fail, partials, known, edit_refusal, journal_refusal, refusal_of, may_want, refusal_of_shard, refusal_of_book}
use Rattle.rl_world.specs.declared.fault.BookFault.{BookFault}
use Rattle.rl_plain.specs.declared.refusal.OrMemory.{OrMemory}
use Rattle.rl_plain.specs.declared.refusal.OrMemory.TheVariants as errors
use Rattle.rl_world.specs.declared.fault.Refusal.{Refusal}
use Rattle.rl_world.specs.declared.fault.Refusal.TheVariants as refusals
use Rattle.rl_world.specs.declared.step.Step.{Step}
use Rattle.rl_world.specs.declared.step.Step.TheVariants as steps
use Rattle.rl_world.specs.declared.step.Reply.TheVariants as replies

ok_apart : {A E : Type 0} (x : A) (e : E) → Ok x ≡ Err e → ⊥
ok_apart x e h = cc

pub not_true : (b : Bool) → (b ≡ true → ⊥) → b ≡ false
not_true true h = absurd (h refl)
not_true false h = refl

-- what an item is put back as it was
pub set_same : {X : Type 0} (xs : List X) (k : ℕ) (x : X) → slice_get xs k ≡ Some x → slice_set xs k x ≡ xs
set_same xs k x there = ap (slice_set xs k) (sym (get_or_from_slice_get xs k x x there)) ∙ set-get_or xs k x

-- what holds of each holds of the one at an index
pub each_at : {X : Type 0} (P : X → Type 0) (xs : List X) (k : ℕ) (x : X) → AllByRecursion P xs → slice_get xs k ≡ Some x → P x
each_at P [] k x all there = absurd (none_some x there)
  where
    none_some : {X : Type 0} (x : X) → None ≡ Some x → ⊥
    none_some x h = cc
each_at P (y ∷ xs) zero x all there = subst P (some_is y x there) all.0
  where
    some_is : {X : Type 0} (a b : X) → Some a ≡ Some b → a ≡ b
    some_is a b h = cc
each_at P (y ∷ xs) (suc k) x all there = each_at P xs k x all.1 there

-- and of each, where one is replaced by another of which it holds
pub each_set : {X : Type 0} (P : X → Type 0) (xs : List X) (k : ℕ) (x : X) → AllByRecursion P xs → P x → AllByRecursion P (slice_set xs k x)
each_set P [] k x all here = all
each_set P (y ∷ xs) zero x all here = (here, all.1)
each_set P (y ∷ xs) (suc k) x all here = (all.0, each_set P xs k x all.1 here)

-- two errors that are one have one cause
pub err_is : {A E : Type 0} (e f : E) → ◌≡◌ {A = Result A E} (Err e) (Err f) → e ≡ f
err_is e f h = cc

-- what a call of a book that took memory was refused for
answered_err : (A : Type 0) (fault : Option BookFault) (error : OrMemory BookFault) → Answers {A = A} fault (Err error) → (option_map refusals.Book fault ≡ Some (refusal_of_book error)) ⊎ ((refusal_of_book error ≡ refusals.Memory) × (fault ≡ None))
answered_err A (Some f) error h = inl (ap (λ e. Some (refusal_of_book e)) (sym (err_is error (errors.Fault f) h)))
answered_err A None error h = inr (ap refusal_of_book h, refl)

pub answered_ok : {A : Type 0} (fault : Option BookFault) (x : A) → Answers fault (Ok x) → fault ≡ None
answered_ok (Some f) x h = absurd (ok_apart x (errors.Fault f) h)
answered_ok None x h = refl

pub refused_err : (A : Type 0) (fault : Option BookFault) (f : BookFault) → Refuses {A = A} fault (Err f) → fault ≡ Some f
refused_err A (Some g) f h = ap (λ x. Some x) (sym (err_is f g h))
refused_err A None f h = absurd h

pub refused_ok : {A : Type 0} (fault : Option BookFault) (x : A) → Refuses fault (Ok x) → fault ≡ None
refused_ok (Some f) x h = absurd (ok_apart x f h)
refused_ok None x h = refl

-- a shard decided a step, or met a fault
pub stores_decided : (shards : List ShardView) (books : List BookState) (number place : ℕ) (step : ShardStep) (reply : ShardReply) (shard after : ShardView) → slice_get shards number ≡ Some shard → Stored shard.streams after.streams → after.streams.next ≤ greatest
    → place ≡ (journalled shard).records → (journalled after).limits ≡ (journalled shard).limits → (journalled after).records ≡ (journalled shard).records + 1 → IsAnswered (journalled shard).limits (journalled shard).state step reply (journalled after).state
    → IsDone (journalled shard).limits (journalled shard).state step shard.streams after.streams → AreRead shard.streams shard.requests shard.slots step reply → Gives step shard.streams after.streams → Pushes shard.streams shard.horizon step (Ok reply) after.streams
    → ShardsTurn (seen_as shards books) (steps.Shard number step) (replies.Decided place reply) (seen_as (slice_set shards number after) books)
stores_decided shards books number place step reply shard after there stored numbers place_is limits records answered done read gives pushed = (
  record {
    before = shard;
    there = there;
    after = after;
    now = refl;
    stored = stored;
    numbers = numbers;
    as_said = record { place_is = place_is; limits = limits; records = records; answered = answered; done = done; read = read; gives = gives; pushed = pushed };
  },
  refl,
)

pub stores_faulted : (shards : List ShardView) (books : List BookState) (number : ℕ) (step : ShardStep) (shard after : ShardView) (fault : ShardFault) (refusal : Refusal) → slice_get shards number ≡ Some shard → Stored shard.streams after.streams → after.streams.next ≤ greatest
    → MayCome shard step fault after → Grown shard.streams.seen shard.streams.next (after.streams.next + 1) after.streams.seen → Gives step shard.streams after.streams → journalled after ≡ journalled shard → refusal ≡ refusal_of_shard fault → ShardsTurn (seen_as shards books) (steps.Shard number step) (replies.Refused refusal) (seen_as (slice_set shards number after) books)
stores_faulted shards books number step shard after fault refusal there stored numbers came grown gives kept reported = inr (
  record {
    before = shard;
    there = there;
    after = after;
    now = refl;
    stored = stored;
    numbers = numbers;
    as_said = record { kept = kept; fault = fault; reported = reported; cause = came; grown = grown; gives = gives };
  },
  refl,
)

-- of the faults of a shard one is its journal's
abbrev is_for_journal : ShardFault → Bool
is_for_journal shard_faults.JournalFull = true
is_for_journal other = false

module _ (shards : List ShardView) (books : List BookState) where
  -- the history of the book at a number
  pub history_at : (group : ℕ) (book : BookState) → slice_get books group ≡ Some book → slice_get (map (λ (b : BookState). b.history) books) group ≡ Some book.history
  history_at group book there = slice_get-map (λ (b : BookState). b.history) books group ∙ ap (option_map (λ (b : BookState). b.history)) there

  -- what is promised of the shard at a number
  pub shard_at : (number : ℕ) (shard : ShardView) → slice_get shards number ≡ Some shard → slice_get (map journalled shards) number ≡ Some (journalled shard)
  shard_at number shard there = slice_get-map journalled shards number ∙ ap (option_map journalled) there

  -- the world with one history replaced
  pub world_with : (group : ℕ) (after : BookState) → world_of shards (slice_set books group after) ≡ record { shards = map journalled shards; histories = slice_set (map (λ (b : BookState). b.history) books) group after.history }
  world_with group after = λ i. record { shards = map journalled shards; histories = map-set (λ (b : BookState). b.history) books group after i }

  -- the world with one shard replaced
  pub world_with_shard : (number : ℕ) (after : ShardView) → world_of (slice_set shards number after) books ≡ record { shards = slice_set (map journalled shards) number (journalled after); histories = map (λ (b : BookState). b.history) books }
  world_with_shard number after = λ i. record { shards = map-set journalled shards number after i; histories = map (λ (b : BookState). b.history) books }

  -- a shard with the promises that it had before
  pub shard_kept : (number : ℕ) (shard after : ShardView) → slice_get shards number ≡ Some shard → journalled after ≡ journalled shard → world_of (slice_set shards number after) books ≡ world_of shards books
  shard_kept number shard after there kept =
      world_with_shard number after
      ∙ (λ i. record { shards = (ap (slice_set (map journalled shards) number) kept ∙ set_same (map journalled shards) number (journalled shard) (shard_at number shard there)) i; histories = map (λ (b : BookState). b.history) books })

  pub shard_decided : (number : ℕ) (step : ShardStep) (shard after : ShardView) (place : ℕ) (reply : ShardReply) → slice_get shards number ≡ Some shard
      → (is_journal_full (journalled shard) ≡ true → ◌≡◌ {A = Result (ℕ × ShardReply) ShardFault} (Ok (place, reply)) (Err shard_faults.JournalFull)) → place ≡ (journalled shard).records → IsReply (journalled shard).limits (journalled shard).state step reply → journalled after ≡ recorded (journalled shard) step
      → WorldStep partials (world_of shards books) (steps.Shard number step) (replies.Decided place reply) (world_of (slice_set shards number after) books)
  shard_decided number step shard after place reply there full place_is reply_is after_is = (
    ap (λ s. known s journal_refusal) (shard_at number shard there) ∙ ap (λ b. cond b (Some refusals.JournalFull) None) (not_true (is_journal_full (journalled shard)) (λ h. ok_apart (place, reply) shard_faults.JournalFull (full h))),
    record {
      shard = journalled shard;
      there = shard_at number shard there;
      place_is = place_is;
      reply_is = reply_is;
      after = world_with_shard number after ∙ (λ i. record { shards = slice_set (map journalled shards) number (after_is i); histories = map (λ (b : BookState). b.history) books });
    },
  )

  pub shard_refused : (number : ℕ) (step : ShardStep) (shard after : ShardView) (fault : ShardFault) (refusal : Refusal) → slice_get shards number ≡ Some shard
      → MayCome shard step fault after → (is_journal_full (journalled shard) ≡ true → fault ≡ shard_faults.JournalFull) → journalled after ≡ journalled shard → refusal ≡ refusal_of_shard fault
      → IsRefused (world_of shards books) (steps.Shard number step) refusal (world_of (slice_set shards number after) books)
  shard_refused number step shard after fault refusal there came first kept refusal_is = (
    subst (λ r. MayRefuse (world_of shards books) (steps.Shard number step) r) (sym refusal_is) (may fault came first),
    shard_kept number shard after there kept,
  )
    where
      free : (met : ShardFault) → is_for_journal met ≡ false → (is_journal_full (journalled shard) ≡ true → met ≡ shard_faults.JournalFull) → refusal_of (world_of shards books) (steps.Shard number step) ≡ None
      free met other first =
          ap (λ s. known s journal_refusal) (shard_at number shard there)
          ∙ ap (λ b. cond b (Some refusals.JournalFull) None) (not_true (is_journal_full (journalled shard)) (λ full. true≢false (sym (ap is_for_journal (first full)) ∙ other)))

      may : (fault : ShardFault) → MayCome shard step fault after → (is_journal_full (journalled shard) ≡ true → fault ≡ shard_faults.JournalFull) → MayRefuse (world_of shards books) (steps.Shard number step) (refusal_of_shard fault)
      may shard_faults.JournalFull came first = inl (ap (λ s. known s journal_refusal) (shard_at number shard there) ∙ ap (λ b. cond b (Some refusals.JournalFull) None) (came.full refl))
      may shard_faults.Fault came first = inr (free shard_faults.Fault refl first, refl)
      may shard_faults.Damaged came first = inr (free shard_faults.Damaged refl first, refl)
      may shard_faults.NumbersSpent came first = inr (free shard_faults.NumbersSpent refl first, refl)
      may shard_faults.Memory came first = inr (free shard_faults.Memory refl first, refl)

  -- a book that a call left as it was
  pub book_kept : (group : ℕ) (book after : BookState) → slice_get books group ≡ Some book → after ≡ book → world_of shards (slice_set books group after) ≡ world_of shards books
  book_kept group book after there after_is = ap (world_of shards) (ap (slice_set books group) after_is ∙ set_same books group book there)

  -- a call of a book that takes memory was refused
  pub book_refused : (A : Type 0) (group : ℕ) (step : Step) (fault : Option BookFault) (error : OrMemory BookFault) (refusal : Refusal) (book after : BookState) → slice_get books group ≡ Some book
      → refusal_of (world_of shards books) step ≡ option_map refusals.Book fault → may_want step ≡ true → Answers {A = A} fault (Err error) → refusal ≡ refusal_of_book error → after ≡ book
      → WorldStep partials (world_of shards books) step (replies.Refused refusal) (world_of shards (slice_set books group after))
  book_refused A group step fault error refusal book after there first takes answer refusal_is after_is = (
    subst (λ r. MayRefuse (world_of shards books) step r) (sym refusal_is) (may (answered_err A fault error answer)),
    book_kept group book after there after_is,
  )
    where
      may : (option_map refusals.Book fault ≡ Some (refusal_of_book error)) ⊎ ((refusal_of_book error ≡ refusals.Memory) × (fault ≡ None)) → MayRefuse (world_of shards books) step (refusal_of_book error)
      may (inl is) = inl (first ∙ is)
      may (inr memory) = inr (first ∙ ap (option_map refusals.Book) memory.1, ap (may_fail step) memory.0 ∙ takes)

  begin_refusal : (group t : ℕ) (book : BookState) → slice_get books group ≡ Some book → refusal_of (world_of shards books) (steps.Begin group t) ≡ option_map refusals.Book (begin_fault book.history t)
  begin_refusal group t book there = ap (λ h. known h (λ history. option_map refusals.Book (begin_fault history t))) (history_at group book there)

  pub commit_refusal : (group : ℕ) (book : BookState) → slice_get books group ≡ Some book → refusal_of (world_of shards books) (steps.Commit group) ≡ option_map refusals.Book (commit_fault book.history)
  commit_refusal group book there = ap (λ h. known h (λ history. option_map refusals.Book (commit_fault history))) (history_at group book there)

  abandon_refusal : (group : ℕ) (book : BookState) → slice_get books group ≡ Some book → refusal_of (world_of shards books) (steps.Abandon group) ≡ option_map refusals.Book (abandon_fault book.history)
  abandon_refusal group book there = ap (λ h. known h (λ history. option_map refusals.Book (abandon_fault history))) (history_at group book there)

  pub begin_turn : (group t : ℕ) (book after : BookState) → slice_get books group ≡ Some book → book.shards ≡ length shards
      → Answers (begin_fault book.history t) (Ok (tt {0})) → after ≡ with_history book (begun book.shards book.history t)
      → WorldStep partials (world_of shards books) (steps.Begin group t) replies.Begun (world_of shards (slice_set books group after))
  begin_turn group t book after there many answer after_is = (
    begin_refusal group t book there ∙ ap (option_map refusals.Book) (answered_ok (begin_fault book.history t) tt answer),
    record {
      history = book.history;
      there = history_at group book there;
      after = world_with group after ∙ (λ i. record { shards = map journalled shards; histories = slice_set (map (λ (b : BookState). b.history) books) group (now i) });
    },
  )
    where
      now : after.history ≡ begun (length (map journalled shards)) book.history t
      now = ap (λ (b : BookState). b.history) after_is ∙ ap (λ n. begun n book.history t) (many ∙ sym (length-map shards journalled))

  pub begin_refused : (group t : ℕ) (book after : BookState) (error : OrMemory BookFault) (refusal : Refusal) → slice_get books group ≡ Some book
      → Answers {A = Unit {0}} (begin_fault book.history t) (Err error) → refusal ≡ refusal_of_book error → after ≡ book
      → WorldStep partials (world_of shards books) (steps.Begin group t) (replies.Refused refusal) (world_of shards (slice_set books group after))
  begin_refused group t book after error refusal there answer refusal_is after_is = book_refused (Unit {0}) group (steps.Begin group t) (begin_fault book.history t) error refusal book after there (begin_refusal group t book there) refl answer refusal_is after_is

  edit_answered : (group : ℕ) (to : Group) (book : BookState) → slice_get books group ≡ Some book → refusal_of (world_of shards books) (steps.Edit group to) ≡ edit_refusal to book.history
  edit_answered group to book there = ap (λ h. known h (edit_refusal to)) (history_at group book there)

  edit_named : (group : ℕ) (to : Group) (book : BookState) → slice_get books group ≡ Some book → is_text to.name book.history.group.name ≡ true → refusal_of (world_of shards books) (steps.Edit group to) ≡ option_map refusals.Book (edit_fault book.history)
  edit_named group to book there named = edit_answered group to book there ∙ ap (λ b. cond b (option_map refusals.Book (edit_fault book.history)) (Some refusals.NoSuch)) named

  pub edit_turn : (group place : ℕ) (to : Group) (book after : BookState) → slice_get books group ≡ Some book → is_text to.name book.history.group.name ≡ true
      → Answers (edit_fault book.history) (Ok place) → place ≡ length book.history.items → after ≡ with_history book (edited book.history to)
      → WorldStep partials (world_of shards books) (steps.Edit group to) (replies.Edited place) (world_of shards (slice_set books group after))
  edit_turn group place to book after there named answer place_is after_is = (
    edit_named group to book there named ∙ ap (option_map refusals.Book) (answered_ok (edit_fault book.history) place answer),
    record {
      history = book.history;
      there = history_at group book there;
      place_is = place_is;
      after = world_with group after ∙ (λ i. record { shards = map journalled shards; histories = slice_set (map (λ (b : BookState). b.history) books) group (after_is i).history });
    },
  )

  pub edit_refused : (group : ℕ) (to : Group) (book after : BookState) (error : OrMemory BookFault) (refusal : Refusal) → slice_get books group ≡ Some book → is_text to.name book.history.group.name ≡ true
      → Answers {A = ℕ} (edit_fault book.history) (Err error) → refusal ≡ refusal_of_book error → after ≡ book
      → WorldStep partials (world_of shards books) (steps.Edit group to) (replies.Refused refusal) (world_of shards (slice_set books group after))
  edit_refused group to book after error refusal there named answer refusal_is after_is = book_refused ℕ group (steps.Edit group to) (edit_fault book.history) error refusal book after there (edit_named group to book there named) refl answer refusal_is after_is

  pub abandon_turn : (group : ℕ) (book after : BookState) → slice_get books group ≡ Some book → Refuses (abandon_fault book.history) (Ok (tt {0})) → after ≡ with_history book (abandoned book.history)
      → WorldStep partials (world_of shards books) (steps.Abandon group) replies.Abandoned (world_of shards (slice_set books group after))
  abandon_turn group book after there answer after_is = (
    abandon_refusal group book there ∙ ap (option_map refusals.Book) (refused_ok (abandon_fault book.history) tt answer),
    record {
      history = book.history;
      there = history_at group book there;
      after = world_with group after ∙ (λ i. record { shards = map journalled shards; histories = slice_set (map (λ (b : BookState). b.history) books) group (after_is i).history });
    },
  )

  pub abandon_refused : (group : ℕ) (book after : BookState) (fault : BookFault) → slice_get books group ≡ Some book → Refuses {A = Unit {0}} (abandon_fault book.history) (Err fault) → after ≡ book
      → WorldStep partials (world_of shards books) (steps.Abandon group) (replies.Refused (refusals.Book fault)) (world_of shards (slice_set books group after))
  abandon_refused group book after fault there answer after_is = (
    inl (abandon_refusal group book there ∙ ap (option_map refusals.Book) (refused_err (Unit {0}) (abandon_fault book.history) fault answer)),
    book_kept group book after there after_is,
  )

  catch_up_refusal : (group : ℕ) (book : BookState) → slice_get books group ≡ Some book → refusal_of (world_of shards books) (steps.CatchUp group) ≡ None
  catch_up_refusal group book there = ap (λ h. known h (λ history. None)) (history_at group book there)

  pub catch_up_turn : (group : ℕ) (behind : List ℕ) (book after : BookState) → slice_get books group ≡ Some book → after.history ≡ book.history
      → WorldStep partials (world_of shards books) (steps.CatchUp group) (replies.CaughtUp behind) (world_of shards (slice_set books group after))
  catch_up_turn group behind book after there same = (
    catch_up_refusal group book there,
    record {
      history = book.history;
      there = history_at group book there;
      after = world_with group after ∙ (λ i. record { shards = map journalled shards; histories = slice_set (map (λ (b : BookState). b.history) books) group (same i) });
    },
  )

  pub catch_up_refused : (group : ℕ) (book after : BookState) → slice_get books group ≡ Some book → after ≡ book
      → WorldStep partials (world_of shards books) (steps.CatchUp group) (replies.Refused refusals.Memory) (world_of shards (slice_set books group after))
  catch_up_refused group book after there after_is = (inr (catch_up_refusal group book there, refl), book_kept group book after there after_is)

  -- a call that touches no sink and adds no evaluation
  pub offers_same : (group : ℕ) (book after : BookState) → slice_get books group ≡ Some book → offers after ≡ offers book → map offers (slice_set books group after) ≡ map offers books
  offers_same group book after there same = map-set_same offers books group after book (same ∙ ap offers (sym (get_or_from_slice_get books group book book there)))
