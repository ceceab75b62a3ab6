-- What a commit makes of a book's sinks.
use Rattle.std.proofs.Common.{◌≡◌, ℕ, suc, Bool, List, [], ◌∷◌, ◌++◌, map, length, take, Option, None, Some, IfSome, Result, Ok, Err, OnOk, OnErr, option_map, slice_get, slice_set, refl, sym, ap, subst, ◌∙◌, arith, length-append}
use Rattle.std.specs.List.{AllByRecursion}
use Rattle.std.proofs.lemmas.List.{take-append-le}
use Rattle.rl_rules.specs.declared.evaluation.Evaluation.{Evaluation}
use Rattle.rl_sinks.specs.SinkState.{SinkState, within}
use Rattle.rl_aggregate.specs.declared.partial.Partial.{Partial}
use Rattle.rl_shard.specs.ShardState.{ShardView, journalled}
use Rattle.rl_world.specs.BookCalls.{Answers}
use Rattle.rl_world.specs.Evaluating.{group_terms, evaluation_of}
use Rattle.rl_world.specs.Kept.{evaluation_from}
use Rattle.rl_world.specs.History.{History, alerts_of, closing_fault, commit_fault, committed, is_session_full}
use Rattle.rl_world.specs.Offering.{TookPrefix, Offered, AllOffered, texts_of}
use Rattle.rl_world.specs.WorldState.{BookState, IsBookOf, kept_open, world_of}
use Rattle.rl_labels.specs.declared.entry.Entry.{Entry}
use Rattle.rl_world.specs.laws.ShownLaws.{kept_evaluation}
use Rattle.rl_world.specs.WorldStep.{WorldStep, partials, refusal_of_book}
use Rattle.rl_plain.specs.declared.refusal.OrMemory.{OrMemory}
use Rattle.rl_world.specs.declared.fault.BookFault.{BookFault}
use Rattle.rl_world.specs.declared.fault.Refusal.{Refusal}
use Rattle.rl_world.specs.declared.fault.Refusal.TheVariants as refusals
use Rattle.rl_world.specs.declared.opened.OpenEvaluation.{OpenEvaluation}
use Rattle.rl_world.specs.declared.step.Committed.{Committed}
use Rattle.rl_world.specs.declared.step.Step.TheVariants as steps
use Rattle.rl_world.specs.declared.step.Reply.TheVariants as replies
use Rattle.rl_world.proofs.Turning.{answered_ok, book_refused, commit_refusal, history_at, world_with}

-- a prefix of the evaluations is one of one evaluation more
took_more : (evaluations : List Evaluation) (evaluation : Evaluation) (sink : SinkState) → TookPrefix evaluations sink → TookPrefix (evaluations ++ evaluation ∷ []) sink
took_more evaluations evaluation sink took = (
  omega (arith, took.0, length-append evaluations (evaluation ∷ [])),
  took.1 ∙ ap (λ first. within sink.limit (texts_of sink.kind first)) (sym (take-append-le sink.count evaluations (evaluation ∷ []) took.0)),
)

pub each_took_more : (evaluations : List Evaluation) (evaluation : Evaluation) (sinks : List SinkState) → AllByRecursion (TookPrefix evaluations) sinks → AllByRecursion (TookPrefix (evaluations ++ evaluation ∷ [])) sinks
each_took_more evaluations evaluation [] took = tt
each_took_more evaluations evaluation (sink ∷ sinks) took = (took_more evaluations evaluation sink took.0, each_took_more evaluations evaluation sinks took.1)

-- with one at its end a list has one more than before
pub one_more : {X : Type 0} (before now : List X) (x : X) → now ≡ before ++ x ∷ [] → length now ≡ suc (length before)
one_more before now x is = omega (arith, ap length {x = now} {y = before ++ x ∷ []} is, length-append before (x ∷ []))

-- of what is not there anything holds
pub holds_of_none : {X : Type 0} (P : X → Type 0) (maybe : Option X) → maybe ≡ None → IfSome maybe P
holds_of_none P None none = tt
holds_of_none P (Some x) none = absurd (some_none x none)
  where
    some_none : {X : Type 0} (x : X) → Some x ≡ None → ⊥
    some_none x h = cc

-- what took prefixes before one more was committed takes prefixes of all
pub each_took_now : (evaluations now : List Evaluation) (evaluation : Evaluation) (sinks same : List SinkState) → now ≡ evaluations ++ evaluation ∷ [] → same ≡ sinks → AllByRecursion (TookPrefix evaluations) sinks → AllByRecursion (TookPrefix now) same
each_took_now evaluations now evaluation sinks same is listed took =
    let more = each_took_more evaluations evaluation sinks took in
    let known = subst (λ all. AllByRecursion (TookPrefix all) sinks) {x = evaluations ++ evaluation ∷ []} {y = now} (sym is) more in
    subst (AllByRecursion (TookPrefix now)) {x = sinks} {y = same} (sym listed) known

-- a sink that was offered what it had not taken has taken a prefix
took_offered : (evaluations : List Evaluation) (old new : SinkState) → Offered evaluations old new → TookPrefix evaluations new
took_offered evaluations old new offered =
    let state = offered.state in (
      offered.few,
      ap (λ (s : SinkState). s.kept) state
          ∙ (λ i. within (sym (ap (λ (s : SinkState). s.limit) state) i) (texts_of (sym (ap (λ (s : SinkState). s.kind) state) i) (take new.count evaluations))),
    )

pub each_took_offered : (evaluations : List Evaluation) (olds news : List SinkState) → AllOffered evaluations olds news → AllByRecursion (TookPrefix evaluations) news
each_took_offered evaluations [] [] offered = tt
each_took_offered evaluations (old ∷ olds) (new ∷ news) offered = (took_offered evaluations old new offered.0, each_took_offered evaluations olds news offered.1)
each_took_offered evaluations [] (new ∷ news) offered = absurd offered
each_took_offered evaluations (old ∷ olds) [] offered = absurd offered

-- an evaluation that can be committed is open
record OpenWith (P : OpenEvaluation (List Partial) → Type 0) (maybe : Option (OpenEvaluation (List Partial))) : Type 0 where
  pub opened : OpenEvaluation (List Partial)
  pub is : maybe ≡ Some opened
  pub holds : P opened

open_with : (P : OpenEvaluation (List Partial) → Type 0) (maybe : Option (OpenEvaluation (List Partial))) (full : Bool) → closing_fault maybe full ≡ None → IfSome maybe P → OpenWith P maybe
open_with P None full free holds = absurd (some_none free)
  where
    some_none : {X : Type 0} {x : X} → Some x ≡ None → ⊥
    some_none h = cc
open_with P (Some opened) full free holds = record { opened = opened; is = refl; holds = holds }

-- an evaluation on what is kept is the one from scratch on what was shown
pub from_scratch : (history : History (List Partial)) (evaluation : Evaluation) (opened : OpenEvaluation (List Partial)) (shown : OpenEvaluation (List Entry)) → evaluation ≡ evaluation_from history.group (alerts_of history) opened → history.opened ≡ Some opened
    → history.opened ≡ Some (kept_open (group_terms history.group) shown) → evaluation ≡ evaluation_of history.group (alerts_of history) shown
from_scratch history evaluation opened shown made is kept = made ∙ ap (evaluation_from history.group (alerts_of history)) (some_is opened (kept_open (group_terms history.group) shown) (sym is ∙ kept)) ∙ kept_evaluation history.group (alerts_of history) shown
  where
    some_is : {X : Type 0} (a b : X) → Some a ≡ Some b → a ≡ b
    some_is a b h = cc

-- a book whose sinks were offered what they had not taken, or which refused, is still one of its world
pub fits_offered : {A E : Type 0} (n : ℕ) (result : Result A E) (book after : BookState) → IsBookOf n book → OnOk result ((after.shards ≡ book.shards) × (after.slot ≡ book.slot)) → OnOk result (AllOffered after.history.evaluations book.sinks after.sinks) → OnErr result (after ≡ book) → IsBookOf n after
fits_offered n (Ok answer) book after fits rest offered err = (rest.0 ∙ fits.0, each_took_offered after.history.evaluations book.sinks after.sinks offered)
fits_offered n (Err error) book after fits rest offered err = subst (IsBookOf n) (sym err) fits

-- and so is one whose sinks were pumped before
pub fits_caught_up : {A E : Type 0} (n : ℕ) (result : Result A E) (book after : BookState) (Ready : List SinkState → Type 0) (Said : List SinkState → Type 0) → IsBookOf n book → OnOk result ((after.shards ≡ book.shards) × (after.slot ≡ book.slot))
    → OnOk result ((ready : List SinkState) × Ready ready × Said ready × AllOffered after.history.evaluations ready after.sinks) → OnErr result (after ≡ book) → IsBookOf n after
fits_caught_up n (Ok answer) book after Ready Said fits rest offered err = (rest.0 ∙ fits.0, each_took_offered after.history.evaluations offered.0 after.sinks offered.3)
fits_caught_up n (Err error) book after Ready Said fits rest offered err = subst (IsBookOf n) (sym err) fits

module _ (shards : List ShardView) (books : List BookState) (group : ℕ) (book after : BookState) (there : slice_get books group ≡ Some book) where
  pub commit_turn : (answer : Committed) → Answers (commit_fault book.history) (Ok answer) → answer.number ≡ length book.history.evaluations → IfSome book.history.opened (λ opened. answer.evaluation ≡ evaluation_from book.history.group (alerts_of book.history) opened)
      → after.history ≡ committed book.history answer.evaluation
      → WorldStep partials (world_of shards books) (steps.Commit group) (replies.Committed answer) (world_of shards (slice_set books group after))
  commit_turn answer free number evaluation history =
      let none = answered_ok (commit_fault book.history) answer free in
      let here = open_with (λ opened. answer.evaluation ≡ evaluation_from book.history.group (alerts_of book.history) opened) book.history.opened (is_session_full book.history) none evaluation in (
        commit_refusal shards books group book there ∙ ap (option_map refusals.Book) none,
        record {
          history = book.history;
          there = history_at shards books group book there;
          opened = here.opened;
          open_is = here.is;
          number_is = number;
          evaluation_is = here.holds;
          after = world_with shards books group after ∙ (λ i. record { shards = map journalled shards; histories = slice_set (map (λ (b : BookState). b.history) books) group (history i) });
        },
      )

  pub commit_refused : (error : OrMemory BookFault) (refusal : Refusal) → Answers {A = Committed} (commit_fault book.history) (Err error) → refusal ≡ refusal_of_book error → after ≡ book
      → WorldStep partials (world_of shards books) (steps.Commit group) (replies.Refused refusal) (world_of shards (slice_set books group after))
  commit_refused error refusal answer refusal_is after_is = book_refused shards books Committed group (steps.Commit group) (commit_fault book.history) error refusal book after there (commit_refusal shards books group book there) refl answer refusal_is after_is
