-- Shards that answer for an evaluation one after another, by the records of their journals.
use Rattle.std.proofs.Common.{◌≡◌, ℕ, ◌+◌, ◌-◌, ◌<◌, List, [], ◌∷◌, ◌++◌, length, take, Option, None, Some, IfSome, slice_get, refl, sym, ap, subst, ◌∙◌, arith, length-append}
use Rattle.std.proofs.lemmas.List.{take_all}
use Rattle.std.proofs.lemmas.Slice.Zip.{all_zipped_more}
use Rattle.std.specs.List.{AllZip}
use Rattle.std.specs.Prelude.{replicate}
use Rattle.rl_records.specs.declared.record.Record.{Record}
use Rattle.rl_rules.specs.declared.evaluation.Evaluation.{Evaluation}
use Rattle.rl_world.specs.BookCalls.{with_history}
use Rattle.rl_world.specs.Evaluating.{group_terms}
use Rattle.rl_world.specs.History.{alerts_of, begun, committed, gather_fault, gathered}
use Rattle.rl_world.specs.Kept.{evaluation_from}
use Rattle.rl_world.specs.WorldState.{BookState}
use Rattle.rl_audit.specs.Driven.{AreGathered, opened_with, with_open}
use Rattle.rl_audit.specs.Founded.{IsAsked, IsFounded}
use Rattle.rl_audit.proofs.Redriving.{take_next}
use Rattle.rl_audit.proofs.Answered.{free_after, given_all, given_next, Answer}

-- no shard answered yet
pub gathered_none : (journals : List (List Record)) (t : ℕ) (old mid : BookState) → mid ≡ with_history old (begun old.shards old.history t) → AreGathered journals 0 t old mid
gathered_none journals t old mid is =
    let all : old.shards ≡ old.shards - 0 = omega arith in
    record {
      answers = [];
      each = refl;
      asked = tt;
      kept = is ∙ ap (λ k. with_history old (with_open (record { t = t; gathered = replicate k None }) old.history)) all;
    }

module _ (journals : List (List Record)) (count t : ℕ) (old mid : BookState) (so_far : AreGathered journals count t old mid) where
  -- the next shard was not asked
  pub free_next : count < old.shards → gather_fault mid.history count ≡ None
  free_next below =
      let few : length so_far.answers < old.shards = omega (arith, below, so_far.each) in
      subst (λ n. gather_fault mid.history n ≡ None) so_far.each (ap (λ (b : BookState). gather_fault b.history (length so_far.answers)) so_far.kept ∙ free_after old.shards t so_far.answers old.history few)

  -- the terms stay those of the group
  pub same_terms : group_terms mid.history.group ≡ group_terms old.history.group
  same_terms = ap (λ (b : BookState). group_terms b.history.group) so_far.kept

  pub same_shards : mid.shards ≡ old.shards
  same_shards = ap (λ (b : BookState). b.shards) so_far.kept

  -- a shard more answered
  pub gathered_more : (new : BookState) (journal : List Record) (answer : Answer) → count < old.shards → slice_get journals count ≡ Some journal → IsAsked old.slot (group_terms old.history.group) t journal answer → new ≡ with_history mid (gathered mid.history count answer.place answer.shown) → AreGathered journals (count + 1) t old new
  gathered_more new journal answer below there asked is =
      let answers = so_far.answers in
      let few : length answers < old.shards = omega (arith, below, so_far.each) in
      record {
        answers = answers ++ answer ∷ [];
        each = omega (arith, length-append answers (answer ∷ []), so_far.each);
        asked = subst (λ (front : List (List Record)). AllZip (IsAsked old.slot (group_terms old.history.group) t) front (answers ++ answer ∷ [])) (sym (take_next journals count journal there)) (all_zipped_more (IsAsked old.slot (group_terms old.history.group) t) (take count journals) answers journal answer so_far.asked asked);
        kept = is
            ∙ ap (λ (b : BookState). with_history b (gathered b.history count answer.place answer.shown)) so_far.kept
            ∙ ap (λ n. with_history old (gathered (with_open (opened_with old.shards t answers) old.history) n answer.place answer.shown)) (sym so_far.each)
            ∙ ap (λ (given : List (Option Answer)). with_history old (with_open (record { t = t; gathered = given }) old.history)) (given_next old.shards answers answer few);
      }

module _ (journals : List (List Record)) (count : ℕ) (evaluation : Evaluation) (old mid : BookState) (all : count ≡ length journals) (shards : old.shards ≡ count) (made : AreGathered journals count evaluation.t old mid) where
  -- what they give is founded, if it is the evaluation
  pub founded_by : (done : Evaluation) → IfSome mid.history.opened (λ opened. done ≡ evaluation_from mid.history.group (alerts_of mid.history) opened) → done ≡ evaluation → IsFounded journals old.slot old.history.group (alerts_of old.history) evaluation
  founded_by done from same =
      let opened = subst (λ (b : BookState). IfSome b.history.opened (λ opened. done ≡ evaluation_from b.history.group (alerts_of b.history) opened)) made.kept from in
      record {
        answers = made.answers;
        asked = subst (λ (front : List (List Record)). AllZip (IsAsked old.slot (group_terms old.history.group) evaluation.t) front made.answers) (take_all count journals (omega (arith, all))) made.asked;
        made = sym same ∙ opened ∙ ap (evaluation_from old.history.group (alerts_of old.history)) (given_all old.shards evaluation.t made.answers (made.each ∙ sym shards));
      }

  -- the history has it
  pub committed_by : (done : Evaluation) (new : BookState) → new.history ≡ committed mid.history done → done ≡ evaluation → new.history ≡ committed old.history evaluation
  committed_by done new is same = is ∙ ap (λ (b : BookState). committed b.history done) made.kept ∙ ap (committed old.history) same
