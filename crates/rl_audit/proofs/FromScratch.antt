-- Over honest stores an evaluation that is founded in the journals is LogQL from scratch.
use Rattle.std.proofs.Common.{◌≡◌, ℕ, zero, suc, List, [], ◌∷◌, map, take, Option, None, Some, option_map, slice_get, IfSome, refl, ap, subst, ◌∙◌}
use Rattle.std.proofs.lemmas.Option.{none-some, same_Some}
use Rattle.std.specs.List.{AllByRecursion, AllZip}
use Rattle.rl_aggregate.specs.declared.partial.Partial.{Partial}
use Rattle.rl_labels.specs.declared.entry.Entry.{Entry}
use Rattle.rl_labels.specs.declared.limits.Limits.{Limits}
use Rattle.rl_query.specs.declared.query.Term.{Term}
use Rattle.rl_records.specs.declared.record.Record.{Record}
use Rattle.rl_records.specs.declared.step.ShardReply.TheVariants as replies
use Rattle.rl_records.specs.declared.step.ShardStep.TheVariants as steps
use Rattle.rl_rules.specs.declared.alert.Alert.{Alert}
use Rattle.rl_rules.specs.declared.evaluation.Evaluation.{Evaluation}
use Rattle.rl_rules.specs.declared.rule.Group.{Group}
use Rattle.rl_shard.specs.Journal.{LeadsTo}
use Rattle.rl_shard.specs.ShardFault.{IsHonest}
use Rattle.rl_shard.specs.ShardState.{ShardState, ShardView, empty_shard, journalled, visible}
use Rattle.rl_shard.specs.ShardStep.{IsReply, stepped}
use Rattle.rl_world.specs.Evaluating.{group_terms}
use Rattle.rl_world.specs.History.{group_after}
use Rattle.rl_world.specs.Kept.{evaluation_from, partials_of}
use Rattle.rl_world.specs.WorldState.{BookState, kept_answer, kept_open}
use Rattle.rl_world.specs.declared.item.Item.{Item}
use Rattle.rl_world.specs.declared.item.Item.TheVariants as kinds
use Rattle.rl_world.specs.declared.opened.Gathered.{Gathered}
use Rattle.rl_world.specs.laws.ShownLaws.{kept_evaluation}
use Rattle.rl_audit.specs.Founded.{alerts_left, AreFromScratch, gathered_of, IfEvaluated, IsAsked, IsAudited, IsFounded, IsFromScratch, IsLegal, IsShownBy}

-- JOURNALS

-- the records before a place lead to a state in which the record there is the reply to its step
record IsReplyAt (limits : Limits) (old : ShardState) (journal : List Record) (place : ℕ) (one : Record) : Type 0 where
  pub state : ShardState
  pub replayed : LeadsTo limits old (take place journal) state
  pub answered : IsReply limits state one.step one.reply

-- each record of a legal journal is such a reply
reply_at : (limits : Limits) (old new : ShardState) (journal : List Record) (place : ℕ) (one : Record) → LeadsTo limits old journal new → slice_get journal place ≡ Some one → IsReplyAt limits old journal place one
reply_at limits old new [] place one leads there = absurd (none-some one there)
reply_at limits old new (first ∷ others) zero one leads there = record {
  state = old;
  replayed = refl;
  answered = subst (λ (r : Record). IsReply limits old r.step r.reply) (same_Some first one there) leads.0;
}
reply_at limits old new (first ∷ others) (suc place) one leads there =
    let rest = reply_at limits (stepped limits old first.step) new others place one leads.1 there in
    record { state = rest.state; replayed = (leads.0, rest.replayed); answered = rest.answered }

collected_is : (a b : List Partial) → replies.Collected a ≡ replies.Collected b → a ≡ b
collected_is a b h = cc

-- ANSWERS

-- what a shard showed, of which an answer has the partials
record IsKeptOf (terms : List Term) (t : ℕ) (shard : ShardView) (answer : Gathered (List Partial)) : Type 0 where
  pub shown : Gathered (List Entry)
  pub by : IsShownBy shard shown
  pub kept : answer ≡ kept_answer terms t shown

-- the answer of a record of a legal journal has the partials of what the shard showed there
kept_at : (slot : ℕ) (terms : List Term) (t : ℕ) (shard : ShardView) (answer : Gathered (List Partial)) → IsLegal shard → IsHonest shard → IsAsked slot terms t shard.journal answer → IsKeptOf terms t shard answer
kept_at slot terms t shard answer legal honest asked =
    let limits : Limits = shard.streams.limits in
    let at = reply_at limits (empty_shard limits) (journalled shard).state shard.journal answer.place (record { step = steps.Collect slot terms t; reply = replies.Collected answer.shown }) (legal honest) asked in
    record {
      shown = record { place = answer.place; shown = visible at.state };
      by = record { state = at.state; replayed = at.replayed; shown = refl };
      kept = ap (λ (shown : List Partial). record { place = answer.place; shown = shown }) (collected_is answer.shown (partials_of (visible at.state) terms t) at.answered);
    }

-- what all shards showed, of which answers have the partials
record AreKeptOf (terms : List Term) (t : ℕ) (shards : List ShardView) (answers : List (Gathered (List Partial))) : Type 0 where
  pub shown : List (Gathered (List Entry))
  pub by : AllZip IsShownBy shards shown
  pub kept : answers ≡ map (kept_answer terms t) shown

kept_all : (slot : ℕ) (terms : List Term) (t : ℕ) (shards : List ShardView) (answers : List (Gathered (List Partial))) → AllByRecursion IsLegal shards → AllByRecursion IsHonest shards → AllZip (IsAsked slot terms t) (map (λ (shard : ShardView). shard.journal) shards) answers → AreKeptOf terms t shards answers
kept_all slot terms t [] [] legal honest asked = record { shown = []; by = tt; kept = refl }
kept_all slot terms t [] (answer ∷ answers) legal honest asked = absurd asked
kept_all slot terms t (shard ∷ shards) [] legal honest asked = absurd asked
kept_all slot terms t (shard ∷ shards) (answer ∷ answers) legal honest asked =
    let one = kept_at slot terms t shard answer legal.0 honest.0 asked.0 in
    let others = kept_all slot terms t shards answers legal.1 honest.1 asked.1 in
    record { shown = one.shown ∷ others.shown; by = (one.by, others.by); kept = λ k. one.kept k ∷ others.kept k }

-- an evaluation for which all shards were asked, by the partials of what they showed
gathered_kept : (terms : List Term) (t : ℕ) (shown : List (Gathered (List Entry))) → map Some (map (kept_answer terms t) shown) ≡ map (option_map (kept_answer terms t)) (map Some shown)
gathered_kept terms t [] = refl
gathered_kept terms t (answer ∷ shown) = ap (λ (rest : List (Option (Gathered (List Partial)))). Some (kept_answer terms t answer) ∷ rest) (gathered_kept terms t shown)

-- EVALUATIONS

module _ (shards : List ShardView) (legal : AllByRecursion IsLegal shards) (honest : AllByRecursion IsHonest shards) where
  abbrev journals : List (List Record)
  journals = map (λ (shard : ShardView). shard.journal) shards

  -- an evaluation that is founded
  founded_shown : (slot : ℕ) (group : Group) (alerts : List (List Alert)) (evaluation : Evaluation) → IsFounded journals slot group alerts evaluation → IsFromScratch shards group alerts evaluation
  founded_shown slot group alerts evaluation founded =
      let terms : List Term = group_terms group in
      let t : ℕ = evaluation.t in
      let all = kept_all slot terms t shards founded.answers legal honest founded.asked in
      let opened : gathered_of t founded.answers ≡ kept_open terms (gathered_of t all.shown) =
      ap (gathered_of t) all.kept ∙ ap (λ (given : List (Option (Gathered (List Partial)))). record { t = t; gathered = given }) (gathered_kept terms t all.shown) in
      record {
        answers = all.shown;
        shown = all.by;
        made = founded.made ∙ ap (evaluation_from group alerts) opened ∙ kept_evaluation group alerts (gathered_of t all.shown);
      }

  item_shown : (slot : ℕ) (group : Group) (alerts : List (List Alert)) (item : Item) → IfEvaluated (IsFounded journals slot group alerts) item → IfEvaluated (IsFromScratch shards group alerts) item
  item_shown slot group alerts (kinds.Edited to) founded = tt
  item_shown slot group alerts (kinds.Evaluated evaluation) founded = founded_shown slot group alerts evaluation founded

  at_shown : (slot : ℕ) (group : Group) (alerts : List (List Alert)) (maybe : Option Item) → IfSome maybe (IfEvaluated (IsFounded journals slot group alerts)) → IfSome maybe (IfEvaluated (IsFromScratch shards group alerts))
  at_shown slot group alerts None founded = tt
  at_shown slot group alerts (Some item) founded = item_shown slot group alerts item founded

  -- each evaluation of a history that is founded
  book_shown : (book : BookState) → IsAudited journals book → AreFromScratch shards book
  book_shown book audited = λ n. at_shown book.slot (group_after book.history.first (take n book.history.items)) (alerts_left book.history.first (take n book.history.items)) (slice_get book.history.items n) (audited.0 n)

  -- of each book
  pub books_shown : (books : List BookState) → AllByRecursion (IsAudited journals) books → AllByRecursion (AreFromScratch shards) books
  books_shown [] audited = tt
  books_shown (book ∷ books) audited = (book_shown book audited.0, books_shown books audited.1)
