-- What a run is over any stores: each evaluation for which its shards read is LogQL from scratch on the lines that they read. Of one
-- for which windows answered in place of a reading, nothing is said here.
use Rattle.std.specs.Prelude.{◌≡◌, ◌⊎◌, ℕ, suc, List, [], ◌∷◌, map, length, drop, replicate, Option, None, Some, option_map, flat_map, slice_get, slice_set, slice_index_or}
use Rattle.std.specs.List.{AllZip}
use Rattle.rl_labels.specs.LabelSet.{LabelSet}
use Rattle.rl_chunks.specs.declared.line.Line.{Line}
use Rattle.rl_query.specs.declared.query.Term.{Term}
use Rattle.rl_aggregate.specs.declared.partial.Partial.{Partial}
use Rattle.rl_shard.specs.Collecting.{AreLinesOf, counted}
use Rattle.rl_shard.specs.Live.{IsOfWindows}
use Rattle.rl_shard.specs.ShardState.{ShardView}
use Rattle.rl_records.specs.declared.step.ShardStep.TheVariants as shard_steps
use Rattle.rl_rules.specs.declared.alert.Alert.{Alert}
use Rattle.rl_rules.specs.declared.rule.Group.{Group}
use Rattle.rl_rules.specs.declared.evaluation.Evaluation.{Evaluation}
use Rattle.rl_world.specs.Evaluating.{group_terms, answers, evaluation_with}
use Rattle.rl_world.specs.History.{History, alerts_of, with_shown}
use Rattle.rl_world.specs.Kept.{results_from}
use Rattle.rl_world.specs.WorldRun.{Turned}
use Rattle.rl_world.specs.WorldState.{WorldBooks}
use Rattle.rl_world.specs.declared.opened.Gathered.{Gathered}
use Rattle.rl_world.specs.declared.opened.OpenEvaluation.{OpenEvaluation}
use Rattle.rl_world.specs.declared.step.Committed.{Committed}
use Rattle.rl_world.specs.declared.step.Step.{Step}
use Rattle.rl_world.specs.declared.step.Step.TheVariants as steps
use Rattle.rl_world.specs.declared.step.Reply.{Reply}
use Rattle.rl_world.specs.declared.step.Reply.TheVariants as replies

-- the lines that a shard read, a list for each term
abbrev pub TermLines : Type 0
TermLines = List (List (LabelSet × Line))

-- what they add up to: a partial for each term
abbrev pub added_up : List Term → TermLines → List Partial
added_up [] lines = []
added_up (term ∷ terms) lines = counted term.range.stages (slice_index_or lines 0 []) ∷ added_up terms (drop 1 lines)

-- the lines of one term, of all shards that were asked
abbrev pub lines_of_term : ℕ → List (Gathered TermLines) → List (LabelSet × Line)
lines_of_term term shard_answers = flat_map (λ answer. slice_index_or answer.shown term []) shard_answers

-- what the lines of all shards add up to for each of some terms, from one on
abbrev pub added_up_from : ℕ → List Term → List (Gathered TermLines) → List Partial
added_up_from number [] shard_answers = []
added_up_from number (term ∷ terms) shard_answers = counted term.range.stages (lines_of_term number shard_answers) ∷ added_up_from (suc number) terms shard_answers

-- from scratch: each rule's query on the lines that all shards read for its terms
abbrev pub evaluation_on : Group → List (List Alert) → OpenEvaluation TermLines → Evaluation
evaluation_on group alerts opened = evaluation_with group opened (results_from group.limit opened.t group.rules alerts (added_up_from 0 (group_terms group) (answers opened)))

-- with what the lines add up to instead of them
abbrev pub added_answer : List Term → Gathered TermLines → Gathered (List Partial)
added_answer terms answer = record { place = answer.place; shown = added_up terms answer.shown }

abbrev pub added_open : List Term → OpenEvaluation TermLines → OpenEvaluation (List Partial)
added_open terms opened = record { t = opened.t; gathered = map (option_map (added_answer terms)) opened.gathered }

-- what shards read for the open evaluation of a group: none where none is open, or where windows answered for one of them
abbrev pub Reading : Type 0
Reading = Option (OpenEvaluation TermLines)

-- the evaluation keeps what those lines add up to; where there are none, nothing is said of it
abbrev pub IsReading : History (List Partial) → Reading → Type 0
IsReading history None = Unit {0}
IsReading history (Some opened) = history.opened ≡ Some (added_open (group_terms history.group) opened)

-- so of each group
abbrev pub AreReadings : WorldBooks → List Reading → Type 0
AreReadings world readings = AllZip IsReading (map (λ book. book.history) world.books) readings

-- a shard read lines for each term of the group, at the moment of the evaluation that is open
pub record Reads (old : WorldBooks) (before : List Reading) (group number place : ℕ) (after : List Reading) : Type 0 where
  pub shard : ShardView
  pub shard_there : slice_get old.shards number ≡ Some shard
  pub history : History (List Partial)
  pub there : slice_get (map (λ book. book.history) old.books) group ≡ Some history
  pub opened : OpenEvaluation TermLines
  pub open_is : slice_get before group ≡ Some (Some opened)
  pub lines : TermLines
  pub read : AllZip (λ term lines. AreLinesOf shard.streams.rows shard.requests term.range opened.t lines) (group_terms history.group) lines
  pub now : after ≡ slice_set before group (Some (with_shown number place lines opened))

-- a shard has windows of the group's slot that answer the terms of the group at the moment of the evaluation that is open: what
-- other shards read is not all that this evaluation is of, and stands for it no longer
pub record AnswersByWindows (old : WorldBooks) (before : List Reading) (group number : ℕ) (after : List Reading) : Type 0 where
  pub shard : ShardView
  pub shard_there : slice_get old.shards number ≡ Some shard
  pub history : History (List Partial)
  pub there : slice_get (map (λ book. book.history) old.books) group ≡ Some history
  pub opened : OpenEvaluation (List Partial)
  pub open_is : history.opened ≡ Some opened
  pub live : IsOfWindows (shard_steps.Collect group (group_terms history.group) opened.t) shard.slots
  pub now : after ≡ slice_set before group None

-- nothing that was read stood for the open evaluation of the group, and nothing does
abbrev pub StaysUnread : List Reading → (group : ℕ) → List Reading → Type 0
StaysUnread before group after = (slice_get before group ≡ Some None) × (after ≡ before)

-- what was committed is LogQL from scratch on the lines that shards read, and with it they are done
pub record CommitsReading (old : WorldBooks) (before : List Reading) (group : ℕ) (answer : Committed) (after : List Reading) : Type 0 where
  pub history : History (List Partial)
  pub there : slice_get (map (λ book. book.history) old.books) group ≡ Some history
  pub opened : OpenEvaluation TermLines
  pub open_is : slice_get before group ≡ Some (Some opened)
  pub evaluation_is : answer.evaluation ≡ evaluation_on history.group (alerts_of history) opened
  pub now : after ≡ slice_set before group None

-- what a turn makes of what was read: an evaluation begins with nothing read; a shard that is asked for it adds its lines, or answers
-- by windows, and from then on no lines stand for it; where lines still do, a commit is LogQL from scratch on these; and none are left
-- where it was closed
abbrev pub ReadTurn : WorldBooks → List Reading → Step → Reply → List Reading → Type 0
ReadTurn old before (steps.Edit group to) (replies.Edited place) after = after ≡ slice_set before group None
ReadTurn old before (steps.Begin group t) replies.Begun after = after ≡ slice_set before group (Some (record { t = t; gathered = replicate (length old.shards) None }))
ReadTurn old before (steps.Gather group number) (replies.Gathered place) after = Reads old before group number place after ⊎ AnswersByWindows old before group number after ⊎ StaysUnread before group after
ReadTurn old before (steps.Commit group) (replies.Committed answer) after = CommitsReading old before group answer after ⊎ StaysUnread before group after
ReadTurn old before (steps.Abandon group) replies.Abandoned after = after ≡ slice_set before group None
ReadTurn old before step reply after = after ≡ before

-- a run, and what was read in it, turn after turn
abbrev pub RanReading : WorldBooks → List Reading → List Step → List Reply → WorldBooks → List Reading → Type 0
RanReading old before [] [] new after = (new ≡ old) × (after ≡ before)
RanReading old before (step ∷ steps) (reply ∷ replies) new after = (mid : WorldBooks) × (between : List Reading) × Turned old step reply mid × ReadTurn old before step reply between × RanReading mid between steps replies new after
RanReading old before [] (reply ∷ replies) new after = ⊥
RanReading old before (step ∷ steps) [] new after = ⊥

-- over any stores: for any lines that may have been read before there are lines that may have been read after, and the steps lead
-- from the ones to the others
abbrev pub ReadsThrough : WorldBooks → List Step → List Reply → WorldBooks → Type 0
ReadsThrough old steps replies new = (before : List Reading) → AreReadings old before → (after : List Reading) × AreReadings new after × RanReading old before steps replies new after
