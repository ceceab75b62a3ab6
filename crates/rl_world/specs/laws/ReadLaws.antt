-- A run over any stores, on the lines that shards read: what is kept of an open evaluation is what they add up to, where no windows
-- answered for it.
use Rattle.std.proofs.Common.{◌≡◌, ◌⊎◌, inl, inr, ℕ, zero, suc, List, [], ◌∷◌, ◌++◌, map, length, drop, replicate, flat_map, Option, None, Some, option_map, option_to_list, slice_get, slice_set, refl, sym, ap, subst, ◌∙◌, append_assoc, append-nil}
use Rattle.std.specs.Prelude.{slice_index_or}
use Rattle.std.specs.List.{AllZip}
use Rattle.std.proofs.lemmas.Grind.{flat_map-append}
use Rattle.std.proofs.lemmas.List.{length-map, map-set}
use Rattle.std.proofs.lemmas.List.Concat.{flat_map-cons}
use Rattle.std.proofs.lemmas.Option.{slice_get-map}
use Rattle.rl_labels.specs.LabelSet.{LabelSet}
use Rattle.rl_chunks.specs.declared.line.Line.{Line}
use Rattle.rl_query.specs.declared.query.Term.{Term}
use Rattle.rl_query.specs.declared.stages.Stage.{Stage}
use Rattle.rl_aggregate.specs.InRange.{runs_of}
use Rattle.rl_aggregate.specs.Partials.{merge, partial_of}
use Rattle.rl_aggregate.specs.declared.partial.Partial.{Partial}
use Rattle.rl_aggregate.specs.laws.Runs.{partial_of-append}
use Rattle.rl_shard.specs.Collecting.{AreLinesOf, AreReadFor, counted}
use Rattle.rl_shard.specs.Live.{IsOfWindows}
use Rattle.rl_shard.specs.ShardState.{ShardView, journalled}
use Rattle.rl_records.specs.declared.step.ShardStep.TheVariants as shard_steps
use Rattle.rl_rules.specs.declared.alert.Alert.{Alert}
use Rattle.rl_rules.specs.declared.rule.Group.{Group}
use Rattle.rl_world.specs.BookCalls.{with_history}
use Rattle.rl_world.specs.Evaluating.{group_terms, answers}
use Rattle.rl_world.specs.History.{History, alerts_of, begun, edited, gathered, committed, abandoned, with_shown}
use Rattle.rl_world.specs.Kept.{evaluation_from, merged_from, merged_terms, no_partial, results_from}
use Rattle.rl_world.specs.Reads.{AnswersByWindows, AreReadings, CommitsReading, IsReading, ReadTurn, Reading, Reads, ReadsThrough, StaysUnread, TermLines, added_answer, added_open, added_up, added_up_from, evaluation_on, lines_of_term}
use Rattle.rl_world.specs.ShardsTurn.{IsGathered}
use Rattle.rl_world.specs.WorldRun.{Ran, Turned}
use Rattle.rl_world.specs.WorldState.{BookState, WorldBooks, WorldState, world_of}
use Rattle.rl_world.specs.WorldStep.{CommitTurn, HistoryTurn, partials}
use Rattle.rl_world.specs.declared.fault.Refusal.{Refusal}
use Rattle.rl_world.specs.declared.opened.Gathered.{Gathered}
use Rattle.rl_world.specs.declared.opened.OpenEvaluation.{OpenEvaluation}
use Rattle.rl_world.specs.declared.step.Committed.{Committed}
use Rattle.rl_world.specs.declared.step.Step.{Step}
use Rattle.rl_world.specs.declared.step.Step.TheVariants as steps
use Rattle.rl_world.specs.declared.step.Reply.{Reply}
use Rattle.rl_world.specs.declared.step.Reply.TheVariants as replies
use Rattle.rl_world.specs.laws.ShownLaws.{drop-next}

some_is : {X : Type 0} (a b : X) → Some a ≡ Some b → a ≡ b
some_is a b h = cc

none_some : {X : Type 0} (x : X) → None ≡ Some x → ⊥
none_some x h = cc

-- lines followed by others add up to the merge
counted-append : (stages : List Stage) (first second : List (LabelSet × Line)) → counted stages (first ++ second) ≡ merge (counted stages first) (counted stages second)
counted-append stages first second =
    let one = λ (line : LabelSet × Line). runs_of stages line.0 line.1.text in
    ap partial_of (flat_map-append one first second) ∙ partial_of-append (flat_map one first) (flat_map one second)

-- what is at the next index of a list is at the index of its rest
rest_index : {X : Type 0} (d : X) (xs : List X) (i : ℕ) → slice_index_or (drop 1 xs) i d ≡ slice_index_or xs (suc i) d
rest_index d [] i = refl
rest_index d (x ∷ xs) i = refl

-- what the lines of one term add up to stands at its index
index-added : (terms : List Term) (lines : TermLines) (i : ℕ) (term : Term) (rest : List Term) → drop i terms ≡ term ∷ rest → slice_index_or (added_up terms lines) i no_partial ≡ counted term.range.stages (slice_index_or lines i [])
index-added [] lines zero term rest is = cc
index-added (first ∷ terms) lines zero term rest is = ap (λ (own : List Term). slice_index_or (added_up own lines) 0 no_partial) is
index-added [] lines (suc i) term rest is = cc
index-added (first ∷ terms) lines (suc i) term rest is = index-added terms (drop 1 lines) i term rest is ∙ ap (counted term.range.stages) (rest_index [] lines i)

-- merging what was added up of one term is adding up its lines of all shards
merged_from-added : (before : List (LabelSet × Line)) (terms : List Term) (i : ℕ) (term : Term) (rest : List Term) (shown : List (Gathered TermLines)) → drop i terms ≡ term ∷ rest
    → merged_from (counted term.range.stages before) i (map (added_answer terms) shown) ≡ counted term.range.stages (before ++ lines_of_term i shown)
merged_from-added before terms i term rest [] is = ap (counted term.range.stages) (sym (append-nil before))
merged_from-added before terms i term rest (answer ∷ more) is =
    let stages = term.range.stages in
    let own = slice_index_or answer.shown i [] in
    ap (λ sum. merged_from sum i (map (added_answer terms) more)) (ap (merge (counted stages before)) (index-added terms answer.shown i term rest is) ∙ sym (counted-append stages before own))
    ∙ merged_from-added (before ++ own) terms i term rest more is
    ∙ ap (counted stages) (append_assoc before own (lines_of_term i more) ∙ ap (λ lines. before ++ lines) (sym (flat_map-cons (λ (other : Gathered TermLines). slice_index_or other.shown i []) answer more)))

merged_terms-added : (terms : List Term) (i : ℕ) (rest : List Term) (shown : List (Gathered TermLines)) → drop i terms ≡ rest → merged_terms i (length rest) (map (added_answer terms) shown) ≡ added_up_from i rest shown
merged_terms-added terms i [] shown is = refl
merged_terms-added terms i (term ∷ rest) shown is = λ k. merged_from-added [] terms i term rest shown is k ∷ merged_terms-added terms (suc i) rest shown (drop-next terms i term rest is) k

-- of each shard that was asked
answers-added : (terms : List Term) (gathered : List (Option (Gathered TermLines))) → flat_map option_to_list (map (option_map (added_answer terms)) gathered) ≡ map (added_answer terms) (flat_map option_to_list gathered)
answers-added terms [] = refl
answers-added terms (None ∷ gathered) = answers-added terms gathered
answers-added terms (Some answer ∷ gathered) = ap (λ rest. added_answer terms answer ∷ rest) (answers-added terms gathered)

places-added : (terms : List Term) (shown : List (Gathered TermLines)) → map (λ (answer : Gathered (List Partial)). answer.place) (map (added_answer terms) shown) ≡ map (λ (answer : Gathered TermLines). answer.place) shown
places-added terms [] = refl
places-added terms (answer ∷ rest) = ap (λ places. answer.place ∷ places) (places-added terms rest)

-- so the evaluation on what is kept is the one from scratch on the lines
added_evaluation : (group : Group) (alerts : List (List Alert)) (opened : OpenEvaluation TermLines) → evaluation_from group alerts (added_open (group_terms group) opened) ≡ evaluation_on group alerts opened
added_evaluation group alerts opened =
    let terms = group_terms group in
    let same = answers-added terms opened.gathered in
    let places = ap (λ shown. map (λ (answer : Gathered (List Partial)). answer.place) shown) same ∙ places-added terms (answers opened) in
    let sums = ap (merged_terms 0 (length terms)) same ∙ merged_terms-added terms 0 terms (answers opened) refl in
    λ k. record { group = group.name; t = opened.t; places = places k; outcomes = results_from group.limit opened.t group.rules alerts (sums k) }

-- the lines behind the partials that a shard answered
record LinesBehind (shard : ShardView) (t : ℕ) (terms : List Term) (found : List Partial) : Type 0 where
  pub lines : TermLines
  pub read : AllZip (λ (term : Term) lines. AreLinesOf shard.streams.rows shard.requests term.range t lines) terms lines
  pub added : found ≡ added_up terms lines

lines_read : (shard : ShardView) (t : ℕ) (terms : List Term) (found : List Partial) → AreReadFor shard.streams shard.requests terms t found → LinesBehind shard t terms found
lines_read shard t [] [] all = record { lines = []; read = tt; added = refl }
lines_read shard t [] (partial ∷ found) all = absurd all
lines_read shard t (term ∷ terms) [] all = absurd all
lines_read shard t (term ∷ terms) (partial ∷ found) all =
    let rest = lines_read shard t terms found all.1 in
    record { lines = all.0.lines ∷ rest.lines; read = (all.0.are, rest.read); added = λ i. all.0.adds_up i ∷ rest.added i }

-- what was read for a group
record ReadingAt (readings : List Reading) (group : ℕ) (history : History (List Partial)) : Type 0 where
  pub reading : Reading
  pub there : slice_get readings group ≡ Some reading
  pub is : IsReading history reading

reading_at : (histories : List (History (List Partial))) (readings : List Reading) (group : ℕ) (history : History (List Partial)) → AllZip IsReading histories readings → slice_get histories group ≡ Some history → ReadingAt readings group history
reading_at [] [] group history all there = absurd (none_some history there)
reading_at (first ∷ histories) (own ∷ readings) zero history all there = record { reading = own; there = refl; is = subst (λ h. IsReading h own) (some_is first history there) all.0 }
reading_at (first ∷ histories) (own ∷ readings) (suc group) history all there = let rest = reading_at histories readings group history all.1 there in record { reading = rest.reading; there = rest.there; is = rest.is }
reading_at [] (own ∷ readings) group history all there = absurd all
reading_at (first ∷ histories) [] group history all there = absurd all

-- one that is open keeps what lines add up to
record OpenReading (readings : List Reading) (group : ℕ) (terms : List Term) (opened : OpenEvaluation (List Partial)) : Type 0 where
  pub lines : OpenEvaluation TermLines
  pub there : slice_get readings group ≡ Some (Some lines)
  pub keeps : opened ≡ added_open terms lines

-- or no lines stand for it
abbrev OpenOrUnread : List Reading → (group : ℕ) → List Term → OpenEvaluation (List Partial) → Type 0
OpenOrUnread readings group terms opened = OpenReading readings group terms opened ⊎ (slice_get readings group ≡ Some None)

open_reading : (readings : List Reading) (group : ℕ) (history : History (List Partial)) (opened : OpenEvaluation (List Partial)) → ReadingAt readings group history → history.opened ≡ Some opened → OpenOrUnread readings group (group_terms history.group) opened
open_reading readings group history opened at open_is = by at.reading at.there at.is
  where
    by : (reading : Reading) → slice_get readings group ≡ Some reading → IsReading history reading → OpenOrUnread readings group (group_terms history.group) opened
    by None there is = inr there
    by (Some lines) there is = inl (record { lines = lines; there = there; keeps = some_is opened (added_open (group_terms history.group) lines) (sym open_is ∙ is) })

-- a history and what was read for it are replaced
both_set : (histories : List (History (List Partial))) (readings : List Reading) (group : ℕ) (history : History (List Partial)) (reading : Reading) → AllZip IsReading histories readings → IsReading history reading → AllZip IsReading (slice_set histories group history) (slice_set readings group reading)
both_set [] [] group history reading all is = tt
both_set (first ∷ histories) (own ∷ readings) zero history reading all is = (is, all.1)
both_set (first ∷ histories) (own ∷ readings) (suc group) history reading all is = (all.0, both_set histories readings group history reading all.1 is)
both_set [] (own ∷ readings) group history reading all is = absurd all
both_set (first ∷ histories) [] group history reading all is = absurd all

set_same : {X : Type 0} (xs : List X) (k : ℕ) (x : X) → slice_get xs k ≡ Some x → slice_set xs k x ≡ xs
set_same [] k x there = absurd (none_some x there)
set_same (y ∷ xs) zero x there = ap (λ first. first ∷ xs) (sym (some_is y x there))
set_same (y ∷ xs) (suc k) x there = ap (λ rest. y ∷ rest) (set_same xs k x there)

none_added : (terms : List Term) (n : ℕ) → replicate n None ≡ map (option_map (added_answer terms)) (replicate n None)
none_added terms zero = refl
none_added terms (suc n) = ap (λ rest. None ∷ rest) (none_added terms n)

abbrev histories_of : WorldBooks → List (History (List Partial))
histories_of world = map (λ (book : BookState). book.history) world.books

-- what was read stays
stays_read : (old new : WorldBooks) (before : List Reading) → histories_of new ≡ histories_of old → AreReadings old before → (after : List Reading) × AreReadings new after × (after ≡ before)
stays_read old new before same all = (before, subst (λ histories. AllZip IsReading histories before) (sym same) all, refl)

-- or that of one group is replaced, with its history
replaced : (old new : WorldBooks) (before : List Reading) (group : ℕ) (history : History (List Partial)) (reading : Reading) → histories_of new ≡ slice_set (histories_of old) group history → AreReadings old before → IsReading history reading
    → (after : List Reading) × AreReadings new after × (after ≡ slice_set before group reading)
replaced old new before group history reading now all is = (
  slice_set before group reading,
  subst (λ histories. AllZip IsReading histories (slice_set before group reading)) (sym now) (both_set (histories_of old) before group history reading all is),
  refl,
)

-- a history with a shard's lines, which add up to its partials
shown-added : (terms : List Term) (opened : OpenEvaluation TermLines) (number place : ℕ) (lines : TermLines) → with_shown number place (added_up terms lines) (added_open terms opened) ≡ added_open terms (with_shown number place lines opened)
shown-added terms opened number place lines = λ i. record { t = opened.t; gathered = sym (map-set (option_map (added_answer terms)) opened.gathered number (Some (record { place = place; shown = lines }))) i }

-- where no lines stood for a group's evaluation, none do after its history changed
unread : (old new : WorldBooks) (before : List Reading) (group : ℕ) (history : History (List Partial)) → histories_of new ≡ slice_set (histories_of old) group history → AreReadings old before → slice_get before group ≡ Some None
    → (after : List Reading) × AreReadings new after × StaysUnread before group after
unread old new before group history now all none =
    let done = replaced old new before group history None now all tt in
    (done.0, done.1, (none, done.2 ∙ set_same before group None none))

module _ (old new : WorldBooks) (before : List Reading) (group number place : ℕ) (turn : IsGathered old group number place new) (all : AreReadings old before) where
  abbrev asked_history : History (List Partial)
  asked_history = turn.asked.book.history

  abbrev asked_terms : List Term
  asked_terms = group_terms asked_history.group

  abbrev asked_shard : ShardView
  asked_shard = turn.decided.before

  abbrev Gathers : Type 0
  Gathers = (after : List Reading) × AreReadings new after × (Reads old before group number place after ⊎ AnswersByWindows old before group number after ⊎ StaysUnread before group after)

  asked_there : slice_get (histories_of old) group ≡ Some asked_history
  asked_there = slice_get-map (λ (b : BookState). b.history) old.books group ∙ ap (option_map (λ (b : BookState). b.history)) turn.asked.there

  now_gathered : histories_of new ≡ slice_set (histories_of old) group (gathered asked_history number place turn.partials)
  now_gathered = ap (map (λ (b : BookState). b.history)) turn.kept ∙ map-set (λ (b : BookState). b.history) old.books group (with_history turn.asked.book (gathered asked_history number place turn.partials))

  -- the shard read, and its lines join those that were read before
  joined_lines : AreReadFor asked_shard.streams asked_shard.requests asked_terms turn.asked.opened.t turn.partials → OpenReading before group asked_terms turn.asked.opened → Gathers
  joined_lines read found =
      let shard = asked_shard in
      let terms = asked_terms in
      let behind = lines_read shard turn.asked.opened.t terms turn.partials read in
      let is =
      ap (option_map (with_shown number place turn.partials)) turn.asked.open_is
      ∙ (λ i. Some (with_shown number place (behind.added i) (found.keeps i)))
      ∙ ap (λ (o : OpenEvaluation (List Partial)). Some o) (shown-added terms found.lines number place behind.lines) in
      let done = replaced old new before group (gathered asked_history number place turn.partials) (Some (with_shown number place behind.lines found.lines)) now_gathered all is in (
        done.0,
        done.1,
        inl (record {
          shard = shard;
          shard_there = turn.decided.there;
          history = asked_history;
          there = asked_there;
          opened = found.lines;
          open_is = found.there;
          lines = behind.lines;
          read = subst (λ t. AllZip (λ (term : Term) lines. AreLinesOf shard.streams.rows shard.requests term.range t lines) terms behind.lines) (ap (λ (o : OpenEvaluation (List Partial)). o.t) found.keeps) behind.read;
          now = done.2;
        }),
      )

  -- or windows answered
  answered_live : IsOfWindows (shard_steps.Collect group asked_terms turn.asked.opened.t) asked_shard.slots → Gathers
  answered_live live =
      let done = replaced old new before group (gathered asked_history number place turn.partials) None now_gathered all tt in (
        done.0,
        done.1,
        inr (inl (record {
          shard = asked_shard;
          shard_there = turn.decided.there;
          history = asked_history;
          there = asked_there;
          opened = turn.asked.opened;
          open_is = turn.asked.open_is;
          live = live;
          now = done.2;
        })),
      )

  -- so the shard read or not, and lines stood for the evaluation or not
  gather_read : Gathers
  gather_read = by turn.decided.as_said.read (open_reading before group asked_history turn.asked.opened (reading_at (histories_of old) before group asked_history all asked_there) turn.asked.open_is)
    where
      by : IsOfWindows (shard_steps.Collect group asked_terms turn.asked.opened.t) asked_shard.slots ⊎ AreReadFor asked_shard.streams asked_shard.requests asked_terms turn.asked.opened.t turn.partials → OpenOrUnread before group asked_terms turn.asked.opened → Gathers
      by (inl live) found = answered_live live
      by (inr read) (inl found) = joined_lines read found
      by (inr read) (inr none) = let left = unread old new before group (gathered asked_history number place turn.partials) now_gathered all none in (left.0, left.1, inr (inr left.2))

-- an evaluation that is committed is one on what was read for it, if lines stand for it
module _ (old new : WorldBooks) (before : List Reading) (group : ℕ) (answer : Committed) (turn : CommitTurn partials (world_of old.shards old.books) group answer (world_of new.shards new.books)) (all : AreReadings old before) where
  abbrev Commits : Type 0
  Commits = (after : List Reading) × AreReadings new after × (CommitsReading old before group answer after ⊎ StaysUnread before group after)

  now_committed : histories_of new ≡ slice_set (histories_of old) group (committed turn.history answer.evaluation)
  now_committed = ap (λ (w : WorldState (List Partial)). w.histories) turn.after

  commit_read : Commits
  commit_read = by (open_reading before group turn.history turn.opened (reading_at (histories_of old) before group turn.history all turn.there) turn.open_is)
    where
      by : OpenOrUnread before group (group_terms turn.history.group) turn.opened → Commits
      by (inl found) =
          let history = turn.history in
          let done = replaced old new before group (committed history answer.evaluation) None now_committed all tt in (
            done.0,
            done.1,
            inl (record {
              history = history;
              there = turn.there;
              opened = found.lines;
              open_is = found.there;
              evaluation_is = turn.evaluation_is ∙ ap (evaluation_from history.group (alerts_of history)) found.keeps ∙ added_evaluation history.group (alerts_of history) found.lines;
              now = done.2;
            }),
          )
      by (inr none) = let left = unread old new before group (committed turn.history answer.evaluation) now_committed all none in (left.0, left.1, inr left.2)

-- what is kept of a history changes, with what was read for its group
changed_read : (old new : WorldBooks) (before : List Reading) (group : ℕ) (reading : Reading) (change : History (List Partial) → History (List Partial)) → HistoryTurn change (world_of old.shards old.books) group (world_of new.shards new.books)
    → ((history : History (List Partial)) → IsReading (change history) reading) → AreReadings old before → (after : List Reading) × AreReadings new after × (after ≡ slice_set before group reading)
changed_read old new before group reading change turn is all = replaced old new before group (change turn.history) reading (ap (λ (w : WorldState (List Partial)). w.histories) turn.after) all (is turn.history)

-- a refused step leaves all as it was
refused_read : (old new : WorldBooks) (step : Step) (reply : Reply) (refusal : Refusal) (before : List Reading) → reply ≡ replies.Refused refusal → Turned old step reply new → AreReadings old before → (after : List Reading) × AreReadings new after × (after ≡ before)
refused_read old new step reply refusal before is turn all = stays_read old new before (ap (λ (w : WorldState (List Partial)). w.histories) (turn.refused refusal is).1) all

-- what one turn makes of what was read
abbrev ReadOn : WorldBooks → List Reading → Step → Reply → WorldBooks → Type 0
ReadOn old before step reply new = (after : List Reading) × AreReadings new after × ReadTurn old before step reply after

read_turn : (old : WorldBooks) (step : Step) (reply : Reply) (new : WorldBooks) (before : List Reading) → Turned old step reply new → AreReadings old before → ReadOn old before step reply new
read_turn old (steps.Shard number step) (replies.Refused refusal) new before turn all = refused_read old new (steps.Shard number step) (replies.Refused refusal) refusal before refl turn all
read_turn old (steps.Edit group to) (replies.Refused refusal) new before turn all = refused_read old new (steps.Edit group to) (replies.Refused refusal) refusal before refl turn all
read_turn old (steps.Begin group t) (replies.Refused refusal) new before turn all = refused_read old new (steps.Begin group t) (replies.Refused refusal) refusal before refl turn all
read_turn old (steps.Gather group number) (replies.Refused refusal) new before turn all = refused_read old new (steps.Gather group number) (replies.Refused refusal) refusal before refl turn all
read_turn old (steps.Commit group) (replies.Refused refusal) new before turn all = refused_read old new (steps.Commit group) (replies.Refused refusal) refusal before refl turn all
read_turn old (steps.Abandon group) (replies.Refused refusal) new before turn all = refused_read old new (steps.Abandon group) (replies.Refused refusal) refusal before refl turn all
read_turn old (steps.CatchUp group) (replies.Refused refusal) new before turn all = refused_read old new (steps.CatchUp group) (replies.Refused refusal) refusal before refl turn all
read_turn old (steps.Shard number step) (replies.Decided place reply) new before turn all = stays_read old new before (ap (map (λ (b : BookState). b.history)) turn.stores.1) all
read_turn old (steps.Edit group to) (replies.Edited place) new before turn all =
    let edit = (turn.on_kept refl).1 in
    replaced old new before group (edited edit.history to) None (ap (λ (w : WorldState (List Partial)). w.histories) edit.after) all tt
read_turn old (steps.Begin group t) replies.Begun new before turn all =
    let shards = length (map journalled old.shards) in
    let none = ap (λ n. Some (record { t = t; gathered = replicate n None })) (length-map old.shards journalled) in
    let done = changed_read old new before group (Some (record { t = t; gathered = replicate shards None })) (λ history. begun shards history t) (turn.on_kept refl).1
    (λ history. λ i. Some (record { t = t; gathered = none_added (group_terms history.group) shards i })) all in
    (done.0, done.1, done.2 ∙ ap (slice_set before group) none)
read_turn old (steps.Gather group number) (replies.Gathered place) new before turn all = gather_read old new before group number place turn.stores all
read_turn old (steps.Commit group) (replies.Committed answer) new before turn all = commit_read old new before group answer (turn.on_kept refl).1 all
read_turn old (steps.Abandon group) replies.Abandoned new before turn all = changed_read old new before group None abandoned (turn.on_kept refl).1 (λ history. tt) all
read_turn old (steps.CatchUp group) (replies.CaughtUp behind) new before turn all =
    let kept = (turn.on_kept refl).1 in
    stays_read old new before (ap (λ (w : WorldState (List Partial)). w.histories) kept.after ∙ set_same (histories_of old) group kept.history kept.there) all
read_turn old (steps.Shard number step) reply new before turn all = absurd turn.stores
read_turn old (steps.Gather group number) reply new before turn all = absurd turn.stores
read_turn old step reply new before turn all = absurd (turn.on_kept refl).1

-- a run over any stores leads from what was read before to what was read after
pub ran_reading : (old : WorldBooks) (steps : List Step) (replies : List Reply) (new : WorldBooks) → Ran old steps replies new → ReadsThrough old steps replies new
ran_reading old [] [] new run before all = (before, subst (λ world. AreReadings world before) (sym run) all, (run, refl))
ran_reading old (step ∷ steps) (reply ∷ replies) new run before all =
    let first = read_turn old step reply run.0 before run.1 all in
    let rest = ran_reading run.0 steps replies new run.2 first.0 first.1 in
    (rest.0, rest.1, (run.0, first.0, run.1, first.2, rest.2))
ran_reading old [] (reply ∷ replies) new run before all = absurd run
ran_reading old (step ∷ steps) [] new run before all = absurd run
