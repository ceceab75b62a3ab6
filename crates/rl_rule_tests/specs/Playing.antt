-- What happens in a test, played to a ruler: what it is handed, and how many checks pass and fail.
use Rattle.std.specs.Prelude.{◌≡◌, ℕ, ◌-◌, nat_lt, nat_le, Bool, true, false, List, [], ◌∷◌, ◌++◌, map, Option, None, Some, is_none, is_some, is_err, Result, Ok, Err, ⊤, slice_get, if◌then◌else◌}
use Rattle.std.specs.Option.{MatchOption, option_map, option_map_or, option_and_then}
use Rattle.std.specs.List.{list_any}
use Rattle.std.specs.List.Sorted.{IsPermutation, IsSorted}
use Rattle.rl_labels.specs.EntryAnswers.{entry_fault}
use Rattle.rl_labels.specs.LabelSet.{LabelSet}
use Rattle.rl_labels.specs.Name.{is_text}
use Rattle.rl_labels.specs.Quantity.{greatest_moment}
use Rattle.rl_labels.specs.declared.entry.Entry.{Entry}
use Rattle.rl_labels.specs.LimitRanges.{raw_limits}
use Rattle.rl_labels.specs.declared.limits.Limits.{Limits}
use Rattle.rl_labels.specs.declared.limits.RawLimits.{RawLimits}
use Rattle.rl_chunks.specs.StoreState.{Seen}
use Rattle.rl_chunks.specs.declared.mem_store.MemStore.{MemStore}
use Rattle.rl_rules.specs.declared.evaluation.Evaluation.{Evaluation}
use Rattle.rl_rules.specs.declared.rule.Group.{Group}
use Rattle.rl_shard.specs.ShardState.{opened_over}
use Rattle.rl_records.specs.declared.step.ShardReply.{ShardReply}
use Rattle.rl_world.specs.Evaluations.{IsEvaluated}
use Rattle.rl_world.specs.BookCalls.{books_from}
use Rattle.rl_world.specs.WorldState.{WorldBooks}
use Rattle.rl_world.specs.declared.fault.Refusal.{Refusal}
use Rattle.rl_world.specs.declared.step.Committed.{Committed}
use Rattle.rl_session.specs.Engine.{Calls, Listed, number_named}
use Rattle.rl_session.specs.Names.{push_refusal}
use Rattle.rl_session.specs.WorldEngine.{listed, IsEdited, IsPushed}
use Rattle.rl_rule_tests.specs.declared.document.Check.{Check}
use Rattle.rl_rule_tests.specs.declared.document.Edit.{Edit}
use Rattle.rl_rule_tests.specs.declared.document.Span.{Span}
use Rattle.rl_rule_tests.specs.declared.document.Test.{Test}
use Rattle.rl_rule_tests.specs.declared.events.Event.{Event}
use Rattle.rl_rule_tests.specs.declared.events.What.{What}
use Rattle.rl_rule_tests.specs.declared.events.What.TheVariants as whats
use Rattle.rl_rule_tests.specs.declared.playing.Moment.{Moment}
use Rattle.rl_rule_tests.specs.declared.lines.TestLine.{TestLine}
use Rattle.rl_rule_tests.specs.declared.lines.Stream.{Stream}
use Rattle.rl_rule_tests.specs.Counting.{Counts, one_failed, one_failed_if, IsCounted}
use Rattle.rl_rule_tests.specs.Happening.{event_cmp, happenings}
use Rattle.rl_rule_tests.specs.Document.{sum_up_to}
use Rattle.rl_rule_tests.specs.Numbering.{IsNumbered}

-- states one after another, by what each item makes of them
abbrev pub Chain : {S A : Type 0} → (S → A → S → Type 0) → S → List A → S → Type 0
Chain Makes old [] new = new ≡ old
Chain {S} Makes old (item ∷ items) new = (mid : S) × Makes old item mid × Chain Makes mid items new

-- what is asked of a ruler in a test
pub record Ruler (E : Type 0) : Type 1 where
  pub groups : E → List Listed
  pub pushes : E → Entry → Result ShardReply Refusal → E → Type 0
  pub edits : E → ℕ → Group → Result ⊤ Refusal → E → Type 0
  pub evaluates : E → ℕ → ℕ → Result Committed Refusal → E → Type 0

abbrev pub ruler_of : {E : Type 0} → Calls E → Ruler E
ruler_of calls = record { groups = calls.groups; pushes = calls.pushes; edits = calls.edits; evaluates = calls.evaluates }

-- a world as such a ruler
abbrev pub world_ruler : Ruler WorldBooks
world_ruler = record { groups = λ world. map listed world.books; pushes = IsPushed; edits = IsEdited; evaluates = IsEvaluated }

-- a ruler, and what was counted
pub record Counted (E : Type 0) : Type 0 where
  pub engine : E
  pub counts : Counts

-- a test on its way: the ruler, the moment of what happened last, what groups gave at it, and what was counted
pub record Stage (E : Type 0) : Type 0 where
  pub engine : E
  pub at : ℕ
  pub given : List Evaluation
  pub counts : Counts

-- the start of each test, in nanoseconds: 2000-01-01T00:00:00Z
abbrev pub start_of_tests : ℕ
start_of_tests = 946684800000000000

-- a moment of the ruler that lies some nanoseconds before one of the test, unless it is past the greatest
abbrev pub moment_of : ℕ → ℕ → Option ℕ
moment_of at before = if nat_le (sum_up_to start_of_tests at - before) greatest_moment then Some (sum_up_to start_of_tests at - before) else None

-- the text of a line as it is written, and of a repeated one with its number
abbrev pub IsTextOf : TestLine → List ℕ → Type 0
IsTextOf line text = MatchOption line.number (text ≡ line.text.now) (λ number. IsNumbered number line.text.now text)

-- nothing has been given yet at a later moment
abbrev pub arrived : {E : Type 0} → ℕ → Stage E → Stage E
arrived at stage = record { engine = stage.engine; at = if nat_lt stage.at at then at else stage.at; given = if nat_lt stage.at at then [] else stage.given; counts = stage.counts }

-- the line of an event, and its stream
abbrev pub line_of : Stream → ℕ → Option (Stream × TestLine)
line_of stream index = option_map (λ line. (stream, line)) (slice_get stream.lines.items index)

abbrev pub line_at : Test → Event → Option (Stream × TestLine)
line_at test event = option_and_then (λ stream. line_of stream event.line) (slice_get test.streams.items event.number)

-- one of the evaluations is of the group
abbrev pub is_given : List Evaluation → List ℕ → Bool
is_given evaluations name = list_any (λ evaluation. is_text evaluation.group name) evaluations

abbrev pub stage_of : {E : Type 0} → E → Moment → Counts → Stage E
stage_of engine moment counts = record { engine = engine; at = moment.at; given = moment.given.items; counts = counts }

abbrev pub counted : {E : Type 0} → Stage E → Counted E
counted stage = record { engine = stage.engine; counts = stage.counts }

-- the moment, and what was given at it, are as they were
abbrev pub IsStill : {E : Type 0} → Stage E → Stage E → Type 0
IsStill old new = (new.at ≡ old.at) × (new.given ≡ old.given)

-- the check of an event is counted, if there is one
abbrev pub Checks : Option Check → List Evaluation → Counts → Counts → Type 0
Checks None given old new = new ≡ old
Checks (Some check) given old new = IsCounted check given old new

module _ {E : Type 0} (ruler : Ruler E) where
  -- an entry of these parts is handed to the ruler, unless its line is too long; whether it is refused
  abbrev pub IsHandedParts : E → LabelSet → ℕ → List ℕ → Bool → E → Type 0
  IsHandedParts old labels moment text refused new =
      MatchOption (entry_fault labels text)
      ((entry : Entry) × (entry.labels ≡ labels) × (entry.timestamp ≡ moment) × (entry.line ≡ text) × (answer : Result ShardReply Refusal) × ruler.pushes old entry answer new × (refused ≡ is_some (push_refusal answer)))
      (λ _. (refused ≡ true) × (new ≡ old))

  -- a line of a stream is handed to it
  abbrev pub IsHanded : E → Stream × TestLine → Bool → E → Type 0
  IsHanded old line refused new =
      MatchOption (moment_of line.1.moment line.1.before)
      ((refused ≡ true) × (new ≡ old))
      (λ moment. (text : List ℕ) × IsTextOf line.1 text × IsHandedParts old line.0.labels moment text refused new)

  -- a group replaces the one with its name; whether that is refused
  abbrev pub IsPut : E → Group → Bool → E → Type 0
  IsPut old to refused new =
      MatchOption (number_named to.name (ruler.groups old))
      ((refused ≡ true) × (new ≡ old))
      (λ number. (answer : Result ⊤ Refusal) × ruler.edits old number to answer new × (refused ≡ is_err answer))

  abbrev pub PutsGroup : Counted E → Group → Counted E → Type 0
  PutsGroup old to new = (refused : Bool) × IsPut old.engine to refused new.engine × (new.counts ≡ one_failed_if refused old.counts)

  -- what an evaluation gave
  abbrev pub IsGiven : Result Committed Refusal → Stage E → Stage E → Type 0
  IsGiven (Ok committed) old new = (new.given ≡ old.given ++ committed.evaluation ∷ []) × (new.counts ≡ old.counts)
  IsGiven (Err refusal) old new = (new.given ≡ old.given) × (new.counts ≡ one_failed old.counts)

  -- the group at a number is evaluated, unless that was done at this moment
  abbrev pub IsEvaluatedOnce : Stage E → ℕ → ℕ → Bool → Stage E → Type 0
  IsEvaluatedOnce old number moment true new = new ≡ old
  IsEvaluatedOnce old number moment false new = (answer : Result Committed Refusal) × ruler.evaluates old.engine number moment answer new.engine × IsGiven answer old new × (new.at ≡ old.at)

  -- the line of an event, if there is one, is handed in
  abbrev pub HandsLine : Counted E → Option (Stream × TestLine) → Counted E → Type 0
  HandsLine old None new = new ≡ old
  HandsLine old (Some line) new = (refused : Bool) × IsHanded old.engine line refused new.engine × (new.counts ≡ one_failed_if refused old.counts)

  -- the groups of an edit are put, one after another
  abbrev pub PutsGroups : Counted E → Option Edit → Counted E → Type 0
  PutsGroups old None new = new ≡ old
  PutsGroups old (Some edit) new = Chain PutsGroup old edit.groups.items new

  -- the group of an event is evaluated, if both are there
  abbrev pub Evaluates : Stage E → ℕ → Option Group → Option ℕ → Stage E → Type 0
  Evaluates old number (Some group) (Some moment) new = IsEvaluatedOnce old number moment (is_given old.given group.name) new
  Evaluates old number _ _ new = new ≡ old

  -- what an event makes of a test that has come to its moment
  abbrev pub HappensBy : List Group → Test → Stage E → Event → What → Stage E → Type 0
  HappensBy groups test old event whats.Line new = HandsLine (counted old) (line_at test event) (counted new) × IsStill old new
  HappensBy groups test old event whats.Edit new = PutsGroups (counted old) (slice_get test.edits.items event.number) (counted new) × IsStill old new
  HappensBy groups test old event whats.Evaluation new = Evaluates old event.number (slice_get groups event.number) (moment_of event.at 0) new
  HappensBy groups test old event whats.Check new = Checks (slice_get test.checks.items event.number) old.given old.counts new.counts × (new.engine ≡ old.engine) × IsStill old new

  abbrev pub Happens : List Group → Test → Stage E → Event → Stage E → Type 0
  Happens groups test old event new = HappensBy groups test (arrived event.at old) event event.what new

  -- all that happens, from the start of a test on
  abbrev pub PlaysAll : List Group → Test → Counted E → List Event → Counted E → Type 0
  PlaysAll groups test old events new = (end : Stage E) × Chain (Happens groups test) (record { engine = old.engine; at = 0; given = []; counts = old.counts }) events end × (new ≡ counted end)

  -- evaluations that are asked for of a group that is not there
  abbrev pub is_of_nobody : E → Span → Bool
  is_of_nobody engine span = option_map_or (λ name. is_none (number_named name.now (ruler.groups engine))) span.group false

  pub record AsksOfNobody (engine : E) (old : Counts) (span : Span) (new : Counts) : Type 0 where
    pub counted_so : new ≡ one_failed_if (is_of_nobody engine span) old

-- the limits of a ruler for which no others are asked
abbrev pub default_limits : RawLimits
default_limits = record { entries = 67108864; chunk_entries = 1024; chunk_age = 7200; cancel = 86400; keep = 0; cache = 0; records = 1048576; first_blob = 0 }

-- one store in memory
abbrev pub IsOneStore : List MemStore → Type 0
IsOneStore stores = (store : MemStore) × (stores ≡ store ∷ [])

-- a ruler with one shard over an honest store, that holds nothing, and with these groups without sinks
pub record IsFreshRuler (groups : List Group) (world : WorldBooks) : Type 0 where
  pub limits : Limits
  pub limits_are : raw_limits limits ≡ default_limits
  pub seen : Seen
  pub honest : seen.honest ≡ true
  pub shards : world.shards ≡ opened_over limits seen ∷ []
  pub books : world.books ≡ books_from 0 limits.records 1 groups (map (λ _. []) groups)

-- a test is played to such a ruler: all that happens in it, in its order, is handed to it and counted
pub record IsPlayed (groups : List Group) (test : Test) (before after : Counts) : Type 0 where
  pub start : WorldBooks
  pub fresh : IsFreshRuler groups start
  pub asked : Counts
  pub asks : Chain (AsksOfNobody world_ruler start) before test.spans.items asked
  pub events : List Event
  pub all : IsPermutation (happenings groups test) events
  pub in_order : IsSorted event_cmp events
  pub last : WorldBooks
  pub plays : PlaysAll world_ruler groups test (record { engine = start; counts = asked }) events (record { engine = last; counts = after })
