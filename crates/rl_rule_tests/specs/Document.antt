-- What a test file has: at the keys of its tables.
use Rattle.std.specs.Prelude.{◌≡◌, ℕ, Bool, true, false, ◌&&◌, IsTrue, zero, suc, ◌+◌, ◌-◌, ◌*◌, ◌^◌, min, ◌/◌, ◌≤◌, ◌==◌, nat_le, ℤ, pos, negsuc, position, is_some, take, drop, List, [], ◌∷◌, ◌++◌, Option, None, Some, Ok, codes, if◌then◌else◌}
use Rattle.std.specs.Option.{MatchOption, option_and_then, option_map, option_map_or, option_or}
use Rattle.std.specs.List.{flat_map, list_any, AllZip}
use denote.Ref.{Bor}
use Rattle.toml.specs.Data.{Data, string, integer, as_array, as_str, as_table, get_member, Members, no_members, member}
use Rattle.rl_labels.specs.Decimals.{DecimalForm, billionths, decimal_of, number_of}
use Rattle.rl_aggregate.specs.declared.outcome.Fraction.{Fraction}
use Rattle.rl_labels.specs.LabelSet.{LabelSet, Pair}
use Rattle.rl_labels.specs.Name.{is_text}
use Rattle.rl_labels.specs.Pairs.{labels_from}
use Rattle.rl_labels.specs.Quantities.{duration_of, duration_value}
use Rattle.rl_rules.specs.Document.{are_tables, tables_at}
use Rattle.rl_rules.specs.Outcomes.{name_label}
use Rattle.rl_rules.specs.Values.{are_texts, name_key, texts_at}
use Rattle.rl_rules.specs.declared.alert.AlertState.{AlertState}
use Rattle.rl_rules.specs.declared.alert.AlertState.TheVariants as states
use Rattle.rl_rules.specs.declared.evaluation.Cause.{Cause}
use Rattle.rl_rules.specs.declared.evaluation.Cause.TheVariants as causes
use Rattle.rl_rules.specs.declared.rule.RuleKind.{RuleKind}
use Rattle.rl_rules.specs.declared.rule.RuleKind.TheVariants as kinds
use Rattle.rl_rule_tests.specs.declared.document.Check.{Check}
use Rattle.rl_rule_tests.specs.declared.document.Document.{Document}
use Rattle.rl_rule_tests.specs.declared.document.Edit.{Edit}
use Rattle.rl_rule_tests.specs.declared.document.Span.{Span}
use Rattle.rl_rule_tests.specs.declared.document.Test.{Test}
use Rattle.rl_rule_tests.specs.declared.part.Steps.{Steps}
use Rattle.rl_rule_tests.specs.declared.lines.TestLine.{TestLine}
use Rattle.rl_rule_tests.specs.declared.lines.Repeat.{Repeat}
use Rattle.rl_rule_tests.specs.declared.lines.Stream.{Stream}
use Rattle.rl_rule_tests.specs.declared.wanted.Wanted.{Wanted}

-- a sum, up to the greatest number of 64 bits
abbrev pub sum_up_to : ℕ → ℕ → ℕ
sum_up_to a b = min (a + b) (2 ^ 64 - 1)

-- the text at a key
abbrev pub text_at : List ℕ → Members → Option (List ℕ)
text_at key table = option_and_then as_str (get_member key table)

-- a table has no other keys than these
abbrev pub has_only : List (List ℕ) → Members → Bool
has_only keys no_members = true
has_only keys (member name value members) = list_any (λ key. is_text key name) keys && has_only keys members

-- what stands at a key that may be missing: nothing where nothing is read, and else the text that is read
abbrev pub IsTextIf : List ℕ → Members → Option (Bor (List ℕ)) → Type 0
IsTextIf key table None = get_member key table ≡ None
IsTextIf key table (Some text) = text_at key table ≡ Some text.now

-- what stands at a key, if something does, is an array of tables
abbrev pub has_tables : List ℕ → Members → Bool
has_tables key table = option_map_or (λ value. option_map_or are_tables (as_array value) false) (get_member key table) true

-- the same of a table of texts
abbrev pub has_texts : List ℕ → Members → Bool
has_texts key table = option_map_or (λ value. option_map_or are_texts (as_table value) false) (get_member key table) true

-- items that are what the tables at a key say, one by one, where nothing but tables stands there
abbrev pub AreItems : {T : Type 0} → (Members → T → Type 0) → List ℕ → Members → List T → Type 0
AreItems Is key table items = IsTrue (has_tables key table) × AllZip Is (tables_at key table) items

-- the longest time, 30 days, in nanoseconds
abbrev pub longest_time : ℕ
longest_time = 2592000000000000

abbrev pub time_within : ℕ → Option ℕ
time_within time = if nat_le time longest_time then Some time else None

-- the nanoseconds of a duration, without a part of one
abbrev pub time_of : List ℕ → Option ℕ
time_of text = option_and_then (λ parts. time_within (duration_value parts / 1000000000)) (duration_of text)

abbrev pub time_at : List ℕ → Members → Option ℕ
time_at key table = option_and_then time_of (text_at key table)

-- the moments from one up to another, each a step after the one before it
pub record IsSteps (table : Members) (steps : Steps) : Type 0 where
  pub last : ℕ
  pub from : time_at (codes "from") table ≡ Some steps.from
  pub to : time_at (codes "to") table ≡ Some last
  pub by : time_at (codes "step") table ≡ Some steps.step
  pub some : 1 ≤ steps.step
  pub not_before : steps.from ≤ last
  pub counted : steps.count ≡ (last - steps.from) / steps.step + 1

-- the pairs, with one more where its name is not among them
abbrev pub with_own : Option Pair → List Pair → List Pair
with_own None pairs = pairs
with_own (Some own) pairs = if list_any (λ pair. is_text pair.0 own.0) pairs then pairs else pairs ++ own ∷ []

-- the label set of the texts at a key, with a label of its own where they leave that out
abbrev pub AreLabels : List ℕ → Option Pair → Members → LabelSet → Type 0
AreLabels key own table labels = IsTrue (has_texts key table) × (labels_from (with_own own (texts_at key table)) ≡ Ok labels)

-- those at a key that may be missing
abbrev pub AreLabelsIf : List ℕ → Members → Option LabelSet → Type 0
AreLabelsIf key table None = get_member key table ≡ None
AreLabelsIf key table (Some labels) = AreLabels key None table labels

abbrev pub state_text : AlertState → List ℕ
state_text states.Pending = codes "pending"
state_text states.Firing = codes "firing"
state_text states.Resolved = codes "resolved"

-- an alert has a state, a sample has none
abbrev pub IsState : RuleKind → Members → Option AlertState → Type 0
IsState kinds.Alerting table (Some state) = text_at (codes "state") table ≡ Some (state_text state)
IsState kinds.Alerting table None = ⊥
IsState kinds.Recording table state = state ≡ None

-- VALUES

abbrev pub whole : ℕ → Fraction
whole number = record { numerator = number; denominator = 1 }

-- a fraction of two numbers, of which the second is not 0
abbrev pub fraction_over : ℕ → ℕ → Option Fraction
fraction_over above below = if below == 0 then None else Some (record { numerator = above; denominator = below })

-- two rows of digits, as `1/5` has them
abbrev pub fraction_of : List ℕ × List ℕ → Option Fraction
fraction_of parts = option_and_then (λ above. option_and_then (fraction_over above) (number_of 19 parts.1)) (number_of 19 parts.0)

-- a decimal as a fraction of a billion
abbrev pub billionths_of : DecimalForm → Fraction
billionths_of decimal = record { numerator = billionths decimal; denominator = 1000000000 }

-- the parts before and after the first slash
abbrev pub cut_at_slash : List ℕ → Option (List ℕ × List ℕ)
cut_at_slash text = option_map (λ offset. (take offset text, drop (offset + 1) text)) (position (λ byte. byte == 47) text)

-- the fraction that a text is: `12`, `0.2` or `1/5`
abbrev pub fraction_in_parts : List ℕ → Option (List ℕ × List ℕ) → Option Fraction
fraction_in_parts text None = option_or (option_map whole (number_of 19 text)) (option_map billionths_of (decimal_of 15 text))
fraction_in_parts text (Some parts) = fraction_of parts

abbrev pub fraction_in : List ℕ → Option Fraction
fraction_in text = fraction_in_parts text (cut_at_slash text)

abbrev pub whole_in : ℤ → Option Fraction
whole_in (pos number) = Some (whole number)
whole_in (negsuc number) = None

-- the number that a value is, if it is one
abbrev pub value_of : Data → Option Fraction
value_of (integer number) = whole_in number
value_of (string text) = fraction_in text
value_of _ = None

-- WHAT IS WANTED

-- the keys of a row that is wanted, of rules of a kind
abbrev pub wanted_keys : RuleKind → List (List ℕ)
wanted_keys kinds.Alerting = codes "state" ∷ codes "labels" ∷ codes "value" ∷ codes "annotations" ∷ []
wanted_keys kinds.Recording = codes "labels" ∷ codes "value" ∷ []

-- a row that is wanted of rules of a kind with a name
pub record IsWanted (kind : RuleKind) (rule : List ℕ) (table : Members) (row : Wanted) : Type 0 where
  pub known : IsTrue (has_only (wanted_keys kind) table)
  pub labels : AreLabels (codes "labels") (Some (name_label kind, rule)) table row.labels
  pub state : IsState kind table row.state
  pub value : option_map (λ number. number.fraction) row.value ≡ option_and_then value_of (get_member (codes "value") table)
  pub value_read : is_some row.value ≡ is_some (get_member (codes "value") table)
  pub annotations : AreLabelsIf (codes "annotations") table row.annotations

abbrev pub cause_text : Cause → List ℕ
cause_text causes.PipelineError = codes "PipelineError"
cause_text causes.SameLabels = codes "SameLabels"
cause_text causes.LimitExceeded = codes "LimitExceeded"

-- why a rule is wanted to fail, if it is
abbrev pub IsCauseIf : Members → Option Cause → Type 0
IsCauseIf table None = get_member (codes "failed") table ≡ None
IsCauseIf table (Some cause) = text_at (codes "failed") table ≡ Some (cause_text cause)

-- the keys of a check, of rules of a kind
abbrev pub check_keys : RuleKind → List (List ℕ)
check_keys kind = codes "at" ∷ name_key kind ∷ codes "group" ∷ codes "wanted" ∷ codes "failed" ∷ []

-- what is wanted of the rules of a name
pub record IsCheck (kind : RuleKind) (rule : List ℕ) (table : Members) (check : Check) : Type 0 where
  pub known : IsTrue (has_only (check_keys kind) table)
  pub of_kind : check.kind ≡ kind
  pub name : text_at (name_key kind) table ≡ Some check.name.now
  pub group : IsTextIf (codes "group") table check.group
  pub at : time_at (codes "at") table ≡ Some check.at
  pub failed : IsCauseIf table check.failed
  pub rows : AreItems (IsWanted kind check.name.now) (codes "wanted") table check.wanted.items

-- TESTS

-- the keys of moments at which groups are evaluated
abbrev pub span_keys : List (List ℕ)
span_keys = codes "group" ∷ codes "from" ∷ codes "to" ∷ codes "step" ∷ []

-- when groups are evaluated
pub record IsSpan (kind : RuleKind) (rule : List ℕ) (table : Members) (span : Span) : Type 0 where
  pub known : IsTrue (has_only span_keys table)
  pub group : IsTextIf (codes "group") table span.group
  pub steps : IsSteps table span.steps

-- the keys of an edit
abbrev pub edit_keys : List (List ℕ)
edit_keys = codes "at" ∷ codes "rules" ∷ []

-- a rule file, whose groups are not read yet
pub record IsEdit (kind : RuleKind) (rule : List ℕ) (table : Members) (edit : Edit) : Type 0 where
  pub known : IsTrue (has_only edit_keys table)
  pub at : time_at (codes "at") table ≡ Some edit.at
  pub rules : text_at (codes "rules") table ≡ Some edit.rules.now
  pub unread : edit.groups.items ≡ []

-- how often a line stands at each moment, once where that is not given
abbrev pub IsTimes : Option Data → ℕ → Type 0
IsTimes None times = times ≡ 1
IsTimes (Some value) times = (value ≡ integer (pos times)) × (1 ≤ times) × (times ≤ 1000)

-- the keys of lines that repeat
abbrev pub repeat_keys : List (List ℕ)
repeat_keys = codes "from" ∷ codes "to" ∷ codes "step" ∷ codes "line" ∷ codes "times" ∷ []

-- moments of a stream at which lines repeat
pub record IsRepeat (kind : RuleKind) (rule : List ℕ) (table : Members) (repeat : Repeat) : Type 0 where
  pub known : IsTrue (has_only repeat_keys table)
  pub steps : IsSteps table repeat.steps
  pub times : IsTimes (get_member (codes "times") table) repeat.times
  pub line : text_at (codes "line") table ≡ Some repeat.line.now

-- the line with a number, from 0, of those at the moment with an index: the last has the moment itself, and each one before it a
-- nanosecond less
abbrev pub line_at : Repeat → (index number : ℕ) → TestLine
line_at repeat index number = record { moment = sum_up_to repeat.steps.from (min (index * repeat.steps.step) (2 ^ 64 - 1)); before = repeat.times - number - 1; number = Some (sum_up_to index 1); text = repeat.line }

abbrev pub lines_from : Repeat → (index number left : ℕ) → List TestLine
lines_from repeat index number zero = []
lines_from repeat index number (suc left) = line_at repeat index number ∷ lines_from repeat index (number + 1) left

abbrev pub lines_at : Repeat → ℕ → List TestLine
lines_at repeat index = lines_from repeat index 0 repeat.times

abbrev pub repeated_from : Repeat → (index left : ℕ) → List TestLine
repeated_from repeat index zero = []
repeated_from repeat index (suc left) = lines_at repeat index ++ repeated_from repeat (index + 1) left

-- the lines that stand for a repeated one, moment after moment
abbrev pub repeated_lines : Repeat → List TestLine
repeated_lines repeat = repeated_from repeat 0 repeat.steps.count

-- the keys of a stream
abbrev pub stream_keys : List (List ℕ)
stream_keys = codes "labels" ∷ codes "late" ∷ codes "lines" ∷ codes "repeat" ∷ []

-- the time at a key that may be missing, or none
abbrev pub IsTimeIf : List ℕ → Members → ℕ → Type 0
IsTimeIf key table time = MatchOption (get_member key table) (time ≡ 0) (λ _. time_at key table ≡ Some time)

-- a stream before its repeated lines are written out; which ones `lines` stands for is not specified
pub record IsUnexpanded (kind : RuleKind) (rule : List ℕ) (table : Members) (stream : Stream) : Type 0 where
  pub known : IsTrue (has_only stream_keys table)
  pub labels : AreLabels (codes "labels") None table stream.labels
  pub late : IsTimeIf (codes "late") table stream.late
  pub repeats : AreItems (IsRepeat kind rule) (codes "repeat") table stream.repeats.items

-- the repeated lines follow the others
pub record IsExpansion (old new : Stream) : Type 0 where
  pub labels : new.labels ≡ old.labels
  pub late : new.late ≡ old.late
  pub lines : new.lines.items ≡ old.lines.items ++ flat_map repeated_lines old.repeats.items

-- a stream with all of its lines
abbrev pub IsStream : RuleKind → List ℕ → Members → Stream → Type 0
IsStream kind rule table stream = (unexpanded : Stream) × IsUnexpanded kind rule table unexpanded × IsExpansion unexpanded stream

-- the checks of a test: first those of alerts, then those of samples
pub record AreChecks (rule : List ℕ) (table : Members) (checks : List Check) : Type 0 where
  pub alerts : List Check
  pub samples : List Check
  pub both : checks ≡ alerts ++ samples
  pub of_alerts : AreItems (IsCheck kinds.Alerting rule) (codes "alerts") table alerts
  pub of_samples : AreItems (IsCheck kinds.Recording rule) (codes "samples") table samples

-- the keys of a test
abbrev pub test_keys : List (List ℕ)
test_keys = codes "name" ∷ codes "streams" ∷ codes "evaluate" ∷ codes "edits" ∷ codes "alerts" ∷ codes "samples" ∷ []

pub record IsTest (kind : RuleKind) (rule : List ℕ) (table : Members) (test : Test) : Type 0 where
  pub known : IsTrue (has_only test_keys table)
  pub name : text_at (codes "name") table ≡ Some test.name.now
  pub streams : AreItems (IsStream kind rule) (codes "streams") table test.streams.items
  pub spans : AreItems (IsSpan kind rule) (codes "evaluate") table test.spans.items
  pub edits : AreItems (IsEdit kind rule) (codes "edits") table test.edits.items
  pub checks : AreChecks rule table test.checks.items

-- the keys of a test file
abbrev pub document_keys : List (List ℕ)
document_keys = codes "rules" ∷ codes "tests" ∷ []

-- a test file
pub record IsDocument (table : Members) (document : Document) : Type 0 where
  pub known : IsTrue (has_only document_keys table)
  pub rules : text_at (codes "rules") table ≡ Some document.rules.now
  pub tests : AreItems (IsTest kinds.Alerting []) (codes "tests") table document.tests.items

-- items that are what tables say, after others
abbrev pub AreAppended : {T : Type 0} → (Members → T → Type 0) → List Members → List T → List T → Type 0
AreAppended {T} Is tables old new = (more : List T) × (new ≡ old ++ more) × AllZip Is tables more
