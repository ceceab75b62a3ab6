-- All that happens in a test.
use Rattle.std.specs.Prelude.{ℕ, zero, suc, ◌-◌, ◌*◌, ◌^◌, ◌==◌, ◌/◌, min, max, List, [], ◌∷◌, ◌++◌, map, Option, None, Some, if◌then◌else◌}
use Rattle.std.specs.Option.{option_map_or}
use Rattle.std.specs.List.{enumerate_from, flat_map}
use Rattle.std.specs.Ordering.{nat_cmp, ordering_then}
use Rattle.std.specs.declared.cmp.Ordering.{Ordering}
use Rattle.rl_rules.specs.declared.rule.Group.{Group}
use Rattle.rl_rule_tests.specs.declared.document.Check.{Check}
use Rattle.rl_rule_tests.specs.declared.document.Edit.{Edit}
use Rattle.rl_rule_tests.specs.declared.document.Span.{Span}
use Rattle.rl_rule_tests.specs.declared.document.Test.{Test}
use Rattle.rl_rule_tests.specs.declared.events.Event.{Event}
use Rattle.rl_rule_tests.specs.declared.events.What.{What}
use Rattle.rl_rule_tests.specs.declared.events.What.TheVariants as whats
use Rattle.rl_rule_tests.specs.declared.part.Steps.{Steps}
use Rattle.rl_rule_tests.specs.declared.lines.TestLine.{TestLine}
use Rattle.rl_rule_tests.specs.declared.lines.Stream.{Stream}
use Rattle.rl_rule_tests.specs.Document.{sum_up_to}
use Rattle.rl_rule_tests.specs.Judging.{is_named}

-- a line arrives after its moment by what its stream is late
abbrev pub line_event : ℕ → ℕ → ℕ × TestLine → Event
line_event number late line = record { at = sum_up_to line.1.moment late; what = whats.Line; number = number; line = line.0 }

abbrev pub stream_events : ℕ × Stream → List Event
stream_events stream = map (line_event stream.0 stream.1.late) (enumerate_from 0 stream.1.lines.items)

abbrev pub edit_event : ℕ × Edit → Event
edit_event edit = record { at = edit.1.at; what = whats.Edit; number = edit.0; line = 0 }

abbrev pub check_event : ℕ × Check → Event
check_event check = record { at = check.1.at; what = whats.Check; number = check.0; line = 0 }

-- EVALUATIONS

-- a ruler keeps no more evaluations of a group
abbrev pub most_moments : ℕ
most_moments = 1048576

-- `count` moments from one on, each a step after the one before it
abbrev pub moments_from : (number at step count : ℕ) → List Event
moments_from number at step zero = []
moments_from number at step (suc count) = record { at = at; what = whats.Evaluation; number = number; line = 0 } ∷ moments_from number (sum_up_to at step) step count

abbrev pub moments_of : ℕ → Steps → List Event
moments_of number steps = moments_from number steps.from steps.step (min steps.count most_moments)

abbrev pub no_steps : Steps
no_steps = record { from = 0; step = 0; count = 0 }

-- the moments that a span has for a group with a name
abbrev pub steps_of : List ℕ → Span → Steps
steps_of name span = if is_named span.group name then span.steps else no_steps

-- the later of a moment and one that may be there
abbrev pub later : Option ℕ → ℕ → ℕ
later None at = at
later (Some last) at = max last at

abbrev pub last_after : Option ℕ → List Check → Option ℕ
last_after last [] = last
last_after last (check ∷ checks) = last_after (Some (later last check.at)) checks

-- the last moment at which something is wanted
abbrev pub last_check : List Check → Option ℕ
last_check checks = last_after None checks

-- how often the second goes into the first, not at all where it is 0
abbrev pub quotient : ℕ → ℕ → ℕ
quotient a b = if b == 0 then 0 else a / b

-- an interval of seconds in nanoseconds
abbrev pub step_of : ℕ → ℕ
step_of interval = min (interval * 1000000000) (2 ^ 64 - 1)

-- the start, and the moments by an interval up to the last one at which something is wanted; none where nothing is
abbrev pub interval_steps : ℕ → Option ℕ → Steps
interval_steps interval last = record { from = 0; step = step_of interval; count = option_map_or (λ last. sum_up_to (quotient last (step_of interval)) 1) last 0 }

-- the evaluations of a group: at the moments of spans, or by its interval where there are none
abbrev pub evaluations_of : List Span → List Check → ℕ × Group → List Event
evaluations_of [] checks group = moments_of group.0 (interval_steps group.1.interval (last_check checks))
evaluations_of (span ∷ spans) checks group = flat_map (λ one. moments_of group.0 (steps_of group.1.name one)) (span ∷ spans)

-- ALL OF THEM

-- what happens in a test of groups: lines, edits, evaluations, and looks at what is wanted
abbrev pub happenings : List Group → Test → List Event
happenings groups test =
    flat_map stream_events (enumerate_from 0 test.streams.items)
    ++ map edit_event (enumerate_from 0 test.edits.items)
    ++ flat_map (evaluations_of test.spans.items test.checks.items) (enumerate_from 0 groups)
    ++ map check_event (enumerate_from 0 test.checks.items)

-- at one moment lines come first, then edits, evaluations and checks
abbrev pub rank : What → ℕ
rank whats.Line = 0
rank whats.Edit = 1
rank whats.Evaluation = 2
rank whats.Check = 3

-- the order of what happens: by moment, by what it is, by its number, and by its line
abbrev pub event_cmp : Event → Event → Ordering
event_cmp a b = ordering_then (ordering_then (ordering_then (nat_cmp a.at b.at) (nat_cmp (rank a.what) (rank b.what))) (nat_cmp a.number b.number)) (nat_cmp a.line b.line)
