-- Which label sets a matcher accepts and a selector selects.
use Rattle.std.specs.Prelude.{Bool, true, false, not, ◌||◌, List}
use Rattle.std.specs.List.{list_all}
use Rattle.rl_labels.specs.LabelSet.{LabelSet, value_of}
use Rattle.rl_labels.specs.Operators.{passes, is_by_pattern}
use Rattle.rl_labels.specs.declared.matcher.Matcher.{Matcher}

-- the value of the matcher's label passes, where a missing label reads as the empty text
abbrev pub accepts : Matcher → LabelSet → Bool
accepts matcher labels = passes matcher.op matcher.value (value_of labels matcher.name)

-- every matcher accepts the label set
abbrev pub selects : List Matcher → LabelSet → Bool
selects matchers labels = list_all (λ matcher. accepts matcher labels) matchers

-- no matcher has a pattern
abbrev pub are_by_text : List Matcher → Bool
are_by_text matchers = list_all (λ matcher. not (is_by_pattern matcher.op)) matchers

-- the matcher has a pattern, or has none, as is asked
abbrev pub compares_so : (by_pattern : Bool) → Matcher → Bool
compares_so true matcher = is_by_pattern matcher.op
compares_so false matcher = not (is_by_pattern matcher.op)

-- every matcher that has a pattern, or every one that has none, accepts the label set
abbrev pub selects_by : (by_pattern : Bool) → List Matcher → LabelSet → Bool
selects_by by_pattern matchers labels = list_all (λ matcher. not (compares_so by_pattern matcher) || accepts matcher labels) matchers
