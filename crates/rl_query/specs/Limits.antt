-- The limits that a query keeps.
use Rattle.std.specs.Prelude.{ℕ, ◌+◌, min, Bool, true, false, not, ◌||◌, List, [], codes}
use Rattle.std.specs.List.{list_any}
use Rattle.rl_labels.specs.Name.{is_text}
use Rattle.rl_labels.specs.Operators.{passes}
use Rattle.rl_labels.specs.declared.matcher.Matcher.{Matcher}
use Rattle.rl_patterns.specs.Matching.{is_pattern}
use Rattle.rl_query.specs.declared.filter.LineOp.{LineOp}
use Rattle.rl_query.specs.declared.filter.LineOp.TheVariants as lines

-- some matcher refuses the empty text
abbrev pub has_real_matcher : List Matcher → Bool
has_real_matcher matchers = list_any (λ matcher. not (passes matcher.op matcher.value [])) matchers

-- 30 days, in seconds
abbrev pub longest_range : ℕ
longest_range = 2592000

-- a longer range counts as one second above the longest
abbrev pub capped : ℕ → ℕ
capped n = min n (longest_range + 1)

-- the most stages of a text
abbrev pub most_stages : ℕ
most_stages = 256

-- the most label tests of a text
abbrev pub most_tests : ℕ
most_tests = 256

-- the most parentheses that are open at once
abbrev pub most_parentheses : ℕ
most_parentheses = 64

-- the most that label tests have open at once: the one that opens the range counts too
abbrev pub most_depth : ℕ
most_depth = 63

-- the most vector aggregations of a term
abbrev pub most_aggregations : ℕ
most_aggregations = 8

-- a line filter by pattern
abbrev pub is_line_pattern : LineOp → Bool
is_line_pattern lines.Contains = false
is_line_pattern lines.Lacks = false
is_line_pattern lines.Matches = true
is_line_pattern lines.NotMatches = true

-- any text can be looked for, but a pattern has to be one
abbrev pub is_filter : LineOp → List ℕ → Bool
is_filter op text = not (is_line_pattern op) || is_pattern text

-- the words that name no label in a test
abbrev pub is_taken : List ℕ → Bool
is_taken word = is_text word (codes "and") || (is_text word (codes "or") || (is_text word (codes "json") || is_text word (codes "logfmt")))
