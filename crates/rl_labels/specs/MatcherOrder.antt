-- The order of label matchers, by name, operator and value.
use Rattle.std.specs.Prelude.{ℕ}
use Rattle.std.specs.Ordering.{nat_cmp, ordering_then}
use Rattle.std.specs.Cmp.Lexicographic.{slice_cmp}
use Rattle.std.specs.declared.cmp.Ordering.{Ordering}
use Rattle.rl_labels.specs.Name.{name_cmp}
use Rattle.rl_labels.specs.declared.matcher.Matcher.{Matcher}
use Rattle.rl_labels.specs.declared.matcher.MatchOp.{MatchOp}
use Rattle.rl_labels.specs.declared.matcher.MatchOp.TheVariants.{Equal, NotEqual, Matches, NotMatches}

-- the operators in their order
abbrev pub operator_index : MatchOp → ℕ
operator_index Equal = 0
operator_index NotEqual = 1
operator_index Matches = 2
operator_index NotMatches = 3

abbrev pub matcher_cmp : Matcher → Matcher → Ordering
matcher_cmp a b = ordering_then (ordering_then (name_cmp a.name b.name) (nat_cmp (operator_index a.op) (operator_index b.op))) (slice_cmp nat_cmp a.value b.value)
