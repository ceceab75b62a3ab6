-- The canonical text of a matcher.
use Rattle.std.specs.Prelude.{ℕ, List, ◌++◌, codes}
use Rattle.rl_labels.specs.declared.matcher.MatchOp.{MatchOp}
use Rattle.rl_labels.specs.declared.matcher.MatchOp.TheVariants as operators
use Rattle.rl_plain.specs.Escapes.{escaped}
use Rattle.rl_query.specs.Tables.{escapes}
use Rattle.rl_query.specs.Form.{MatcherForm}

abbrev pub operator_text : MatchOp → List ℕ
operator_text operators.Equal = codes "="
operator_text operators.NotEqual = codes "!="
operator_text operators.Matches = codes "=~"
operator_text operators.NotMatches = codes "!~"

-- name="value"
abbrev pub matcher_text : MatcherForm → List ℕ
matcher_text matcher = matcher.name ++ operator_text matcher.op ++ codes "\"" ++ escaped escapes matcher.value ++ codes "\""
