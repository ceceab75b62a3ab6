-- The tables of query texts: signs, comparisons, aggregations, escapes and units.
use Rattle.std.specs.Prelude.{ℕ, ◌==◌, List, [], ◌∷◌, Option, Some, None, if◌then◌else◌, codes}
use Rattle.std.specs.List.{find}
use Rattle.rl_labels.specs.Name.{is_text}
use Rattle.rl_plain.specs.Escapes.{Escapes}
use Rattle.rl_query.specs.declared.quantity_test.Comparison.{Comparison}
use Rattle.rl_query.specs.declared.quantity_test.Comparison.TheVariants as comparisons
use Rattle.rl_query.specs.declared.query.RangeFunction.{RangeFunction}
use Rattle.rl_query.specs.declared.query.RangeFunction.TheVariants as functions
use Rattle.rl_query.specs.declared.aggregation.VectorOperator.{VectorOperator}
use Rattle.rl_query.specs.declared.aggregation.VectorOperator.TheVariants as vectors
use Rattle.rl_query.specs.declared.token.Sign.{Sign}
use Rattle.rl_query.specs.declared.token.Sign.TheVariants as signs

-- a sign as it is written
abbrev pub sign_text : Sign → List ℕ
sign_text signs.OpenBrace = codes "{"
sign_text signs.CloseBrace = codes "}"
sign_text signs.OpenParenthesis = codes "("
sign_text signs.CloseParenthesis = codes ")"
sign_text signs.OpenBracket = codes "["
sign_text signs.CloseBracket = codes "]"
sign_text signs.Comma = codes ","
sign_text signs.Colon = codes ":"
sign_text signs.Equal = codes "="
sign_text signs.EqualTo = codes "=="
sign_text signs.NotEqual = codes "!="
sign_text signs.Matches = codes "=~"
sign_text signs.NotMatches = codes "!~"
sign_text signs.Greater = codes ">"
sign_text signs.GreaterOrEqual = codes ">="
sign_text signs.Less = codes "<"
sign_text signs.LessOrEqual = codes "<="
sign_text signs.Pipe = codes "|"
sign_text signs.Contains = codes "|="
sign_text signs.ContainsMatch = codes "|~"
sign_text signs.ContainsPattern = codes "|>"
sign_text signs.LacksPattern = codes "!>"
sign_text signs.Slash = codes "/"
sign_text signs.Plus = codes "+"
sign_text signs.Minus = codes "-"
sign_text signs.Times = codes "*"
sign_text signs.Percent = codes "%"
sign_text signs.Power = codes "^"
sign_text signs.At = codes "@"

-- the sign that two bytes are
abbrev pub two_bytes : ℕ → ℕ → Option Sign
two_bytes first second =
    if first == 61 then (if second == 61 then Some signs.EqualTo else (if second == 126 then Some signs.Matches else None))
    else (if first == 33 then (if second == 61 then Some signs.NotEqual else (if second == 126 then Some signs.NotMatches else (if second == 62 then Some signs.LacksPattern else None)))
    else (if first == 62 then (if second == 61 then Some signs.GreaterOrEqual else None)
    else (if first == 60 then (if second == 61 then Some signs.LessOrEqual else None)
    else (if first == 124 then (if second == 61 then Some signs.Contains else (if second == 126 then Some signs.ContainsMatch else (if second == 62 then Some signs.ContainsPattern else None)))
    else None))))

-- the sign that a byte is
abbrev pub one_byte : ℕ → Option Sign
one_byte byte =
    if byte == 123 then Some signs.OpenBrace else (if byte == 125 then Some signs.CloseBrace else (if byte == 40 then Some signs.OpenParenthesis
    else (if byte == 41 then Some signs.CloseParenthesis else (if byte == 91 then Some signs.OpenBracket else (if byte == 93 then Some signs.CloseBracket
    else (if byte == 44 then Some signs.Comma else (if byte == 58 then Some signs.Colon else (if byte == 61 then Some signs.Equal else (if byte == 62 then Some signs.Greater
    else (if byte == 60 then Some signs.Less else (if byte == 124 then Some signs.Pipe else (if byte == 47 then Some signs.Slash else (if byte == 43 then Some signs.Plus
    else (if byte == 45 then Some signs.Minus else (if byte == 42 then Some signs.Times else (if byte == 37 then Some signs.Percent else (if byte == 94 then Some signs.Power
    else (if byte == 64 then Some signs.At else None))))))))))))))))))

-- the comparison that a sign is in a label test
abbrev pub comparison_of : Sign → Option Comparison
comparison_of signs.Equal = Some comparisons.Equal
comparison_of signs.EqualTo = Some comparisons.Equal
comparison_of signs.NotEqual = Some comparisons.NotEqual
comparison_of signs.Greater = Some comparisons.Greater
comparison_of signs.GreaterOrEqual = Some comparisons.GreaterOrEqual
comparison_of signs.Less = Some comparisons.Less
comparison_of signs.LessOrEqual = Some comparisons.LessOrEqual
comparison_of _ = None

-- and the sign that is printed
abbrev pub comparison_sign : Comparison → Sign
comparison_sign comparisons.Equal = signs.EqualTo
comparison_sign comparisons.NotEqual = signs.NotEqual
comparison_sign comparisons.Greater = signs.Greater
comparison_sign comparisons.GreaterOrEqual = signs.GreaterOrEqual
comparison_sign comparisons.Less = signs.Less
comparison_sign comparisons.LessOrEqual = signs.LessOrEqual

-- the word of a range aggregation
abbrev pub function_text : RangeFunction → List ℕ
function_text functions.CountOverTime = codes "count_over_time"
function_text functions.Rate = codes "rate"
function_text functions.BytesOverTime = codes "bytes_over_time"
function_text functions.BytesRate = codes "bytes_rate"
function_text functions.AbsentOverTime = codes "absent_over_time"

abbrev pub all_functions : List RangeFunction
all_functions = functions.CountOverTime ∷ functions.Rate ∷ functions.BytesOverTime ∷ functions.BytesRate ∷ functions.AbsentOverTime ∷ []

-- the range aggregation whose word it is
abbrev pub function_with_text : List ℕ → Option RangeFunction
function_with_text word = find (λ function. is_text word (function_text function)) all_functions

-- the word of a vector aggregation
abbrev pub operator_word : VectorOperator → List ℕ
operator_word vectors.Sum = codes "sum"
operator_word vectors.Count = codes "count"
operator_word vectors.Min = codes "min"
operator_word vectors.Max = codes "max"
operator_word (vectors.Topk k) = codes "topk"

-- those without a number of samples
abbrev pub plain_operators : List VectorOperator
plain_operators = vectors.Sum ∷ vectors.Count ∷ vectors.Min ∷ vectors.Max ∷ []

-- the one of them whose word it is
abbrev pub plain_operator : List ℕ → Option VectorOperator
plain_operator word = find (λ operator. is_text word (operator_word operator)) plain_operators

-- what is escaped between quotes: a backslash, a quote, a newline, a carriage return and a tab
abbrev pub escapes : Escapes
escapes = (92, 92) ∷ (34, 34) ∷ (10, 110) ∷ (13, 114) ∷ (9, 116) ∷ []

-- the seconds of a unit, and its rank, from the longest down
abbrev pub unit_of : ℕ → Option (ℕ × ℕ)
unit_of byte =
    if byte == 119 then Some (604800, 1) else (if byte == 100 then Some (86400, 2) else (if byte == 104 then Some (3600, 3)
    else (if byte == 109 then Some (60, 4) else (if byte == 115 then Some (1, 5) else None))))
