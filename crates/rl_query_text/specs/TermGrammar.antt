-- The grammar of terms and queries, over their tokens and apart from how they are read. A depth is how many parentheses may be open at once.
use Rattle.std.specs.Prelude.{◌≡◌, ◌⊎◌, ℕ, zero, suc, ◌≤◌, true, List, [], ◌∷◌, Option, Some, None, codes}
use Rattle.rl_query.specs.declared.aggregation.Grouping.{Grouping}
use Rattle.rl_query.specs.declared.aggregation.Grouping.TheVariants as groupings
use Rattle.rl_query.specs.declared.aggregation.VectorOperator.{VectorOperator}
use Rattle.rl_query.specs.declared.aggregation.VectorOperator.TheVariants as operators
use Rattle.rl_query.specs.declared.query.RangeFunction.{RangeFunction}
use Rattle.rl_query.specs.declared.token.Lexeme.{Lexeme}
use Rattle.rl_query.specs.declared.token.Sign.TheVariants as signs
use Rattle.rl_query.specs.declared.token.Token.{Token}
use Rattle.rl_query.specs.declared.token.Token.TheVariants as tokens
use Rattle.rl_query.specs.Aggregations.{is_grouping, threshold_of, top_of}
use Rattle.rl_query.specs.Form.{AggregationForm, RangeForm, TermForm, ThresholdForm, QueryForm, all_stages, all_label_tests, are_nested}
use Rattle.rl_query_text.specs.RangeGrammar.{IsRange}
use Rattle.rl_selector_text.specs.Lexing.{lexemes_of}
use Rattle.rl_query.specs.Limits.{most_parentheses, most_stages, most_tests}
use Rattle.rl_selector_text.specs.Standing.{Stand, Rule}
use Rattle.rl_query.specs.Tables.{comparison_sign, function_text, operator_word}

-- "(" what is inside ")"
pub record InParentheses (Inside : Rule) (lexemes rest : List Lexeme) : Type 0 where
  pub following : List Lexeme
  pub end : List Lexeme
  pub opened : Stand (tokens.Sign signs.OpenParenthesis ∷ []) lexemes following
  pub inside : Inside following end
  pub closed : Stand (tokens.Sign signs.CloseParenthesis ∷ []) end rest

-- names joined by commas, or none, up to the closing parenthesis
abbrev pub names_tokens : List (List ℕ) → List Token
names_tokens [] = tokens.Sign signs.CloseParenthesis ∷ []
names_tokens (name ∷ []) = tokens.Word name ∷ tokens.Sign signs.CloseParenthesis ∷ []
names_tokens (name ∷ other ∷ others) = tokens.Word name ∷ tokens.Sign signs.Comma ∷ names_tokens (other ∷ others)

-- by (names), without (names), or nothing
abbrev pub grouping_tokens : Grouping → List Token
grouping_tokens groupings.All = []
grouping_tokens (groupings.By names) = tokens.Word (codes "by") ∷ tokens.Sign signs.OpenParenthesis ∷ names_tokens names
grouping_tokens (groupings.Without names) = tokens.Word (codes "without") ∷ tokens.Sign signs.OpenParenthesis ∷ names_tokens names

abbrev pub IsGrouping : Grouping → Rule
IsGrouping grouping lexemes rest = Stand (grouping_tokens grouping) lexemes rest × (is_grouping grouping ≡ true)

-- the number of samples that topk keeps, and a comma; the others have none
abbrev pub IsParameter : VectorOperator → Rule
IsParameter (operators.Topk k) lexemes rest = (number : List ℕ) × Stand (tokens.Number number ∷ tokens.Sign signs.Comma ∷ []) lexemes rest × (top_of number ≡ Some k)
IsParameter _ lexemes rest = lexemes ≡ rest

-- the grouping stands before the parentheses or after them
abbrev pub OneSide : (before following grouping : Grouping) → Type 0
OneSide before following grouping = ((before ≡ grouping) × (following ≡ groupings.All)) ⊎ ((before ≡ groupings.All) × (following ≡ grouping))

-- operator [grouping] "(" [number ","] what is inside ")" [grouping]
pub record IsAggregation (Inside : Rule) (aggregation : AggregationForm) (lexemes rest : List Lexeme) : Type 0 where
  pub after_word : List Lexeme
  pub after_grouping : List Lexeme
  pub after_parenthesis : List Lexeme
  pub after_parameter : List Lexeme
  pub end : List Lexeme
  pub after_end : List Lexeme
  pub front : Grouping
  pub back : Grouping
  pub word : Stand (tokens.Word (operator_word aggregation.operator) ∷ []) lexemes after_word
  pub grouped : IsGrouping front after_word after_grouping
  pub opened : Stand (tokens.Sign signs.OpenParenthesis ∷ []) after_grouping after_parenthesis
  pub parameter : IsParameter aggregation.operator after_parenthesis after_parameter
  pub inside : Inside after_parameter end
  pub closed : Stand (tokens.Sign signs.CloseParenthesis ∷ []) end after_end
  pub grouped_after : IsGrouping back after_end rest
  pub one_side : OneSide front back aggregation.grouping

abbrev pub TermRule : Type 1
TermRule = TermForm → Rule

-- function range, or a vector aggregation of a term
abbrev pub IsBare : (depth : ℕ) (Inside : TermRule) → List AggregationForm → RangeFunction → RangeForm → Rule
IsBare depth Inside [] function range lexemes rest = (following : List Lexeme) × Stand (tokens.Word (function_text function) ∷ []) lexemes following × IsRange depth range following rest
IsBare depth Inside (aggregation ∷ aggregations) function range lexemes rest = IsAggregation (Inside (record { aggregations = aggregations; function = function; range = range })) aggregation lexemes rest

-- such a term, or a term in parentheses
abbrev pub IsTerm : (depth : ℕ) → TermRule
IsTerm zero term lexemes rest = ⊥
IsTerm (suc depth) term lexemes rest = IsBare depth (IsTerm depth) term.aggregations term.function term.range lexemes rest ⊎ InParentheses (IsTerm depth term) lexemes rest

-- a term and the term that it is divided by, if there is one
abbrev pub QuotientRule : Type 1
QuotientRule = TermForm → Option TermForm → Rule

-- a term, or a quotient in parentheses
abbrev pub IsOperand : (depth : ℕ) (Inside : QuotientRule) → QuotientRule
IsOperand depth Inside left None lexemes rest = IsTerm depth left lexemes rest ⊎ InParentheses (Inside left None) lexemes rest
IsOperand depth Inside left (Some over) lexemes rest = InParentheses (Inside left (Some over)) lexemes rest

-- operand "/" operand, neither of which is divided
pub record IsDivided (depth : ℕ) (Inside : QuotientRule) (left over : TermForm) (lexemes rest : List Lexeme) : Type 0 where
  pub middle : List Lexeme
  pub following : List Lexeme
  pub dividend : IsOperand depth Inside left None lexemes middle
  pub slash : Stand (tokens.Sign signs.Slash ∷ []) middle following
  pub divisor : IsOperand depth Inside over None following rest

-- an operand, or two
abbrev pub IsQuotientIn : (depth : ℕ) (Inside : QuotientRule) → QuotientRule
IsQuotientIn depth Inside left None lexemes rest = IsOperand depth Inside left None lexemes rest
IsQuotientIn depth Inside left (Some over) lexemes rest = IsDivided depth Inside left over lexemes rest ⊎ IsOperand depth Inside left (Some over) lexemes rest

abbrev pub IsQuotient : (depth : ℕ) → QuotientRule
IsQuotient zero left over lexemes rest = ⊥
IsQuotient (suc depth) left over lexemes rest = IsQuotientIn (suc depth) (IsQuotient depth) left over lexemes rest

-- a comparison and a number, or nothing
abbrev pub IsThreshold : Option ThresholdForm → Rule
IsThreshold None lexemes rest = lexemes ≡ rest
IsThreshold (Some threshold) lexemes rest = (number : List ℕ) × Stand (tokens.Sign (comparison_sign threshold.comparison) ∷ tokens.Number number ∷ []) lexemes rest × (threshold_of number ≡ Some threshold.value)

-- a quotient and its threshold
abbrev pub IsTested : (depth : ℕ) → QueryForm → Rule
IsTested depth query lexemes rest = (following : List Lexeme) × IsQuotient depth query.left query.over lexemes following × IsThreshold query.test following rest

-- or a query in parentheses
abbrev pub IsQuery : (depth : ℕ) → QueryForm → Rule
IsQuery zero query lexemes rest = ⊥
IsQuery (suc depth) query lexemes rest = IsTested (suc depth) query lexemes rest ⊎ InParentheses (IsQuery depth query) lexemes rest

-- a query and nothing after it, with no more stages, label tests and vector aggregations than there may be
pub record Derives (text : List ℕ) (query : QueryForm) : Type 0 where
  pub following : List Lexeme
  pub rest : List Lexeme
  pub is : IsQuery most_parentheses query (lexemes_of text) following
  pub end : Stand (tokens.End ∷ []) following rest
  pub few : all_stages query ≤ most_stages
  pub few_tests : all_label_tests query ≤ most_tests
  pub nested : are_nested query ≡ true
