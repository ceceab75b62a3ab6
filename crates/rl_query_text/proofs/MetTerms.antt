-- The tokens of a query have a pattern exactly where the query has one.
use Rattle.std.proofs.Common.{◌≡◌, ℕ, zero, suc, Bool, false, ◌||◌, List, [], ◌∷◌, Option, Some, None, refl, sym, subst, inl, inr}
use Rattle.std.proofs.Math.Bool.{or-false, and-false}
use Rattle.std.specs.Option.{option_map_or}
use Rattle.rl_query.specs.declared.aggregation.Grouping.{Grouping}
use Rattle.rl_query.specs.declared.aggregation.Grouping.TheVariants as groupings
use Rattle.rl_query.specs.declared.aggregation.VectorOperator.{VectorOperator}
use Rattle.rl_query.specs.declared.aggregation.VectorOperator.TheVariants as aggregations
use Rattle.rl_query.specs.declared.query.RangeFunction.{RangeFunction}
use Rattle.rl_query.specs.declared.token.Lexeme.{Lexeme}
use Rattle.rl_query.specs.declared.token.Token.TheVariants as tokens
use Rattle.rl_query.specs.Form.{AggregationForm, StageForm, RangeForm, TermForm, ThresholdForm, QueryForm, stages_have_pattern, range_has_pattern, query_has_pattern}
use Rattle.rl_query.specs.Limits.{most_parentheses}
use Rattle.rl_query.specs.Tables.{comparison_sign}
use Rattle.rl_query_text.proofs.QueryProductions.{quotient_term}
use Rattle.rl_selector_text.specs.Grammar.{matchers_tokens}
use Rattle.rl_query_text.specs.RangeGrammar.{IsTimed}
use Rattle.rl_selector_text.specs.Lexing.{lexemes_of}
use Rattle.rl_selector_text.specs.Meeting.{has_pattern_token}
use Rattle.rl_query_text.specs.TermGrammar.{names_tokens, IsGrouping, IsParameter, InParentheses, IsTerm, IsQuotient, IsThreshold, IsQuery, Derives}
use Rattle.rl_selector_text.proofs.MetPatterns.{Have, Meets, all_met, matchers_have, stages_meet, stands, then, then_none}

timed_meets : (depth : ℕ) (stages : List StageForm) (seconds : ℕ) {lexemes rest : List Lexeme} → IsTimed depth stages seconds lexemes rest → Meets (stages_have_pattern stages) lexemes rest
timed_meets depth stages seconds (inl is) = then_none (stages_meet depth stages is.1.chained) (stands (_ ∷ _ ∷ _ ∷ []) (refl, refl) is.2.stand)
timed_meets depth stages seconds (inr is) = then (stands (_ ∷ _ ∷ _ ∷ []) (refl, refl) is.1.stand) (stages_meet depth stages is.2.chained)

-- Terms and queries.

names_have : (names : List (List ℕ)) → Have (names_tokens names) false
names_have [] = (refl, refl)
names_have (name ∷ []) = (refl, refl)
names_have (name ∷ other ∷ others) = names_have (other ∷ others)

grouping_meets : (grouping : Grouping) {lexemes rest : List Lexeme} → IsGrouping grouping lexemes rest → Meets false lexemes rest
grouping_meets groupings.All is = stands [] (refl, refl) is.0
grouping_meets (groupings.By names) is = stands (_ ∷ _ ∷ names_tokens names) (names_have names) is.0
grouping_meets (groupings.Without names) is = stands (_ ∷ _ ∷ names_tokens names) (names_have names) is.0

parameter_meets : (operator : VectorOperator) {lexemes rest : List Lexeme} → IsParameter operator lexemes rest → Meets false lexemes rest
parameter_meets (aggregations.Topk k) is = stands (_ ∷ _ ∷ []) (refl, refl) is.1
parameter_meets _ same = stands [] (refl, refl) same

parentheses_meet : {p : Bool} {Inside : List Lexeme → List Lexeme → Type 0} {lexemes rest : List Lexeme} → ((following end : List Lexeme) → Inside following end → Meets p following end) → InParentheses Inside lexemes rest → Meets p lexemes rest
parentheses_meet inside is = then (stands (_ ∷ []) (refl, refl) is.opened) (then_none (inside is.following is.end is.inside) (stands (_ ∷ []) (refl, refl) is.closed))

term_meets : (depth : ℕ) (aggregations : List AggregationForm) (function : RangeFunction) (range : RangeForm) (lexemes rest : List Lexeme) → IsTerm depth (record { aggregations = aggregations; function = function; range = range }) lexemes rest → Meets (range_has_pattern range) lexemes rest
term_meets zero aggregations function range lexemes rest is = absurd is
term_meets (suc depth) [] function range lexemes rest (inl is) =
    then (stands (_ ∷ []) (refl, refl) is.1) (then (stands (_ ∷ []) (refl, refl) is.2.opened) (then (stands (_ ∷ matchers_tokens range.matchers) (matchers_have range.matchers) is.2.selector.stand)
    (then_none (timed_meets depth range.stages range.seconds is.2.timed) (stands (_ ∷ []) (refl, refl) is.2.closed))))
term_meets (suc depth) (aggregation ∷ aggregations) function range lexemes rest (inl is) =
    then (stands (_ ∷ []) (refl, refl) is.word) (then (grouping_meets is.front is.grouped) (then (stands (_ ∷ []) (refl, refl) is.opened) (then (parameter_meets aggregation.operator is.parameter)
    (then_none (term_meets depth aggregations function range is.after_parameter is.end is.inside) (then (stands (_ ∷ []) (refl, refl) is.closed) (grouping_meets is.back is.grouped_after))))))
term_meets (suc depth) aggregations function range lexemes rest (inr is) = parentheses_meet (term_meets depth aggregations function range) is

abbrev patterned : TermForm → Option TermForm → Bool
patterned left over = range_has_pattern left.range || option_map_or (λ term. range_has_pattern term.range) over false

quotient_meets : (depth : ℕ) (left : TermForm) (over : Option TermForm) (lexemes rest : List Lexeme) → IsQuotient depth left over lexemes rest → Meets (patterned left over) lexemes rest
quotient_meets depth left None lexemes rest is =
    subst (λ b. Meets b lexemes rest) (sym (or-false _)) (term_meets depth left.aggregations left.function left.range lexemes rest (quotient_term depth left lexemes rest is))
quotient_meets zero left (Some over) lexemes rest is = absurd is
quotient_meets (suc depth) left (Some over) lexemes rest (inl is) =
    let dividend = quotient_term (suc depth) left lexemes is.middle is.dividend in
    let divisor = quotient_term (suc depth) over is.following rest is.divisor in
    then (term_meets (suc depth) left.aggregations left.function left.range lexemes is.middle dividend)
    (then (stands (_ ∷ []) (refl, refl) is.slash) (term_meets (suc depth) over.aggregations over.function over.range is.following rest divisor))
quotient_meets (suc depth) left (Some over) lexemes rest (inr is) = parentheses_meet (quotient_meets depth left (Some over)) is

threshold_meets : (test : Option ThresholdForm) {lexemes rest : List Lexeme} → IsThreshold test lexemes rest → Meets false lexemes rest
threshold_meets None same = stands [] (refl, refl) same
threshold_meets (Some threshold) is = stands (tokens.Sign (comparison_sign threshold.comparison) ∷ tokens.Number is.0 ∷ []) (simp and-false, refl) is.1

query_meets : (depth : ℕ) (query : QueryForm) (lexemes rest : List Lexeme) → IsQuery depth query lexemes rest → Meets (query_has_pattern query) lexemes rest
query_meets zero query lexemes rest is = absurd is
query_meets (suc depth) query lexemes rest (inl is) = then_none (quotient_meets (suc depth) query.left query.over lexemes is.0 is.1) (threshold_meets query.test is.2)
query_meets (suc depth) query lexemes rest (inr is) = parentheses_meet (query_meets depth query) is

pub query_patterns : (text : List ℕ) (query : QueryForm) → Derives text query → has_pattern_token false (lexemes_of text) ≡ query_has_pattern query
query_patterns text query derived = all_met text _ derived.following derived.rest (query_meets most_parentheses query (lexemes_of text) derived.following derived.is) derived.end
