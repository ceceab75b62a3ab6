-- What is printed of a term is derived.
use Rattle.std.proofs.Common.{inl, ◌≡◌, ℕ, zero, suc, ◌+◌, ◌-◌, ◌≤◌, Bool, true, ◌&&◌, List, [], ◌∷◌, ◌++◌, codes, length, refl, arith, append_assoc, subst}
use Rattle.std.specs.List.{list_all}
use Rattle.std.specs.Fmt.{decimal}
use Rattle.std.proofs.lemmas.Bool.{and_parts, leb-true}
use Rattle.rl_labels.specs.Name.{is_name}
use Rattle.rl_query.specs.declared.aggregation.Grouping.{Grouping}
use Rattle.rl_query.specs.declared.aggregation.Grouping.TheVariants as groupings
use Rattle.rl_query.specs.declared.aggregation.VectorOperator.{VectorOperator}
use Rattle.rl_query.specs.declared.aggregation.VectorOperator.TheVariants as operators
use Rattle.rl_query.specs.declared.query.RangeFunction.{RangeFunction}
use Rattle.rl_query.specs.declared.query.RangeFunction.TheVariants as functions
use Rattle.rl_query.specs.declared.token.Sign.TheVariants as signs
use Rattle.rl_query.specs.declared.token.Token.TheVariants as tokens
use Rattle.rl_query.specs.Aggregations.{is_operator, is_grouping}
use Rattle.rl_query.specs.Form.{AggregationForm, RangeForm, TermForm, has_real_form, is_nested, parsers_of}
use Rattle.rl_query_text.specs.RangeGrammar.{IsRange}
use Rattle.rl_query.specs.Limits.{longest_range, most_aggregations, most_depth, most_parentheses}
use Rattle.rl_query.specs.Printing.{range_text, names_text, grouping_text, parameter_text, aggregation_text, term_text}
use Rattle.rl_selector_text.specs.Standing.{Stand, is_matcher, Rule}
use Rattle.rl_query.specs.Tables.{function_text, operator_word}
use Rattle.rl_query_text.specs.TermGrammar.{names_tokens, IsGrouping, IsParameter, IsAggregation, IsTerm}
use Rattle.rl_selector_text.proofs.Printed.{Prints, Stops, prints_none, prints_as, then_prints, before_space, regrouped, opens, closes, selector_prints, token_then, done, spaced, lone}
use Rattle.rl_query_text.proofs.PrintedRange.{duration_prints}
use Rattle.rl_selector_text.proofs.PrintedStages.{is_stage, stages_print}
use Rattle.rl_query_text.proofs.Numbers.{top_number, top_again}

-- an aggregation's operator and its grouping are such
abbrev pub is_aggregation : AggregationForm → Bool
is_aggregation aggregation = is_operator aggregation.operator && is_grouping aggregation.grouping

-- what the form of a range keeps of its limits
pub record KeepsRange (depth : ℕ) (range : RangeForm) : Type 0 where
  pub matchers : list_all is_matcher range.matchers ≡ true
  pub real : has_real_form range.matchers ≡ true
  pub stages : list_all (is_stage depth) range.stages ≡ true
  pub one_parser : parsers_of range.stages ≤ 1
  pub in_range : (1 ≤ range.seconds) × (range.seconds ≤ longest_range)

-- and that of a term
pub record KeepsTerm (term : TermForm) : Type 0 where
  pub proper : list_all is_aggregation term.aggregations ≡ true
  pub nested : is_nested term ≡ true
  pub range : KeepsRange (most_depth - length term.aggregations) term.range

-- names up to the closing parenthesis
names_print : (names : List (List ℕ)) (rest : List ℕ) → list_all is_name names ≡ true → Prints (Stand (names_tokens names)) (names_text names ++ 41 ∷ rest) rest
names_print [] rest named = closes rest
names_print (name ∷ []) rest named = regrouped name [] (41 ∷ rest) (token_then (tokens.Word name) _ ((and_parts (is_name name) true named).0, refl) (closes rest))
names_print (name ∷ other ∷ others) rest named =
    let parts = and_parts (is_name name) (list_all is_name (other ∷ others)) named in
    regrouped name _ (41 ∷ rest) (token_then (tokens.Word name) _ (parts.0, refl) (token_then (tokens.Sign signs.Comma) _ refl (spaced (names_print (other ∷ others) rest parts.1))))

-- a word and names in parentheses, after a space and before one
grouped_prints : (word : List ℕ) (names : List (List ℕ)) (rest : List ℕ) → is_name word ≡ true → list_all is_name names ≡ true
    → Prints (Stand (tokens.Word word ∷ tokens.Sign signs.OpenParenthesis ∷ names_tokens names)) (32 ∷ (word ++ 32 ∷ 40 ∷ ((names_text names ++ 41 ∷ 32 ∷ []) ++ rest))) rest
grouped_prints word names rest is_word named =
    spaced (token_then (tokens.Word word) _ (is_word, refl) (spaced (token_then (tokens.Sign signs.OpenParenthesis) _ (lone 40 _ refl (λ _. refl) _)
    (regrouped (names_text names) (41 ∷ 32 ∷ []) rest (before_space rest (names_print names (32 ∷ rest) named))))))

grouping_prints : (grouping : Grouping) (rest : List ℕ) → is_grouping grouping ≡ true → Prints (IsGrouping grouping) (grouping_text grouping ++ rest) rest
grouping_prints groupings.All rest named = prints_none rest (λ _. (refl, refl))
grouping_prints (groupings.By names) rest named = prints_as (grouped_prints (codes "by") names rest refl named) (λ a b stand. (stand, named))
grouping_prints (groupings.Without names) rest named = prints_as (grouped_prints (codes "without") names rest refl named) (λ a b stand. (stand, named))

parameter_prints : (operator : VectorOperator) (rest : List ℕ) → is_operator operator ≡ true → Prints (IsParameter operator) (parameter_text operator ++ rest) rest
parameter_prints (operators.Topk k) rest proper =
    regrouped (decimal k) (codes ", ") rest (prints_as (before_space rest (token_then (tokens.Number (decimal k)) _ (top_number k proper, refl) (token_then (tokens.Sign signs.Comma) _ refl done)))
    (λ a b stand. (decimal k, stand, top_again k proper)))
parameter_prints _ rest proper = prints_none rest (λ _. refl)

-- an aggregation of what is printed of something
aggregation_prints : {Inside : Rule} (aggregation : AggregationForm) (inside rest : List ℕ) → is_aggregation aggregation ≡ true → Prints Inside inside (41 ∷ rest) → Prints (IsAggregation Inside aggregation) (aggregation_text aggregation ++ inside) rest
aggregation_prints aggregation inside rest proper prints =
    let parts = and_parts (is_operator aggregation.operator) (is_grouping aggregation.grouping) proper in
    let named = elim aggregation.operator as (λ o. is_name (operator_word o) ≡ true) [ operators.Sum ↦ refl | _ ↦ refl ] in
    let stops = elim aggregation.grouping as (λ g. Stops (grouping_text g ++ 40 ∷ (parameter_text aggregation.operator ++ inside))) [ groupings.All ↦ refl | _ ↦ refl ] in
    let opened = then_prints (opens _) (then_prints (parameter_prints aggregation.operator inside parts.0) (then_prints prints (closes rest))) in
    simp append_assoc (prints_as (then_prints (token_then (tokens.Word (operator_word aggregation.operator)) _ (named, stops) done) (then_prints (grouping_prints aggregation.grouping _ parts.1) opened))
    (λ a b is. record { after_word = is.0; after_grouping = is.2.0; after_parenthesis = is.2.2.0; after_parameter = is.2.2.2.0; end = is.2.2.2.2.0; after_end = b; front = aggregation.grouping; back = groupings.All; word = is.1; grouped = is.2.1; opened = is.2.2.1; parameter = is.2.2.2.1; inside = is.2.2.2.2.1; closed = is.2.2.2.2.2; grouped_after = (refl, refl); one_side = inl (refl, refl) }))

-- a range in its parentheses
range_prints : (depth : ℕ) (range : RangeForm) (rest : List ℕ) → KeepsRange depth range → Prints (IsRange depth range) (40 ∷ (range_text range ++ 41 ∷ rest)) rest
range_prints depth range rest keeps =
    let timed = then_prints (stages_print depth range.stages _ keeps.stages refl) (duration_prints range.seconds (41 ∷ rest) keeps.in_range) in
    simp append_assoc (prints_as (then_prints (opens _) (then_prints (selector_prints range.matchers _ keeps.matchers keeps.real) (then_prints timed (closes rest))))
    (λ a b is. record { after_parenthesis = is.0; after_selector = is.2.0; after_duration = is.2.2.0; opened = is.1; selector = is.2.1; timed = inl (is.2.2.1.0, record { chained = is.2.2.1.1; one_parser = keeps.one_parser }, is.2.2.1.2); closed = is.2.2.2 }))

-- a term of these aggregations around a range aggregation
abbrev around : List AggregationForm → RangeFunction → RangeForm → TermForm
around aggregations function range = record { aggregations = aggregations; function = function; range = range }

-- each aggregation opens a parenthesis
nest_prints : (depth inner : ℕ) (aggregations : List AggregationForm) (function : RangeFunction) (range : RangeForm) (rest : List ℕ) → depth ≡ length aggregations + inner → list_all is_aggregation aggregations ≡ true → KeepsRange inner range
    → Prints (IsTerm (suc depth) (around aggregations function range)) (term_text (around aggregations function range) ++ rest) rest
nest_prints depth inner [] function range rest same proper keeps =
    let deep : inner ≡ depth = omega arith in
    let named = elim function as (λ f. is_name (function_text f) ≡ true) [ functions.Rate ↦ refl | _ ↦ refl ] in
    let is : function_text function ++ 40 ∷ (range_text range ++ 41 ∷ rest) ≡ term_text (around [] function range) ++ rest = simp append_assoc in
    subst (λ text. Prints (IsTerm (suc depth) (around [] function range)) text rest) is (prints_as (then_prints (token_then (tokens.Word (function_text function)) _ (named, refl) done)
    (range_prints depth range rest (rw deep at keeps))) (λ a b is. inl is))
nest_prints zero inner (aggregation ∷ aggregations) function range rest same proper keeps = absurd (omega (arith, same))
nest_prints (suc depth) inner (aggregation ∷ aggregations) function range rest same proper keeps =
    let parts = and_parts (is_aggregation aggregation) (list_all is_aggregation aggregations) proper in
    let text = term_text (around aggregations function range) in
    let inside = nest_prints depth inner aggregations function range (41 ∷ rest) (omega (arith, same)) parts.1 keeps in
    regrouped (aggregation_text aggregation ++ text) (41 ∷ []) rest (regrouped (aggregation_text aggregation) text (41 ∷ rest) (prints_as (aggregation_prints aggregation (text ++ 41 ∷ rest) rest parts.0 inside) (λ a b is. inl is)))

-- a term with the parentheses that there may be
pub term_prints : (term : TermForm) (rest : List ℕ) → KeepsTerm term → Prints (IsTerm most_parentheses term) (term_text term ++ rest) rest
term_prints term rest keeps =
    nest_prints most_depth (most_depth - length term.aggregations) term.aggregations term.function term.range rest
    (omega (arith, leb-true (length term.aggregations) most_aggregations keeps.nested)) keeps.proper keeps.range
