-- What is printed of a query is derived.
use Rattle.std.proofs.Common.{inl, ◌≡◌, ℕ, ◌≤◌, true, List, [], ◌∷◌, ◌++◌, Option, None, Some, refl}
use Rattle.std.specs.Option.{IfSome, option_map_or}
use Rattle.std.proofs.lemmas.Bool.{and_parts, and_from}
use Rattle.rl_labels.specs.QuantityTexts.{decimal_text, is_decimal}
use Rattle.rl_query.specs.declared.quantity_test.Quantity.TheVariants as quantities
use Rattle.rl_query.specs.declared.token.Sign.TheVariants as signs
use Rattle.rl_query.specs.declared.token.Token.TheVariants as tokens
use Rattle.rl_query.specs.Aggregations.{is_threshold}
use Rattle.rl_query.specs.Form.{TermForm, ThresholdForm, QueryForm, all_label_tests, all_stages, is_nested}
use Rattle.rl_query.specs.Limits.{most_parentheses, most_stages, most_tests}
use Rattle.rl_query.specs.Printing.{over_text, query_text, term_text, threshold_text}
use Rattle.rl_query.specs.Tables.{comparison_sign, sign_text}
use Rattle.rl_query_text.specs.TermGrammar.{IsQuotient, IsThreshold, Derives}
use Rattle.rl_selector_text.specs.TestGrammar.{ended}
use Rattle.rl_selector_text.proofs.Printed.{Prints, prints_none, prints_as, then_prints, prints_all, spaced, regrouped, token_then, done}
use Rattle.rl_query_text.proofs.PrintedTerm.{KeepsTerm, term_prints}
use Rattle.rl_selector_text.proofs.TestPrinted.{comparison_ends}
use Rattle.rl_selector_text.proofs.QuantityTokens.{quantity_number}
use Rattle.rl_query_text.proofs.Numbers.{threshold_again}

-- what a form keeps of a query's limits
pub record Keeps (query : QueryForm) : Type 0 where
  pub left : KeepsTerm query.left
  pub over : IfSome query.over KeepsTerm
  pub test : IfSome query.test (λ threshold. is_threshold threshold.value ≡ true)
  pub few : all_stages query ≤ most_stages
  pub few_tests : all_label_tests query ≤ most_tests

-- a term, and what it is divided by
quotient_prints : (left : TermForm) (over : Option TermForm) (rest : List ℕ) → KeepsTerm left → IfSome over KeepsTerm → Prints (IsQuotient most_parentheses left over) (term_text left ++ (over_text over ++ rest)) rest
quotient_prints left None rest keeps none = prints_as (term_prints left rest keeps) (λ a b is. inl is)
quotient_prints left (Some over) rest keeps kept =
    prints_as (then_prints (term_prints left _ keeps) (then_prints (spaced (token_then (tokens.Sign signs.Slash) _ refl done)) (spaced (term_prints over rest kept))))
    (λ a b is. inl (record { middle = is.0; following = is.2.0; dividend = inl is.1; slash = is.2.1; divisor = inl is.2.2 }))

-- a comparison and a number, up to the end
threshold_prints : (test : Option ThresholdForm) → IfSome test (λ threshold. is_threshold threshold.value ≡ true) → Prints (IsThreshold test) (threshold_text test ++ []) []
threshold_prints None none = prints_none [] (λ _. refl)
threshold_prints (Some threshold) proper =
    let sign = comparison_sign threshold.comparison in
    let text = decimal_text threshold.value in
    let number = quantity_number (quantities.Number threshold.value) (and_parts (is_decimal threshold.value) _ proper).0 in
    regrouped (32 ∷ (sign_text sign ++ 32 ∷ [])) text [] (regrouped (32 ∷ sign_text sign) (32 ∷ []) (text ++ []) (prints_as (spaced (token_then (tokens.Sign sign) _ (comparison_ends threshold.comparison 32 (text ++ []) refl)
    (spaced (token_then (tokens.Number text) [] (number, refl) done)))) (λ a b stand. (text, stand, threshold_again threshold.value proper))))

-- a printed query is derived
pub query_printed : (query : QueryForm) → Keeps query → Derives (query_text query) query
query_printed query keeps =
    let test = threshold_text query.test in
    let prints = then_prints (quotient_prints query.left query.over (test ++ []) keeps.left keeps.over) (threshold_prints query.test keeps.test) in
    let is = prints_all (query_text query) (regrouped (term_text query.left ++ over_text query.over) test [] (regrouped (term_text query.left) (over_text query.over) (test ++ []) prints)) in
    let over = (elim query.over as (λ o. IfSome o KeepsTerm → option_map_or is_nested o true ≡ true) [ None ↦ λ _. refl | Some term ↦ λ kept. kept.nested ]) keeps.over in
    record { following = ended (query_text query); rest = []; is = inl is; end = (refl, refl); few = keeps.few; few_tests = keeps.few_tests; nested = and_from (is_nested query.left) _ keeps.left.nested over }
