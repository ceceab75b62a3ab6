-- Queries with one form are one, and each keeps its limits.
use Rattle.rl_query.specs.Stages.{count_label_tests, in_both}
use Rattle.rl_query.specs.Limits.{most_aggregations, most_depth}
use Rattle.rl_query.specs.Aggregations.{is_operator, is_threshold}
use Rattle.rl_query.specs.Form.{label_tests, stage_form, range_form, aggregation_form, TermForm, term_form, threshold_form, query_form}
use Rattle.std.proofs.lemmas.Bool.{le-leb, and_from}
use Rattle.std.proofs.Common.{◌≡◌, ℕ, ◌+◌, ◌-◌, true, Option, None, Some, subst, append-nil, ◌++◌, sym, [], map, length, ◌∙◌, arith}
use Rattle.std.proofs.lemmas.List.{length-map}
use Rattle.std.specs.List.{list_all}
use Rattle.std.specs.Option.{IfSome, option_map}
use Rattle.rl_query.specs.declared.query.Query.{Query}
use Rattle.rl_query.specs.declared.query.Term.{Term}
use Rattle.rl_query.specs.Printing.{term_text, query_text}
use Rattle.rl_selector_text.proofs.Items.{real_forms}
use Rattle.rl_selector_text.proofs.PrintedStages.{is_stage}
use Rattle.rl_query_text.proofs.PrintedTerm.{is_aggregation, KeepsRange, KeepsTerm}
use Rattle.rl_query_text.proofs.PrintedQuery.{Keeps}
use Rattle.std.proofs.lemmas.List.Folds.{list_all-map}
use Rattle.rl_query.proofs.SameForms.{all_forms, label_forms, parser_forms}
use Rattle.rl_selector_text.proofs.Proper.{all_proper, shallow_proper}

-- a term keeps its limits
keeps_term : (t : Term) → KeepsTerm (term_form t)
keeps_term t =
    let deep = most_depth - length t.aggregations in
    let as_many = length-map t.aggregations aggregation_form in
    let range : KeepsRange deep (range_form t.range) = record {
      matchers = all_proper t.range.selector.matchers;
      real = real_forms t.range.selector.matchers ∙ t.range.selector.real;
      stages = list_all-map (is_stage deep) stage_form t.range.stages ∙ (λ i. list_all (λ s. shallow_proper deep s i) t.range.stages) ∙ t.shallow;
      one_parser = omega (arith, parser_forms t.range.stages, t.range.one_parser);
      in_range = t.range.in_range;
    } in
    record {
      proper = all_forms is_aggregation aggregation_form (λ a. and_from (is_operator a.operator) _ a.proper a.named) t.aggregations;
      nested = le-leb (length (map aggregation_form t.aggregations)) most_aggregations (omega (arith, as_many, t.nested));
      range = subst (λ n. KeepsRange (most_depth - n) (range_form t.range)) (sym as_many) range;
    }

both_forms : (of_form : TermForm → ℕ) (count : Term → ℕ) → ((t : Term) → of_form (term_form t) ≡ count t) → (left : Term) (over : Option Term) → in_both of_form (term_form left) (option_map term_form over) ≡ in_both count left over
both_forms of_form count same left None = λ i. same left i + 0
both_forms of_form count same left (Some over) = λ i. same left i + same over i

-- a query keeps its limits
pub keeps_limits : (q : Query) → Keeps (query_form q)
keeps_limits q = record {
  left = keeps_term q.left;
  over = elim q.over as (λ o. IfSome (option_map term_form o) KeepsTerm) [ None ↦ tt | Some t ↦ keeps_term t ];
  test = elim q.test as (λ o. IfSome (option_map threshold_form o) (λ f. is_threshold f.value ≡ true)) [ None ↦ tt | Some t ↦ t.proper ];
  few = omega (arith, q.few, both_forms (λ f. length f.range.stages) (λ t. length t.range.stages) (λ t. length-map t.range.stages stage_form) q.left q.over);
  few_tests = omega (arith, q.few_tests, both_forms (λ f. label_tests f.range.stages) (λ t. count_label_tests t.range.stages) (λ t. label_forms t.range.stages) q.left q.over);
}

-- a term as a query, whose text it has
abbrev pub as_query : Term → Query
as_query term = record { left = term; over = None; test = None; few = omega (arith, term.range.few); few_tests = omega (arith, term.range.few_tests) }

pub text_as_query : (term : Term) → query_text (query_form (as_query term)) ≡ term_text (term_form term)
text_as_query term = let text = term_text (term_form term) in append-nil (text ++ []) ∙ append-nil text
