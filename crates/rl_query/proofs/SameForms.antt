-- Queries with one form are one.
use Rattle.rl_query.proofs.SameTests.{same_tests, count_forms}
use Rattle.rl_query.specs.Stages.{tests_in, count_label_tests, are_shallow_in, in_both, is_parser, count_parsers}
use Rattle.rl_query.specs.Limits.{most_aggregations, most_tests, has_real_matcher, is_filter, longest_range, most_stages}
use Rattle.rl_query.specs.Aggregations.{is_grouping, is_operator, is_threshold}
use Rattle.rl_query.specs.Form.{tests_of, label_tests, filter_form, matcher_form, stage_form, parses, parsers_of, range_form, aggregation_form, term_form, threshold_form, query_form}
use Rattle.std.proofs.lemmas.Bool.{and_from}
use Rattle.std.proofs.Common.{◌≡◌, ℕ, ◌+◌, ◌≤◌, true, cond, Option, None, Some, sym, List, [], ◌∷◌, map, length, refl, ap, ◌∙◌, IsTrue, Bool}
use Rattle.std.proofs.lemmas.List.Sums.{sum_by-cons}
use Rattle.std.proofs.Props.{props}
use Rattle.std.specs.List.{list_all, sum_by}
use Rattle.std.specs.Option.{option_map}
use mathlib.Core.HLevel.{is_prop→PathP}
use Rattle.rl_labels.specs.laws.OrderLaws.{same_matcher}
use Rattle.rl_labels.specs.declared.matcher.Matcher.{Matcher}
use Rattle.rl_query.specs.declared.filter.LineFilter.{LineFilter}
use Rattle.rl_query.specs.declared.aggregation.Aggregation.{Aggregation}
use Rattle.rl_query.specs.declared.aggregation.Threshold.{Threshold}
use Rattle.rl_query.specs.declared.query.Query.{Query}
use Rattle.rl_query.specs.declared.query.Term.{Term}
use Rattle.rl_query.specs.declared.query.LogRange.{LogRange}
use Rattle.rl_query.specs.declared.query.Selector.{Selector}
use Rattle.rl_query.specs.declared.stages.Stage.{Stage}
use Rattle.rl_query.specs.declared.stages.Stage.TheVariants as kinds

-- lists of what is one where its forms are
same_map : {A B : Type 0} (form : A → B) → ((x y : A) → form x ≡ form y → x ≡ y) → (xs ys : List A) → map form xs ≡ map form ys → xs ≡ ys
same_map form same (x ∷ xs) (y ∷ ys) e = λ i. same x y (cc) i ∷ same_map form same xs ys (cc) i
same_map form same [] [] e = refl
same_map form same _ _ e = cc

pub same_matchers : (xs ys : List Matcher) → map matcher_form xs ≡ map matcher_form ys → xs ≡ ys
same_matchers = same_map matcher_form (λ x y e. same_matcher x y (ap (λ f. f.name) e) (ap (λ f. f.op) e) (ap (λ f. f.value) e))

pub same_selector : (a b : Selector) → a.matchers ≡ b.matchers → a ≡ b
same_selector a b e = λ i. record { matchers = e i; real = is_prop→PathP (λ j. IsTrue (has_real_matcher (e j))) (λ _. hlevel props) a.real b.real i }

same_filter : (a b : LineFilter) → filter_form a ≡ filter_form b → a ≡ b
same_filter a b e = λ i. record { op = (e i).op; text = (e i).text; comparable = is_prop→PathP (λ j. IsTrue (is_filter (e j).op (e j).text)) (λ _. hlevel props) a.comparable b.comparable i }

pub same_filters : (xs ys : List LineFilter) → map filter_form xs ≡ map filter_form ys → xs ≡ ys
same_filters = same_map filter_form same_filter

same_stage : (a b : Stage) → stage_form a ≡ stage_form b → a ≡ b
same_stage (kinds.Filter a) (kinds.Filter b) e = ap kinds.Filter (same_filter a b (cc))
same_stage (kinds.Tests a) (kinds.Tests b) e = ap kinds.Tests (same_tests a b (cc))
same_stage (kinds.Parser a) (kinds.Parser b) e = let parsers : a ≡ b = cc in ap kinds.Parser parsers
same_stage _ _ e = cc

same_range : (a b : LogRange) → range_form a ≡ range_form b → a ≡ b
same_range a b e =
    let selector = same_selector a.selector b.selector (same_matchers a.selector.matchers b.selector.matchers (ap (λ f. f.matchers) e)) in
    let stages = same_map stage_form same_stage a.stages b.stages (ap (λ f. f.stages) e) in
    let facts = is_prop→PathP (λ j. (length (stages j) ≤ most_stages) × ((count_parsers (stages j) ≤ 1) × ((count_label_tests (stages j) ≤ most_tests) × ((1 ≤ (e j).seconds) × ((e j).seconds ≤ longest_range)))))
    (λ _. hlevel props) (a.few, (a.one_parser, (a.few_tests, a.in_range))) (b.few, (b.one_parser, (b.few_tests, b.in_range))) in
    λ i. record { selector = selector i; stages = stages i; seconds = (e i).seconds; few = (facts i).0; one_parser = (facts i).1.0; few_tests = (facts i).1.1.0; in_range = (facts i).1.1.1 }

same_aggregation : (a b : Aggregation) → aggregation_form a ≡ aggregation_form b → a ≡ b
same_aggregation a b e =
    let facts = is_prop→PathP (λ j. IsTrue (is_operator (e j).operator) × IsTrue (is_grouping (e j).grouping)) (λ _. hlevel props) (a.proper, a.named) (b.proper, b.named) in
    λ i. record { operator = (e i).operator; grouping = (e i).grouping; proper = (facts i).0; named = (facts i).1 }

pub same_term : (a b : Term) → term_form a ≡ term_form b → a ≡ b
same_term a b e =
    let aggregations = same_map aggregation_form same_aggregation a.aggregations b.aggregations (ap (λ f. f.aggregations) e) in
    let range = same_range a.range b.range (ap (λ f. f.range) e) in
    let facts = is_prop→PathP (λ j. (length (aggregations j) ≤ most_aggregations) × IsTrue (are_shallow_in (aggregations j) (range j).stages))
    (λ _. hlevel props) (a.nested, a.shallow) (b.nested, b.shallow) in
    λ i. record { aggregations = aggregations i; function = (e i).function; range = range i; nested = (facts i).0; shallow = (facts i).1 }

same_threshold : (a b : Threshold) → threshold_form a ≡ threshold_form b → a ≡ b
same_threshold a b e = λ i. record { comparison = (e i).comparison; value = (e i).value; proper = is_prop→PathP (λ j. IsTrue (is_threshold (e j).value)) (λ _. hlevel props) a.proper b.proper i }

-- and so with one of them or none
same_option : {A B : Type 0} (form : A → B) → ((x y : A) → form x ≡ form y → x ≡ y) → (a b : Option A) → option_map form a ≡ option_map form b → a ≡ b
same_option form same (Some x) (Some y) e = ap Some (same x y (cc))
same_option form same None None e = refl
same_option form same _ _ e = cc

pub same_query : (a b : Query) → query_form a ≡ query_form b → a ≡ b
same_query a b e =
    let left = same_term a.left b.left (ap (λ f. f.left) e) in
    let over = same_option term_form same_term a.over b.over (ap (λ f. f.over) e) in
    let test = same_option threshold_form same_threshold a.test b.test (ap (λ f. f.test) e) in
    let facts = is_prop→PathP (λ j. (in_both (λ t. length t.range.stages) (left j) (over j) ≤ most_stages) × (in_both (λ t. count_label_tests t.range.stages) (left j) (over j) ≤ most_tests))
    (λ _. hlevel props) (a.few, a.few_tests) (b.few, b.few_tests) in
    λ i. record { left = left i; over = over i; test = test i; few = (facts i).0; few_tests = (facts i).1 }

-- each form passes
pub all_forms : {A B : Type 0} (p : B → Bool) (form : A → B) → ((x : A) → p (form x) ≡ true) → (xs : List A) → list_all p (map form xs) ≡ true
all_forms p form passes [] = refl
all_forms p form passes (x ∷ xs) = and_from (p (form x)) _ (passes x) (all_forms p form passes xs)

-- items and their forms have equal counts
sum_forms : {A B : Type 0} (f : B → ℕ) (g : A → ℕ) (form : A → B) → ((x : A) → f (form x) ≡ g x) → (xs : List A) → sum_by f (map form xs) ≡ sum_by g xs
sum_forms f g form same [] = refl
sum_forms f g form same (x ∷ xs) = sum_by-cons f (form x) (map form xs) ∙ (λ i. same x i + sum_forms f g form same xs i) ∙ sym (sum_by-cons g x xs)

pub label_forms : (ss : List Stage) → label_tests (map stage_form ss) ≡ count_label_tests ss
label_forms = sum_forms tests_of tests_in stage_form (elim [ kinds.Tests t ↦ count_forms t | _ ↦ refl ])

-- stages and their forms count parsers alike
pub parser_forms : (ss : List Stage) → parsers_of (map stage_form ss) ≡ count_parsers ss
parser_forms = sum_forms (λ s. cond (parses s) 1 0) (λ s. cond (is_parser s) 1 0) stage_form (elim [ kinds.Parser p ↦ refl | _ ↦ refl ])
