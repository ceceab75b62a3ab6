-- What is read keeps its limits.
use Rattle.std.proofs.Common.{◌≡◌, inl, inr, ⊎_elim, ℕ, zero, suc, ◌+◌, ◌-◌, ◌≤◌, nat_le, true, List, [], ◌∷◌, length, Option, None, Some, IfSome, option_map, arith}
use Rattle.std.proofs.lemmas.Bool.{and_parts, and_from, le-leb, leb-true}
use Rattle.std.proofs.lemmas.List.{length-map}
use Rattle.rl_query.specs.declared.aggregation.Threshold.{Threshold}
use Rattle.rl_query_text.specs.declared.draft.DraftQuery.{DraftQuery}
use Rattle.rl_query_text.specs.declared.draft.DraftTerm.{DraftTerm}
use Rattle.rl_query.specs.declared.query.RangeFunction.{RangeFunction}
use Rattle.rl_query.specs.declared.stages.Stage.{Stage}
use Rattle.rl_query.specs.declared.stages.Stage.TheVariants as kinds
use Rattle.rl_query.specs.declared.token.Lexeme.{Lexeme}
use Rattle.rl_query_text.specs.Drafts.{range_draft, term_draft, query_draft, KeepsTerm, stages_read, tests_read, KeepsQuery}
use Rattle.rl_query.specs.Form.{AggregationForm, RangeForm, TermForm, QueryForm, aggregation_form, stage_form, is_nested}
use Rattle.rl_query_text.specs.RangeGrammar.{IsRange}
use Rattle.rl_selector_text.specs.Grammar.{AreStages}
use Rattle.rl_query.specs.Limits.{longest_range, most_depth, most_parentheses, most_stages, most_tests}
use Rattle.rl_query_text.specs.QueryReading.{whole_room}
use Rattle.rl_query.specs.Stages.{are_shallow}
use Rattle.rl_query_text.specs.TermGrammar.{IsTerm, IsQuotient, IsQuery}
use Rattle.rl_query.specs.TestDepth.{text_depth}
use Rattle.rl_query_text.proofs.QueryProductions.{FitsQuery, IsRoomyQuery, quotient_term}
use Rattle.rl_selector_text.proofs.Proper.{shallow_forms}
use Rattle.rl_query.proofs.SameForms.{parser_forms, label_forms}

-- the range of a term, in the parentheses that its vector aggregations leave
record HasRange (most : ℕ) (term : TermForm) : Type 0 where
  pub deep : ℕ
  pub lexemes : List Lexeme
  pub rest : List Lexeme
  pub is : IsRange deep term.range lexemes rest
  pub within : 1 + deep + length term.aggregations ≤ most

abbrev of_parts : List AggregationForm → RangeFunction → RangeForm → TermForm
of_parts aggregations function range = record { aggregations = aggregations; function = function; range = range }

term_range : (most depth : ℕ) → depth ≤ most → (aggregations : List AggregationForm) (function : RangeFunction) (range : RangeForm) (lexemes rest : List Lexeme)
    → IsTerm depth (of_parts aggregations function range) lexemes rest → HasRange most (of_parts aggregations function range)
term_range most zero le aggregations function range lexemes rest is = absurd is
term_range most (suc depth) le [] function range lexemes rest (inl is) = record { deep = depth; lexemes = is.0; rest = rest; is = is.2; within = omega (arith, le) }
term_range most (suc depth) le (aggregation ∷ aggregations) function range lexemes rest (inl is) =
    let inner = term_range depth depth (omega arith) aggregations function range is.after_parameter is.end is.inside in
    record { deep = inner.deep; lexemes = inner.lexemes; rest = inner.rest; is = inner.is; within = omega (arith, inner.within, le) }
term_range most (suc depth) le aggregations function range lexemes rest (inr p) = term_range most depth (omega (arith, le)) aggregations function range p.following p.end p.inside

lone_range : (most depth : ℕ) → depth ≤ most → (left : TermForm) (lexemes rest : List Lexeme) → IsQuotient depth left None lexemes rest → HasRange most left
lone_range most depth le left lexemes rest is = term_range most depth le left.aggregations left.function left.range lexemes rest (quotient_term depth left lexemes rest is)

-- the ranges of both terms
abbrev HaveRanges : ℕ → TermForm → Option TermForm → Type 0
HaveRanges most left over = HasRange most left × IfSome over (HasRange most)

quotient_ranges : (most depth : ℕ) → depth ≤ most → (left : TermForm) (over : Option TermForm) (lexemes rest : List Lexeme) → IsQuotient depth left over lexemes rest → HaveRanges most left over
quotient_ranges most depth le left None lexemes rest is = (lone_range most depth le left lexemes rest is, tt)
quotient_ranges most zero le left (Some over) lexemes rest is = absurd is
quotient_ranges most (suc depth) le left (Some over) lexemes rest (inl is) =
    (lone_range most (suc depth) le left lexemes is.middle is.dividend, lone_range most (suc depth) le over is.following rest is.divisor)
quotient_ranges most (suc depth) le left (Some over) lexemes rest (inr p) = quotient_ranges most depth (omega (arith, le)) left (Some over) p.following p.end p.inside

query_ranges : (most depth : ℕ) → depth ≤ most → (query : QueryForm) (lexemes rest : List Lexeme) → IsQuery depth query lexemes rest → HaveRanges most query.left query.over
query_ranges most zero le query lexemes rest is = absurd is
query_ranges most (suc depth) le query lexemes rest (inl tested) = quotient_ranges most (suc depth) le query.left query.over lexemes tested.0 tested.1
query_ranges most (suc depth) le query lexemes rest (inr p) = query_ranges most depth (omega (arith, le)) query p.following p.end p.inside

-- what is shallow is so where more parentheses may be open
more_shallow : (few more : ℕ) (stages : List Stage) → few ≤ more → are_shallow few stages ≡ true → are_shallow more stages ≡ true
more_shallow few more [] le h = h
more_shallow few more (kinds.Tests t ∷ stages) le h =
    let parts = and_parts (nat_le (text_depth t) few) (are_shallow few stages) h in
    and_from (nat_le (text_depth t) more) _ (le-leb (text_depth t) more (omega (arith, leb-true (text_depth t) few parts.0, le))) (more_shallow few more stages le parts.1)
more_shallow few more (_ ∷ stages) le h = more_shallow few more stages le h

-- the stages of a range, where they stand, and its seconds
timed : (depth : ℕ) (range : RangeForm) (lexemes rest : List Lexeme) → IsRange depth range lexemes rest
    → (start : List Lexeme) × (end : List Lexeme) × AreStages depth range.stages start end × ((1 ≤ range.seconds) × (range.seconds ≤ longest_range))
timed depth range lexemes rest is = ⊎_elim (λ before. (is.after_selector, before.0, before.1, before.2.in_range)) (λ after. (after.0, is.after_duration, after.2, after.1.in_range)) is.timed

term_keeps : (term : DraftTerm) → HasRange most_parentheses (term_draft term) → is_nested (term_draft term) ≡ true → stages_read term ≤ most_stages → tests_read term ≤ most_tests → KeepsTerm term
term_keeps term has nested few few_tests =
    let stages = term.range.stages.items in
    let read = timed has.deep (range_draft term.range) has.lexemes has.rest has.is in
    let as_many = length-map term.aggregations.items aggregation_form in
    let within : has.deep ≤ most_depth - length term.aggregations.items = omega (arith, has.within, as_many) in
    record {
      range = record { few = few; one_parser = omega (arith, read.2.one_parser, parser_forms stages); few_tests = few_tests; in_range = read.3 };
      nested = omega (arith, leb-true _ _ nested, as_many);
      shallow = more_shallow has.deep (most_depth - length term.aggregations.items) stages within (shallow_forms has.deep stages read.0 read.1 read.2.chained);
    }

parts_keep : (left : DraftTerm) (over : Option DraftTerm) (test : Option Threshold) → HaveRanges most_parentheses (term_draft left) (option_map term_draft over)
    → FitsQuery whole_room (query_draft (record { left = left; over = over; test = test })) → KeepsQuery (record { left = left; over = over; test = test })
parts_keep left None test have fits =
    let few : stages_read left ≤ most_stages = omega (arith, fits, length-map left.range.stages.items stage_form) in
    let few_tests : tests_read left ≤ most_tests = omega (arith, fits, label_forms left.range.stages.items) in
    record { left = term_keeps left have.0 (and_parts (is_nested (term_draft left)) true fits.2).0 few few_tests; over = tt; few = omega (arith, few); few_tests = omega (arith, few_tests) }
parts_keep left (Some over) test have fits =
    let nested = and_parts (is_nested (term_draft left)) (is_nested (term_draft over)) fits.2 in
    let few : stages_read left + stages_read over ≤ most_stages = omega (arith, fits, length-map left.range.stages.items stage_form, length-map over.range.stages.items stage_form) in
    let few_tests : tests_read left + tests_read over ≤ most_tests = omega (arith, fits, label_forms left.range.stages.items, label_forms over.range.stages.items) in
    let keeps : KeepsTerm over = term_keeps over have.1 nested.1 (omega (arith, few)) (omega (arith, few_tests)) in
    record { left = term_keeps left have.0 nested.0 (omega (arith, few)) (omega (arith, few_tests)); over = keeps; few = few; few_tests = few_tests }

-- a query that is read keeps its limits
pub query_keeps : (query : DraftQuery) (lexemes rest : List Lexeme) → IsRoomyQuery whole_room (query_draft query) lexemes rest → KeepsQuery query
query_keeps query lexemes rest roomy = parts_keep query.left query.over query.test (query_ranges most_parentheses most_parentheses (omega arith) (query_draft query) lexemes rest roomy.is) roomy.fits
