-- The vectors of both terms are in order and small, and so are their ratios.
use Rattle.std.proofs.Common.{◌≡◌, ◌<◌, List, length, get_or, Result, Ok, Err, IfOk, sym, subst, ◌∙◌}
use Rattle.std.specs.List.{AllByRecursion}
use Rattle.std.proofs.lemmas.List.Elements.{All-from_recursion}
use Rattle.rl_query.specs.declared.query.Term.{Term}
use Rattle.rl_aggregate.specs.Evaluated.{term_vector}
use Rattle.rl_aggregate.specs.Grouping.{divisor_by}
use Rattle.rl_aggregate.specs.Limited.{IsLimited}
use Rattle.rl_aggregate.specs.Vectors.{AreInOrder, IsOfOneTerm, IsOfQuery, AreOfOneTerm}
use Rattle.rl_aggregate.specs.laws.Bounds.{term_divisor, order-rises, of_one_term-samples, of_one_term-aggregated_by, of_one_term-each, of_query-term, of_query-ratios}
use Rattle.rl_aggregate.specs.declared.partial.Partial.{Partial}
use Rattle.rl_aggregate.specs.declared.outcome.Sample.{Sample}
use Rattle.rl_aggregate.proofs.vector.quotient.Goals as goal

within : (term : Term) (partial : Partial) (samples : List Sample) → IsLimited partial → samples ≡ term_vector term partial.totals → AreOfOneTerm (divisor_by term.aggregations (term_divisor term.function term.range.seconds)) samples
within term partial samples limited is = subst (AreOfOneTerm (divisor_by term.aggregations (term_divisor term.function term.range.seconds))) (sym is) (of_one_term-aggregated_by (term_divisor term.function term.range.seconds) term.aggregations _ (of_one_term-samples term partial limited))

in_order : (term : Term) (partial : Partial) (samples : List Sample) → IsLimited partial → samples ≡ term_vector term partial.totals → AreInOrder samples
in_order term partial samples limited is = order-rises samples (within term partial samples limited is).order

small : (term : Term) (partial : Partial) (samples : List Sample) → IsLimited partial → samples ≡ term_vector term partial.totals → AllByRecursion IsOfOneTerm samples
small term partial samples limited is = of_one_term-each _ samples (within term partial samples limited is)

all_small : {A E : Type 0} (items : A → List Sample) (found : Result A E) (whole : List Sample) → AllByRecursion IsOfQuery whole → IfOk found (λ made. items made ≡ whole) → IfOk found (λ made. AllByRecursion IsOfQuery (items made))
all_small items (Ok made) whole within is = subst (AllByRecursion IsOfQuery) (sym is) within
all_small items (Err e) whole within is = is

pub divide-requires-clause-order : goal.divide-requires-clause-order
divide-requires-clause-order c = in_order c.args.query.now.left c.args.partial.now _ c.requires.limited c.in_ok-samples.ensures

pub divide-requires-clause-small : goal.divide-requires-clause-small
divide-requires-clause-small c = small c.args.query.now.left c.args.partial.now _ c.requires.limited c.in_ok-samples.ensures

limited : (rest : List Partial) (divisor : Partial) → AllByRecursion IsLimited rest → 0 < length rest → divisor ≡ get_or rest 0 divisor → IsLimited divisor
limited rest divisor all some is = subst IsLimited (sym is) (All-from_recursion IsLimited rest all 0 divisor some)

pub divide-requires-clause-divisors_order : goal.divide-requires-clause-divisors_order
divide-requires-clause-divisors_order c = in_order c.in-Some-len1-up.term c.get.result.now _ (subst IsLimited (sym c.get.ensures) (limited c.args.rest.now c.divisor-item.result c.requires.rest_limited c.in-Some-len1-up.len_at_least c.divisor-item.is)) (c.deref.ensures.value ∙ c.in_ok-divisors-in-Some-len1-up.ensures)

pub divide-requires-clause-divisors_small : goal.divide-requires-clause-divisors_small
divide-requires-clause-divisors_small c = small c.in-Some-len1-up.term c.get.result.now _ (subst IsLimited (sym c.get.ensures) (limited c.args.rest.now c.divisor-item.result c.requires.rest_limited c.in-Some-len1-up.len_at_least c.divisor-item.is)) (c.deref.ensures.value ∙ c.in_ok-divisors-in-Some-len1-up.ensures)

pub returns-in_ok-divisors-in-Some-len1-up-clause-small : goal.returns-in_ok-divisors-in-Some-len1-up-clause-small
returns-in_ok-divisors-in-Some-len1-up-clause-small c =
    let samples = small c.args.query.now.left c.args.partial.now _ c.requires.limited c.in_ok-samples.ensures in
    let divisors = small c.in-Some-len1-up.term c.get.result.now _ (subst IsLimited (sym c.get.ensures) (limited c.args.rest.now c.divisor-item.result c.requires.rest_limited c.in-Some-len1-up.len_at_least c.divisor-item.is)) (c.deref.ensures.value ∙ c.in_ok-divisors-in-Some-len1-up.ensures) in
    all_small (λ made. made.items) c.divide.result _ (of_query-ratios _ _ samples divisors) c.divide.ensures

pub returns-in_default-clause-small : goal.returns-in_default-clause-small
returns-in_default-clause-small c = of_query-term _ (small c.args.query.now.left c.args.partial.now _ c.requires.limited c.in_ok-samples.ensures)
