-- Bounds that vectors of terms stay within: those of the totals of a term, those of a vector that is aggregated, and those of
-- ratios. The samples of a vector whose label sets rise are in order.
use Rattle.std.specs.Prelude.{◌≡◌, ℕ, ◌+◌, ◌-◌, ◌*◌, ◌<◌, ◌≤◌, ◌==◌, ◌^◌, true, false, cond, ◌&&◌, List, [], ◌∷◌, ◌++◌, length, map, Some, None, option_to_list, option_map, option_and_then, refl}
use Rattle.std.specs.List.{AllByRecursion, sum_by}
use Rattle.std.specs.Ordering.{is_lt}
use Rattle.std.specs.FinMap.{entries, len, len-entries, entries_sorted}
use Rattle.std.specs.FinMap.Entries.{is_sorted, below_all}
use Rattle.std.specs.declared.cmp.Ordering.{Ordering}
use Rattle.std.specs.declared.cmp.Ordering.TheVariants.{Less, Equal, Greater}
use Rattle.std.proofs.Common.{sym, ap, subst, ◌∙◌, arith}
use Rattle.std.proofs.lemmas.Bool.{and_parts, and_from, eqb-true, eq-eqb, true≢false}
use Rattle.std.proofs.lemmas.List.{length-map}
use Rattle.std.proofs.lemmas.List.Sums.{sum_by-cons}
use Rattle.std.proofs.lemmas.Nat.{mul-lt}
use Rattle.std.proofs.lemmas.Option.{none-some, same_Some}
use Rattle.rl_plain.specs.laws.Bools.{true_from}
use Rattle.rl_labels.specs.LabelSet.{LabelSet}
use Rattle.rl_labels.specs.LabelText.{label_set_cmp, label_set_eq}
use Rattle.rl_labels.specs.declared.matcher.Matcher.{Matcher}
use Rattle.rl_query.specs.Limits.{longest_range}
use Rattle.rl_query.specs.declared.aggregation.Aggregation.{Aggregation}
use Rattle.rl_query.specs.declared.aggregation.VectorOperator.{VectorOperator}
use Rattle.rl_query.specs.declared.aggregation.VectorOperator.TheVariants.{Sum, Count, Min, Max, Topk}
use Rattle.rl_query.specs.declared.query.Term.{Term}
use Rattle.rl_query.specs.declared.query.RangeFunction.{RangeFunction}
use Rattle.rl_query.specs.declared.query.RangeFunction.TheVariants.{CountOverTime, Rate, BytesOverTime, BytesRate, AbsentOverTime}
use Rattle.rl_aggregate.specs.Absence.{absence, absent_sample}
use Rattle.rl_aggregate.specs.Evaluated.{fraction, sample, samples, samples_by}
use Rattle.rl_aggregate.specs.Grouping.{total, aggregated_by, rises, have_divisor, divisor_after, divisor_by}
use Rattle.rl_aggregate.specs.Limited.{IsLimited}
use Rattle.rl_aggregate.specs.Ratios.{partner, quotient, ratios}
use Rattle.rl_aggregate.specs.TotalsMap.{TotalsMap, no_total}
use Rattle.rl_aggregate.specs.Vectors.{AreInOrder, IsOfOneTerm, IsOfQuery, AreOfOneTerm}
use Rattle.rl_aggregate.specs.laws.Groups.{rises-aggregated_by, have_divisor-aggregated_by, length-aggregated_by, total-aggregated_by}
use Rattle.rl_aggregate.specs.declared.volume.Volume.{Volume}
use Rattle.rl_aggregate.specs.declared.outcome.Fraction.{Fraction}
use Rattle.rl_aggregate.specs.declared.outcome.Sample.{Sample}
use Rattle.rl_aggregate.specs.declared.partial.Partial.{Partial}

-- THE ORDER OF SAMPLES

less : (o : Ordering) → is_lt o ≡ true → o ≡ Less
less Less h = refl
less Equal h = absurd (true≢false (sym h))
less Greater h = absurd (true≢false (sym h))

after_below : (labels : LabelSet) (samples : List Sample) → below_all label_set_cmp labels (map (λ s. (s.labels, s.value)) samples) ≡ true → AllByRecursion (λ other. label_set_cmp labels other.labels ≡ Less) samples
after_below labels [] below = tt
after_below labels (s ∷ ss) below =
    let parts = and_parts (is_lt (label_set_cmp labels s.labels)) (below_all label_set_cmp labels (map (λ s. (s.labels, s.value)) ss)) below in (
      less _ parts.0,
      after_below labels ss parts.1,
    )

-- samples whose label sets rise are in order
pub order-rises : (samples : List Sample) → rises samples ≡ true → AreInOrder samples
order-rises [] up = tt
order-rises (s ∷ ss) up =
    let parts = and_parts (below_all label_set_cmp s.labels (map (λ s. (s.labels, s.value)) ss)) (rises ss) up in (
      after_below s.labels ss parts.0,
      order-rises ss parts.1,
    )

-- VECTORS OF ONE TERM

-- a sample for each entry
abbrev vector : (Volume → Fraction) → List (LabelSet × Volume) → List Sample
vector made es = map (λ e. record { labels = e.0; value = made e.1 }) es

below_made : (made : Volume → Fraction) (labels : LabelSet) (es : List (LabelSet × Volume)) → below_all label_set_cmp labels (map (λ (s : Sample). (s.labels, s.value)) (vector made es)) ≡ below_all label_set_cmp labels es
below_made made labels [] = refl
below_made made labels (e ∷ es) = ap (λ b. is_lt (label_set_cmp labels e.0) && b) (below_made made labels es)

-- samples of entries rise where the entries do
rises-made : (made : Volume → Fraction) (es : List (LabelSet × Volume)) → rises (vector made es) ≡ is_sorted label_set_cmp es
rises-made made [] = refl
rises-made made (e ∷ es) = λ i. below_made made e.0 es i && rises-made made es i

divisor-made : (made : Volume → Fraction) (n : ℕ) → ((total : Volume) → (made total).denominator ≡ n) → (es : List (LabelSet × Volume)) → have_divisor n (vector made es) ≡ true
divisor-made made n same [] = refl
divisor-made made n same (e ∷ es) = and_from _ _ (eq-eqb _ n (same e.1)) (divisor-made made n same es)

total-made : (made : Volume → Fraction) (es : List (LabelSet × Volume)) → total (vector made es) ≡ sum_by (λ e. (made e.1).numerator) es
total-made made [] = refl
total-made made (e ∷ es) = omega (
  arith,
  sum_by-cons (λ (s : Sample). s.value.numerator) (record { labels = e.0; value = made e.1 }) (vector made es),
  sum_by-cons (λ e. (made e.1).numerator) e es,
  total-made made es,
)

ones : (es : List (LabelSet × Volume)) → sum_by (λ e. 1) es ≡ length es
ones [] = refl
ones (e ∷ es) = omega (arith, sum_by-cons (λ e. 1) e es, ones es)

-- the divisor that a range aggregation gives
abbrev pub term_divisor : RangeFunction → (seconds : ℕ) → ℕ
term_divisor function seconds = (fraction function seconds no_total).denominator

same_divisor : (function : RangeFunction) (seconds : ℕ) (total : Volume) → (fraction function seconds total).denominator ≡ term_divisor function seconds
same_divisor CountOverTime seconds total = refl
same_divisor Rate seconds total = refl
same_divisor BytesOverTime seconds total = refl
same_divisor BytesRate seconds total = refl
same_divisor AbsentOverTime seconds total = refl

divisor-short : (function : RangeFunction) (seconds : ℕ) → seconds ≤ longest_range → term_divisor function seconds ≤ longest_range
divisor-short CountOverTime seconds short = omega arith
divisor-short Rate seconds short = short
divisor-short BytesOverTime seconds short = omega arith
divisor-short BytesRate seconds short = short
divisor-short AbsentOverTime seconds short = omega arith

-- numerators of a term add up to lines, bytes or samples
numerators-small : (function : RangeFunction) (seconds : ℕ) (partial : Partial) → IsLimited partial → sum_by (λ e. (fraction function seconds e.1).numerator) (entries partial.totals) < 2 ^ 46
numerators-small CountOverTime seconds partial limited = omega (arith, limited.counts)
numerators-small Rate seconds partial limited = omega (arith, limited.counts)
numerators-small BytesOverTime seconds partial limited = limited.bytes
numerators-small BytesRate seconds partial limited = limited.bytes
numerators-small AbsentOverTime seconds partial limited = omega (arith, ones (entries partial.totals), len-entries partial.totals, limited.sets)

of_totals : (function : RangeFunction) (seconds : ℕ) (partial : Partial) → seconds ≤ longest_range → IsLimited partial → AreOfOneTerm (term_divisor function seconds) (map (sample function seconds) (entries partial.totals))
of_totals function seconds partial short limited =
    let made = fraction function seconds in
    let es = entries partial.totals in record {
      order = rises-made made es ∙ true_from _ (entries_sorted partial.totals);
      divisors = divisor-made made (term_divisor function seconds) (same_divisor function seconds) es;
      divisor = divisor-short function seconds short;
      few = omega (arith, length-map es (sample function seconds), len-entries partial.totals, limited.sets);
      sum = omega (arith, total-made made es, numerators-small function seconds partial limited);
    }

of_absence : (matchers : List Matcher) (totals : TotalsMap) → AreOfOneTerm 1 (absence matchers totals)
of_absence matchers totals = elim (len totals == 0) as (λ b. AreOfOneTerm 1 (cond b (absent_sample matchers ∷ []) [])) [
  | true ↦ record { order = refl; divisors = refl; divisor = omega arith; few = omega arith; sum = omega (arith, sum_by-cons (λ s. s.value.numerator) (absent_sample matchers) []) }
  | false ↦ record { order = refl; divisors = refl; divisor = omega arith; few = omega arith; sum = omega arith }
]

-- what a range aggregation gives of totals within the limits is within the bounds of one term
pub of_one_term-samples : (term : Term) (partial : Partial) → IsLimited partial → AreOfOneTerm (term_divisor term.function term.range.seconds) (samples_by term.function term partial.totals)
of_one_term-samples term partial limited = by term.function refl
  where
    all : (function : RangeFunction) → term.function ≡ function → AreOfOneTerm (term_divisor function term.range.seconds) (samples term partial.totals)
    all function is = subst (λ f. AreOfOneTerm (term_divisor f term.range.seconds) (samples term partial.totals)) is (of_totals term.function term.range.seconds partial term.range.in_range.1 limited)

    by : (function : RangeFunction) → term.function ≡ function → AreOfOneTerm (term_divisor function term.range.seconds) (samples_by function term partial.totals)
    by CountOverTime is = all CountOverTime is
    by Rate is = all Rate is
    by BytesOverTime is = all BytesOverTime is
    by BytesRate is = all BytesRate is
    by AbsentOverTime is = of_absence term.range.selector.matchers partial.totals

-- the divisor stays within the bound
divisor_after-short : (operator : VectorOperator) (n : ℕ) → n ≤ longest_range → divisor_after operator n ≤ longest_range
divisor_after-short Sum n short = short
divisor_after-short Count n short = omega arith
divisor_after-short Min n short = short
divisor_after-short Max n short = short
divisor_after-short (Topk k) n short = short

divisor_by-short : (aggregations : List Aggregation) (n : ℕ) → n ≤ longest_range → divisor_by aggregations n ≤ longest_range
divisor_by-short [] n short = short
divisor_by-short (aggregation ∷ aggregations) n short = divisor_after-short aggregation.operator (divisor_by aggregations n) (divisor_by-short aggregations n short)

-- so is an aggregated vector
pub of_one_term-aggregated_by : (n : ℕ) (aggregations : List Aggregation) (samples : List Sample) → AreOfOneTerm n samples → AreOfOneTerm (divisor_by aggregations n) (aggregated_by aggregations samples)
of_one_term-aggregated_by n aggregations samples are = record {
  order = rises-aggregated_by aggregations samples are.order;
  divisors = have_divisor-aggregated_by n aggregations samples are.divisors;
  divisor = divisor_by-short aggregations n are.divisor;
  few = omega (arith, length-aggregated_by aggregations samples, are.few);
  sum = omega (arith, total-aggregated_by (2 ^ 46 - 1) aggregations samples (omega (arith, are.sum)) (omega (arith, are.few)));
}

-- and so is each of its samples
each_within : (n : ℕ) (samples : List Sample) → n ≤ longest_range → have_divisor n samples ≡ true → total samples < 2 ^ 46 → AllByRecursion IsOfOneTerm samples
each_within n [] short divisors small = tt
each_within n (s ∷ ss) short divisors small =
    let parts = and_parts (s.value.denominator == n) (have_divisor n ss) divisors in
    let all = sum_by-cons (λ s. s.value.numerator) s ss in (
      (omega (arith, all, small), omega (arith, eqb-true _ n parts.0, short)),
      each_within n ss short parts.1 (omega (arith, all, small)),
    )

pub of_one_term-each : (n : ℕ) (samples : List Sample) → AreOfOneTerm n samples → AllByRecursion IsOfOneTerm samples
of_one_term-each n samples are = each_within n samples are.divisor are.divisors are.sum

-- VECTORS OF A QUERY

-- a value of one term is one of a query
pub of_query-term : (samples : List Sample) → AllByRecursion IsOfOneTerm samples → AllByRecursion IsOfQuery samples
of_query-term [] all = tt
of_query-term (s ∷ ss) all = ((omega (arith, all.0.0), omega (arith, all.0.1)), of_query-term ss all.1)

partner_within : (sample : Sample) (divisors : List Sample) (other : Sample) → AllByRecursion IsOfOneTerm divisors → partner divisors sample ≡ Some other → IsOfOneTerm other
partner_within sample [] other all is = absurd (none-some other is)
partner_within sample (d ∷ ds) other all is = elim (label_set_eq sample.labels d.labels) as (λ b. cond b (Some d) (partner ds sample) ≡ Some other → IsOfOneTerm other) [
  | true ↦ λ found. subst IsOfOneTerm (same_Some d other found) all.0
  | false ↦ λ found. partner_within sample ds other all.1 found
] is

-- the ratio of two values of one term is one of a query
of_query-quotient : (sample : Sample) (divisor : Fraction) (rest : List Sample) → IsOfOneTerm sample → (divisor.numerator < 2 ^ 46) × (divisor.denominator ≤ longest_range) → AllByRecursion IsOfQuery rest → AllByRecursion IsOfQuery (option_to_list (option_map (λ value. record { labels = sample.labels; value = value }) (quotient sample.value divisor)) ++ rest)
of_query-quotient sample divisor rest own other all = elim (divisor.numerator == 0) as (λ b. AllByRecursion IsOfQuery (option_to_list (option_map (λ value. record { labels = sample.labels; value = value }) (cond b None (Some (record { numerator = sample.value.numerator * divisor.denominator; denominator = sample.value.denominator * divisor.numerator })))) ++ rest)) [
  | true ↦ all
  | false ↦ (
    (
      omega (arith, mul-lt sample.value.numerator divisor.denominator (2 ^ 46) (longest_range + 1) own.0 (omega (arith, other.1))),
      omega (arith, mul-lt sample.value.denominator divisor.numerator (longest_range + 1) (2 ^ 46) (omega (arith, own.1)) other.0),
    ),
    all,
  )
]

pub of_query-ratios : (samples divisors : List Sample) → AllByRecursion IsOfOneTerm samples → AllByRecursion IsOfOneTerm divisors → AllByRecursion IsOfQuery (ratios samples divisors)
of_query-ratios [] divisors own others = tt
of_query-ratios (s ∷ ss) divisors own others =
    let rest = of_query-ratios ss divisors own.1 others in
    elim (partner divisors s) as (λ o. partner divisors s ≡ o → AllByRecursion IsOfQuery (option_to_list (option_map (λ value. record { labels = s.labels; value = value }) (option_and_then (λ divisor. quotient s.value divisor.value) o)) ++ ratios ss divisors)) [
      | None ↦ λ _. rest
      | Some d ↦ λ is. of_query-quotient s d.value (ratios ss divisors) own.0 (partner_within s divisors d others is) rest
    ] refl
