-- One pass over two vectors in order: what stands before a sample divides neither it nor a later one.
use Rattle.std.proofs.Common.{◌≡◌, ◌<◌, ◌≤◌, ◌++◌, true, false, cond, List, [], ◌∷◌, length, get_or, option_to_list, option_map, option_and_then, Option, None, Some, refl, sym, ap, ◌∙◌, append_assoc, arith}
use Rattle.std.specs.List.{AllByRecursion}
use Rattle.std.specs.Ordering.{is_eq, is_lt, ordering_reverse}
use Rattle.std.specs.declared.cmp.Ordering.TheVariants.{Less, Equal, Greater}
use Rattle.std.proofs.lemmas.Bool.{true≢false}
use Rattle.rl_labels.specs.LabelSet.{LabelSet}
use Rattle.rl_labels.specs.LabelText.{label_set_cmp, label_set_eq}
use Rattle.rl_labels.specs.laws.TextLaws.{label_set_cmp_total, label_set_eq_equiv}
use Rattle.rl_aggregate.specs.laws.Totals.{label_set_eq-cmp}
use Rattle.rl_aggregate.specs.Ratios.{not_before, partner, quotient, ratios, value_over}
use Rattle.rl_aggregate.specs.Vectors.{AreInOrder}
use Rattle.rl_aggregate.specs.declared.outcome.Fraction.{Fraction}
use Rattle.rl_aggregate.specs.declared.outcome.Sample.{Sample}

-- all samples stand after a label set
abbrev pub AreAfter : LabelSet → List Sample → Type 0
AreAfter labels samples = AllByRecursion (λ other. label_set_cmp labels other.labels ≡ Less) samples

apart_after : (s t : LabelSet) → label_set_cmp s t ≡ Less → label_set_eq s t ≡ false
apart_after s t less = label_set_eq-cmp s t ∙ ap is_eq less

apart_before : (s t : LabelSet) → label_set_cmp t s ≡ Less → label_set_eq s t ≡ false
apart_before s t less = label_set_eq-cmp s t ∙ ap is_eq (label_set_cmp_total.antisymm s t ∙ ap ordering_reverse less)

-- what stands after a label set stands after one before it
after_more : (s t : LabelSet) (samples : List Sample) → label_set_cmp s t ≡ Less → AreAfter t samples → AreAfter s samples
after_more s t [] less all_later = tt
after_more s t (x ∷ xs) less all_later = (label_set_cmp_total.trans s t x.labels less all_later.0, after_more s t xs less all_later.1)

none_after : (sample : Sample) (divisors : List Sample) → AreAfter sample.labels divisors → partner divisors sample ≡ None
none_after sample [] all_later = refl
none_after sample (d ∷ ds) all_later = ap (λ b. cond b (Some d) (partner ds sample)) (apart_after sample.labels d.labels all_later.0) ∙ none_after sample ds all_later.1

-- a divisor that stands before all samples divides none
first_dropped : (first : Sample) (divisors samples : List Sample) → AreAfter first.labels samples → ratios samples divisors ≡ ratios samples (first ∷ divisors)
first_dropped first divisors [] all_later = refl
first_dropped first divisors (x ∷ xs) all_later =
    let same : partner divisors x ≡ partner (first ∷ divisors) x = ap (λ b. cond b (Some first) (partner divisors x)) (sym (apart_before x.labels first.labels all_later.0)) in
    let value : value_over divisors x ≡ value_over (first ∷ divisors) x = ap (option_and_then (λ d. quotient x.value d.value)) same in
    λ i. option_to_list (option_map (λ v. record { labels = x.labels; value = v }) (value i)) ++ first_dropped first divisors xs all_later.1 i

-- nor do those that stand before the first sample
pub ratios-not_before : (sample : Sample) (samples divisors : List Sample) → AreAfter sample.labels samples → ratios (sample ∷ samples) (not_before sample.labels divisors) ≡ ratios (sample ∷ samples) divisors
ratios-not_before sample samples [] all_later = refl
ratios-not_before sample samples (d ∷ ds) all_later =
    elim (label_set_cmp d.labels sample.labels) as (λ o. label_set_cmp d.labels sample.labels ≡ o → ratios (sample ∷ samples) (cond (is_lt o) (not_before sample.labels ds) (d ∷ ds)) ≡ ratios (sample ∷ samples) (d ∷ ds)) [
      | Less ↦ λ is. ratios-not_before sample samples ds all_later ∙ first_dropped d ds (sample ∷ samples) (is, after_more d.labels sample.labels samples is all_later)
      | Equal ↦ λ _. refl
      | Greater ↦ λ _. refl
    ] refl

-- what is left is in order, and is as it was
pub order-not_before : (labels : LabelSet) (divisors : List Sample) → AreInOrder divisors → AreInOrder (not_before labels divisors)
order-not_before labels [] order = tt
order-not_before labels (d ∷ ds) order = elim (is_lt (label_set_cmp d.labels labels)) as (λ b. AreInOrder (cond b (not_before labels ds) (d ∷ ds))) [
  | true ↦ order-not_before labels ds order.1
  | false ↦ order
]

pub all-not_before : (P : Sample → Type 0) (labels : LabelSet) (divisors : List Sample) → AllByRecursion P divisors → AllByRecursion P (not_before labels divisors)
all-not_before P labels [] all = tt
all-not_before P labels (d ∷ ds) all = elim (is_lt (label_set_cmp d.labels labels)) as (λ b. AllByRecursion P (cond b (not_before labels ds) (d ∷ ds))) [
  | true ↦ all-not_before P labels ds all.1
  | false ↦ all
]

pub not_before-again : (labels : LabelSet) (divisors : List Sample) → not_before labels (not_before labels divisors) ≡ not_before labels divisors
not_before-again labels [] = refl
not_before-again labels (d ∷ ds) = elim (is_lt (label_set_cmp d.labels labels)) as (λ b. is_lt (label_set_cmp d.labels labels) ≡ b → not_before labels (cond b (not_before labels ds) (d ∷ ds)) ≡ cond b (not_before labels ds) (d ∷ ds)) [
  | true ↦ λ _. not_before-again labels ds
  | false ↦ λ is. ap (λ b. cond b (not_before labels ds) (d ∷ ds)) is
] refl

not_before-shorter : (labels : LabelSet) (divisors : List Sample) → length (not_before labels divisors) ≤ length divisors
not_before-shorter labels [] = omega arith
not_before-shorter labels (d ∷ ds) = elim (is_lt (label_set_cmp d.labels labels)) as (λ b. length (cond b (not_before labels ds) (d ∷ ds)) ≤ length (d ∷ ds)) [
  | true ↦ omega (arith, not_before-shorter labels ds)
  | false ↦ omega arith
]

-- the first of these is the partner, or none is
module _ (sample first : Sample) where
  pub by_first : (divisors : List Sample) → 0 < length divisors → first ≡ get_or divisors 0 first → label_set_eq first.labels sample.labels ≡ true → quotient sample.value first.value ≡ value_over divisors sample
  by_first [] some is same = absurd (omega (arith, some))
  by_first (d ∷ ds) some is same =
      ap (λ d. quotient sample.value d.value) is
      ∙ ap (λ b. option_and_then (λ d. quotient sample.value d.value) (cond b (Some d) (partner ds sample))) (sym (label_set_eq_equiv.symm sample.labels d.labels ∙ ap (λ d. label_set_eq d.labels sample.labels) (sym is) ∙ same))

  pub by_none : (divisors : List Sample) → 0 < length divisors → first ≡ get_or divisors 0 first → AreInOrder divisors → not_before sample.labels divisors ≡ divisors → label_set_eq first.labels sample.labels ≡ false → None ≡ value_over divisors sample
  by_none [] some is order from apart = absurd (omega (arith, some))
  by_none (d ∷ ds) some is order from apart =
      elim (label_set_cmp sample.labels d.labels) as (λ o. label_set_cmp sample.labels d.labels ≡ o → None ≡ value_over (d ∷ ds) sample) [
        | Less ↦ λ less. ap (option_and_then (λ d. quotient sample.value d.value)) (sym (none_after sample (d ∷ ds) (less, after_more sample.labels d.labels ds less order.0)))
        | Equal ↦ λ same. absurd (true≢false (sym (label_set_eq-cmp sample.labels d.labels ∙ ap is_eq same) ∙ label_set_eq_equiv.symm sample.labels d.labels ∙ ap (λ d. label_set_eq d.labels sample.labels) (sym is) ∙ apart))
        | Greater ↦ λ greater.
            let less : label_set_cmp d.labels sample.labels ≡ Less = label_set_cmp_total.antisymm d.labels sample.labels ∙ ap ordering_reverse greater in
            let again : not_before sample.labels ds ≡ d ∷ ds = ap (λ o. cond (is_lt o) (not_before sample.labels ds) (d ∷ ds)) (sym less) ∙ from in
            absurd (omega (arith, ap (λ l. length l) again, not_before-shorter sample.labels ds))
      ] refl

-- the sample with a value
abbrev pub with_value : Sample → Option Fraction → List Sample
with_value sample value = option_to_list (option_map (λ v. record { labels = sample.labels; value = v }) value)

-- one sample more, with the ratios so far
pub one_divided : (made : List Sample) (sample : Sample) (samples divisors : List Sample) (value : Option Fraction) → AreAfter sample.labels samples → value ≡ value_over (not_before sample.labels divisors) sample → (made ++ with_value sample value) ++ ratios samples (not_before sample.labels divisors) ≡ made ++ ratios (sample ∷ samples) divisors
one_divided made sample samples divisors value all_later is =
    let rest = not_before sample.labels divisors in
    let first : made ++ (with_value sample (value_over rest sample) ++ ratios samples rest) ≡ made ++ ratios (sample ∷ samples) divisors = ap (λ all. made ++ all) (ratios-not_before sample samples divisors all_later) in
    append_assoc made (with_value sample value) (ratios samples rest) ∙ ap (λ v. made ++ (with_value sample v ++ ratios samples rest)) is ∙ first
