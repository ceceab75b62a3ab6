-- Samples by their ranks: how many of a group come before one, that the first of each group are kept, and that those which
-- are kept are brought back into the order of their labels.
use Rattle.std.proofs.Common.{◌≡◌, ℕ, ◌+◌, ◌<◌, ◌≤◌, Bool, true, false, cond, not, ◌&&◌, ltb, List, [], ◌∷◌, ◌++◌, map, length, get_or, Option, None, Some, T, refl, sym, ap, subst, ◌∙◌, arith, length-append}
use Rattle.std.specs.List.{filter, list_any, count_by, sum_by, AllByRecursion, IsDistinct}
use Rattle.std.specs.List.Sorted.{IsPermutation, IsSorted, IsSortedBy, IsStableBy, IsStrictlySortedBy, ties}
use Rattle.std.specs.Ordering.{eq_by_cmp, is_lt, is_eq, nat_cmp, ordering_reverse, ordering_then}
use Rattle.std.specs.declared.cmp.Ordering.{Ordering}
use Rattle.std.specs.declared.cmp.Ordering.TheVariants.{Less, Equal, Greater}
use Rattle.std.specs.Cmp.{IsTotalOrder, IsStrictWeakOrder, eq_by_cmp_equiv}
use Rattle.std.specs.FinMap.{get, insert}
use Rattle.std.specs.FinMap.Entries.{find, is_sorted, below_all, same_entries}
use Rattle.std.specs.Map.{keys_of}
use Rattle.std.proofs.lemmas.Bool.{and_parts, or_parts, true≢false, ltb-false, le-ltb}
use Rattle.std.proofs.lemmas.Cmp.{on_total, then_total, back_total, tied_itself, nat_cmp_total, ranked}
use Rattle.std.proofs.lemmas.Float.{T_from_true}
use Rattle.std.proofs.lemmas.List.{get_or-map}
use Rattle.std.proofs.lemmas.List.Elements.{filter-append, filter_agree}
use Rattle.std.proofs.lemmas.List.Sorted.{ranks_by, IsStrictWeakOrder-by_number, IsStrictWeakOrder-flip, IsPermutation-map, sum_by-IsPermutation, ties_stay_sorted}
use Rattle.std.proofs.lemmas.List.Sums.{sum_by-cons}
use Rattle.std.proofs.lemmas.Map.Keys.{sorted_head, sorted_tail, sorted_from_all_adjacent, Less-from_sorted, apart_from_distinct, IsDistinct-head, IsDistinct-tail, IsDistinct-from_sorted, IsDistinct-IsPermutation}
use Rattle.std.proofs.lemmas.Map.Made.{IsDistinct-keys_filter}
use Rattle.rl_plain.specs.laws.TreeMaps.{sorted_entries}
use Rattle.rl_labels.specs.LabelSet.{LabelSet}
use Rattle.rl_labels.specs.LabelText.{label_set_cmp}
use Rattle.rl_labels.specs.laws.TextLaws.{label_set_cmp_total, label_set_cmp-IsAntisymmetric, label_set_eq-true}
use Rattle.rl_query.specs.declared.aggregation.Grouping.{Grouping}
use Rattle.rl_query.specs.declared.aggregation.VectorOperator.TheVariants.{Count}
use Rattle.rl_aggregate.specs.GroupsMap.{GroupsMap, with_value, numerator_at}
use Rattle.rl_aggregate.specs.Grouping.{group_of, is_in, part, groups, group_value, sample_of, rank_cmp, comes_before, sample_cmp, is_among_first, rises}
use Rattle.rl_aggregate.specs.laws.Groups.{get-groups, groups-push, numerator-next, rises-filter}
use Rattle.rl_aggregate.specs.laws.Totals.{label_set_eq-cmp}
use Rattle.rl_aggregate.specs.declared.outcome.Fraction.{Fraction}
use Rattle.rl_aggregate.specs.declared.outcome.Sample.{Sample}

-- THE ORDER OF RANKS

rank_total : IsTotalOrder rank_cmp
rank_total = then_total (back_total (on_total (λ (s : Sample). s.value.numerator) nat_cmp_total)) (on_total (λ (s : Sample). s.labels) label_set_cmp_total)

-- what stands in the middle of a list has what all have
middle : (P : Sample → Type 0) (front : List Sample) (sample : Sample) (back : List Sample) → AllByRecursion P (front ++ sample ∷ back) → P sample
middle P [] sample back h = h.0
middle P (other ∷ front) sample back h = middle P front sample back h.1

-- samples after one do not come before it
none_after : (g : Grouping) (q : LabelSet) (sample : Sample) (others : List Sample) → AllByRecursion (λ other. rank_cmp sample other ≡ Less) others → count_by (λ other. comes_before other sample) (part g q others) ≡ 0
none_after g q sample [] all_later = refl
none_after g q sample (other ∷ others) all_later =
    let rest = none_after g q sample others all_later.1 in
    let after : comes_before other sample ≡ false = ap is_lt (rank_total.antisymm other sample ∙ ap ordering_reverse all_later.0) in
    elim (is_in g q other) as (λ b. count_by (λ o. comes_before o sample) (cond b (other ∷ part g q others) (part g q others)) ≡ 0) [
      | true ↦ sum_by-cons (λ o. cond (comes_before o sample) 1 0) other (part g q others) ∙ (λ i. cond (after i) 1 0 + rest i)
      | false ↦ rest
    ]

one_of : (b : Bool) → b ≡ true → ◌≡◌ {A = ℕ} (cond b 1 0) 1
one_of b is = λ i. cond (is i) 1 0

-- so those of a group that come before a sample are those in front of it
counted : (g : Grouping) (q : LabelSet) (front : List Sample) (sample : Sample) (back : List Sample) → IsStrictlySortedBy rank_cmp (front ++ sample ∷ back) → count_by (λ other. comes_before other sample) (part g q (front ++ sample ∷ back)) ≡ length (part g q front)
counted g q [] sample back sorted =
    let rest = none_after g q sample back (sorted_head rank_cmp sample back sorted) in
    let itself : comes_before sample sample ≡ false = ap is_lt (tied_itself rank_total sample) in
    elim (is_in g q sample) as (λ b. count_by (λ o. comes_before o sample) (cond b (sample ∷ part g q back) (part g q back)) ≡ 0) [
      | true ↦ sum_by-cons (λ o. cond (comes_before o sample) 1 0) sample (part g q back) ∙ (λ i. cond (itself i) 1 0 + rest i)
      | false ↦ rest
    ]
counted g q (other ∷ front) sample back sorted =
    let all = front ++ sample ∷ back in
    let rest = counted g q front sample back (sorted_tail rank_cmp other all sorted) in
    let before : comes_before other sample ≡ true = ap is_lt (middle (λ o. rank_cmp other o ≡ Less) front sample back (sorted_head rank_cmp other all sorted)) in
    elim (is_in g q other) as (λ b. count_by (λ o. comes_before o sample) (cond b (other ∷ part g q all) (part g q all)) ≡ length (cond b (other ∷ part g q front) (part g q front))) [
      | true ↦ omega (arith, sum_by-cons (λ o. cond (comes_before o sample) 1 0) other (part g q all), one_of (comes_before other sample) before, rest)
      | false ↦ rest
    ]

no_part : (g : Grouping) (q : LabelSet) (samples : List Sample) → list_any (is_in g q) samples ≡ false → part g q samples ≡ []
no_part g q [] none = refl
no_part g q (sample ∷ samples) none =
    let parts = or_parts (is_in g q sample) (list_any (is_in g q) samples) none in
    ap (λ b. cond b (sample ∷ part g q samples) (part g q samples)) parts.0 ∙ no_part g q samples parts.1

-- the count of a group is that of its part
counts : (g : Grouping) (samples : List Sample) (q : LabelSet) → numerator_at (get (groups Count g samples) q) ≡ length (part g q samples)
counts g samples q =
    ap numerator_at (get-groups Count g samples q)
    ∙ elim (list_any (is_in g q) samples) as (λ b. list_any (is_in g q) samples ≡ b → numerator_at (cond b (Some (group_value Count (part g q samples))) None) ≡ length (part g q samples)) [
      | true ↦ λ _. refl
      | false ↦ λ none. sym (ap (λ l. length l) (no_part g q samples none))
    ] refl

-- the next sample is kept where the count of its group is low
pub next_kept : (k : ℕ) (g : Grouping) (ranked front : List Sample) (sample : Sample) (back : List Sample) (before : ℕ) → front ++ sample ∷ back ≡ ranked → IsStrictlySortedBy rank_cmp ranked → before ≡ numerator_at (get (groups Count g front) (group_of g sample.labels)) → is_among_first k g ranked sample ≡ ltb before k
next_kept k g ranked front sample back before split sorted so_far =
    let q = group_of g sample.labels in
    ap (λ all. ltb (count_by (λ o. comes_before o sample) (part g q all)) k) (sym split)
    ∙ ap (λ n. ltb n k) (counted g q front sample back (subst (IsStrictlySortedBy rank_cmp) (sym split) sorted) ∙ sym (counts g front q) ∙ sym so_far)

-- so what is kept stays what is among the first
pub kept_more : (k : ℕ) (g : Grouping) (ranked front : List Sample) (sample : Sample) (back : List Sample) (before : ℕ) (b : Bool) → front ++ sample ∷ back ≡ ranked → IsStrictlySortedBy rank_cmp ranked → before ≡ numerator_at (get (groups Count g front) (group_of g sample.labels)) → ltb before k ≡ b → filter (is_among_first k g ranked) front ++ cond b (sample ∷ []) [] ≡ filter (is_among_first k g ranked) (front ++ sample ∷ [])
kept_more k g ranked front sample back before b split sorted so_far low =
    sym (filter-append (is_among_first k g ranked) front (sample ∷ []) ∙ ap (λ b. filter (is_among_first k g ranked) front ++ cond b (sample ∷ []) []) (next_kept k g ranked front sample back before split sorted so_far ∙ low))

-- and the counts are those of one sample more, and fit
pub next_counted : (g : Grouping) (front : List Sample) (sample : Sample) (m : GroupsMap) (key : LabelSet) → m ≡ groups Count g front → key ≡ group_of g sample.labels → insert m key (with_value Count (get m key) sample.value) ≡ groups Count g (front ++ sample ∷ [])
next_counted g front sample m key so_far keyed =
    (λ i. insert (so_far i) (keyed i) (with_value Count (get (so_far i) (keyed i)) sample.value)) ∙ sym (groups-push Count g front sample)

pub next_count_fits : (g : Grouping) (front : List Sample) (sample : Sample) (m : GroupsMap) (key : LabelSet) → m ≡ groups Count g front → key ≡ group_of g sample.labels → (with_value Count (get m key) sample.value).numerator ≤ length front + 1
next_count_fits g front sample m key so_far keyed =
    let same : (with_value Count (get m key) sample.value).numerator ≡ (with_value Count (get (groups Count g front) (group_of g sample.labels)) sample.value).numerator =
    λ i. (with_value Count (get (so_far i) (keyed i)) sample.value).numerator in
    omega (arith, same, numerator-next Count g front sample, length-append front (sample ∷ []))

-- A SORT BY VALUES

abbrev pub pairs : List Sample → List (LabelSet × Fraction)
pairs = map (λ sample. (sample.labels, sample.value))

abbrev pub label_sets : List Sample → List LabelSet
label_sets samples = keys_of (pairs samples)

label_count : (samples : List Sample) → length (label_sets samples) ≡ length samples
label_count [] = refl
label_count (sample ∷ samples) = omega (arith, label_count samples)

label_at : (samples : List Sample) (k : ℕ) (d : LabelSet) (e : Sample) → k < length samples → get_or (label_sets samples) k d ≡ (get_or samples k e).labels
label_at samples k d e within =
    get_or-map (λ (p : LabelSet × Fraction). p.0) (pairs samples) k (e.labels, e.value) d (omega (arith, same_length samples))
    ∙ ap (λ (p : LabelSet × Fraction). p.0) (get_or-map (λ (s : Sample). (s.labels, s.value)) samples k e (e.labels, e.value) within)
  where
    same_length : (samples : List Sample) → length (pairs samples) ≡ length samples
    same_length [] = refl
    same_length (sample ∷ samples) = omega (arith, same_length samples)

less : (o : Ordering) → is_lt o ≡ true → o ≡ Less
less Less h = refl
less Equal h = absurd (true≢false (sym h))
less Greater h = absurd (true≢false (sym h))

-- label sets that rise, in the two forms that std has
strictly : (samples : List Sample) → rises samples ≡ true → IsStrictlySortedBy label_set_cmp (label_sets samples)
unfolding IsStrictlySortedBy
strictly [] up = tt
strictly (sample ∷ samples) up =
    let parts = and_parts (below_all label_set_cmp sample.labels (pairs samples)) (rises samples) up in
    (below samples parts.0, strictly samples parts.1)
  where
    below : (others : List Sample) → below_all label_set_cmp sample.labels (pairs others) ≡ true → AllByRecursion (λ other. label_set_cmp sample.labels other ≡ Less) (label_sets others)
    below [] h = tt
    below (other ∷ others) h =
        let parts = and_parts (is_lt (label_set_cmp sample.labels other.labels)) (below_all label_set_cmp sample.labels (pairs others)) h in
        (less _ parts.0, below others parts.1)

abbrev pub ties_with : LabelSet → LabelSet → Bool
ties_with = eq_by_cmp label_set_cmp

still_differ : (samples others : List Sample) → IsPermutation samples others → IsDistinct ties_with (label_sets samples) → IsDistinct ties_with (label_sets others)
still_differ samples others moved = IsDistinct-IsPermutation ties_with (eq_by_cmp_equiv label_set_cmp_total).symm _ _ (IsPermutation-map (λ (e : LabelSet × Fraction). e.0) _ _ (IsPermutation-map (λ (s : Sample). (s.labels, s.value)) samples others moved))

-- what is not above and differs is below
below_other : (s t : LabelSet) → is_lt (label_set_cmp t s) ≡ false → ties_with s t ≡ false → label_set_cmp s t ≡ Less
below_other s t up differ = by_order (label_set_cmp s t) (label_set_cmp t s) (label_set_cmp_total.antisymm t s) up differ
  where
    by_order : (a b : Ordering) → b ≡ ordering_reverse a → is_lt b ≡ false → is_eq a ≡ false → a ≡ Less
    by_order Less b e up differ = refl
    by_order Equal b e up differ = absurd (true≢false differ)
    by_order Greater b e up differ = absurd (true≢false (sym (ap is_lt e) ∙ up))

-- a greater value comes first
abbrev pub is_greater : Sample → Sample → Bool
is_greater sample other = ltb other.value.numerator sample.value.numerator

pub greater_order : IsStrictWeakOrder is_greater
greater_order = IsStrictWeakOrder-flip (λ (x : Sample) (y : Sample). ltb x.value.numerator y.value.numerator) (IsStrictWeakOrder-by_number (λ (s : Sample). s.value.numerator))

-- two neighbours after the sort
rank_next : (x y : Sample) → is_greater y x ≡ false → (ties is_greater x y ≡ true → is_lt (label_set_cmp y.labels x.labels) ≡ false) → ties_with x.labels y.labels ≡ false → rank_cmp x y ≡ Less
rank_next x y down tied differ =
    elim (nat_cmp y.value.numerator x.value.numerator) as (λ o. nat_cmp y.value.numerator x.value.numerator ≡ o → ordering_then o (label_set_cmp x.labels y.labels) ≡ Less) [
      | Less ↦ λ _. refl
      | Equal ↦ λ is.
          let same : y.value.numerator ≡ x.value.numerator = ranked y.value.numerator x.value.numerator Equal (sym is) in
          below_other x.labels y.labels (tied (ties_at x y same)) differ
      | Greater ↦ λ is. absurd (omega (arith, ltb-false x.value.numerator y.value.numerator down, ranked y.value.numerator x.value.numerator Greater (sym is)))
    ] refl
  where
    ties_at : (x y : Sample) → y.value.numerator ≡ x.value.numerator → ties is_greater x y ≡ true
    ties_at x y same = (λ i. not (le-ltb y.value.numerator x.value.numerator (omega arith) i) && not (le-ltb x.value.numerator y.value.numerator (omega arith) i))

-- a stable sort by values of samples in the order of their labels
pub ranked-sorted : (samples others : List Sample) → rises samples ≡ true → IsPermutation samples others → IsSortedBy is_greater others → IsStableBy is_greater samples others → IsStrictlySortedBy rank_cmp others
unfolding IsStrictlySortedBy
ranked-sorted samples [] up moved sorted stable = tt
ranked-sorted samples (first ∷ others) up moved sorted stable =
    let all = first ∷ others in
    let higher = strictly samples up in
    let differ = still_differ samples all moved (IsDistinct-from_sorted label_set_cmp (label_sets samples) higher) in
    let in_order : IsSorted sample_cmp samples = λ k d low within.
    ap is_lt (label_set_cmp_total.antisymm (get_or samples (k + 1) d).labels (get_or samples k d).labels
    ∙ ap ordering_reverse ((λ i. label_set_cmp (sym (label_at samples k d.labels d (omega arith)) i) (sym (label_at samples (k + 1) d.labels d within) i)) ∙ Less-from_sorted label_set_cmp (label_sets samples) k (k + 1) d.labels higher (omega arith) (omega (arith, label_count samples)))) in
    sorted_from_all_adjacent rank_total all first (λ k within. rank_next (get_or all k first) (get_or all (k + 1) first)
    (sorted k first (omega arith) within)
    (ties_stay_sorted (λ x y. is_lt (sample_cmp x y)) is_greater (ranks_by label_set_cmp_total (λ (s : Sample). s.labels)) greater_order samples all in_order stable k first within)
    ((λ i. ties_with (sym (label_at all k first.labels first (omega arith)) i) (sym (label_at all (k + 1) first.labels first within) i)) ∙ apart_from_distinct ties_with (label_sets all) k (k + 1) first.labels differ (omega arith) (omega (arith, label_count all))))

-- BACK INTO THE ORDER OF LABELS

sum_by-filter : (f : Sample → ℕ) (p : Sample → Bool) (samples : List Sample) → sum_by f (filter p samples) ≡ sum_by (λ s. cond (p s) (f s) 0) samples
sum_by-filter f p [] = refl
sum_by-filter f p (sample ∷ samples) =
    elim (p sample) as (λ b. sum_by f (cond b (sample ∷ filter p samples) (filter p samples)) ≡ cond b (f sample) 0 + sum_by (λ s. cond (p s) (f s) 0) samples) [
      | true ↦ sum_by-cons f sample (filter p samples) ∙ ap (λ n. f sample + n) (sum_by-filter f p samples)
      | false ↦ omega (arith, sum_by-filter f p samples)
    ]
    ∙ sym (sum_by-cons (λ s. cond (p s) (f s) 0) sample samples)

-- what is kept of samples in another order has an equal sum
sum_by-kept : (f : Sample → ℕ) (p : Sample → Bool) (samples others : List Sample) → IsPermutation samples others → sum_by f (filter p others) ≡ sum_by f (filter p samples)
sum_by-kept f p samples others moved =
    sum_by-filter f p others ∙ sum_by-IsPermutation (λ s. cond (p s) (f s) 0) samples others moved ∙ sym (sum_by-filter f p samples)

-- in another order, the same samples are among the first
same_first : (k : ℕ) (g : Grouping) (samples others : List Sample) → IsPermutation samples others → (sample : Sample) → is_among_first k g others sample ≡ is_among_first k g samples sample
same_first k g samples others moved sample = ap (λ n. ltb n k) (sum_by-kept (λ o. cond (comes_before o sample) 1 0) (is_in g (group_of g sample.labels)) samples others moved)

-- a number of a value, 0 where there is none
abbrev number_of : (Fraction → ℕ) → Option Fraction → ℕ
number_of f None = 0
number_of f (Some value) = f value

find_other : (q : LabelSet) (samples : List Sample) → AllByRecursion (λ other. ties_with q other ≡ false) (label_sets samples) → find label_set_cmp q (pairs samples) ≡ None
find_other q [] h = refl
find_other q (sample ∷ samples) h = ap (λ b. cond b (Some sample.value) (find label_set_cmp q (pairs samples))) h.0 ∙ find_other q samples h.1

-- where label sets differ, a sum over the samples with one of them is of one sample
sum_found : (f : Fraction → ℕ) (q : LabelSet) (samples : List Sample) → IsDistinct ties_with (label_sets samples) → sum_by (λ s. cond (ties_with q s.labels) (f s.value) 0) samples ≡ number_of f (find label_set_cmp q (pairs samples))
sum_found f q [] differ = refl
sum_found f q (sample ∷ samples) differ =
    let rest = sum_found f q samples (IsDistinct-tail ties_with sample.labels (label_sets samples) differ) in
    let apart = IsDistinct-head ties_with sample.labels (label_sets samples) differ in
    sum_by-cons (λ s. cond (ties_with q s.labels) (f s.value) 0) sample samples
    ∙ ap (λ n. cond (ties_with q sample.labels) (f sample.value) 0 + n) rest
    ∙ elim (ties_with q sample.labels) as (λ b. ties_with q sample.labels ≡ b → cond b (f sample.value) 0 + number_of f (find label_set_cmp q (pairs samples)) ≡ number_of f (cond b (Some sample.value) (find label_set_cmp q (pairs samples)))) [
      | true ↦ λ is.
          let same : q ≡ sample.labels = label_set_eq-true q sample.labels (label_set_eq-cmp q sample.labels ∙ is) in
          omega (arith, ap (number_of f) (ap (λ k. find label_set_cmp k (pairs samples)) same ∙ find_other sample.labels samples apart))
      | false ↦ λ _. omega arith
    ] refl

same_option : (a b : Option Fraction) → number_of (λ _. 1) a ≡ number_of (λ _. 1) b → number_of (λ v. v.numerator) a ≡ number_of (λ v. v.numerator) b → number_of (λ v. v.denominator) a ≡ number_of (λ v. v.denominator) b → a ≡ b
same_option None None one above below = refl
same_option None (Some w) one above below = absurd (omega (arith, one))
same_option (Some v) None one above below = absurd (omega (arith, one))
same_option (Some v) (Some w) one above below = λ i. Some (record { numerator = above i; denominator = below i })

samples_again : (samples : List Sample) → map sample_of (pairs samples) ≡ samples
samples_again [] = refl
samples_again (sample ∷ samples) = ap (λ rest. sample ∷ rest) (samples_again samples)

-- vectors whose label sets rise and whose sums are all equal are one
same_vector : (samples others : List Sample) → T (is_sorted label_set_cmp (pairs samples)) → T (is_sorted label_set_cmp (pairs others)) → IsDistinct ties_with (label_sets samples) → IsDistinct ties_with (label_sets others) → ((f : Sample → ℕ) → sum_by f samples ≡ sum_by f others) → samples ≡ others
same_vector samples others up up_too differ differ_too sums =
    let found : (f : Fraction → ℕ) (q : LabelSet) → number_of f (find label_set_cmp q (pairs samples)) ≡ number_of f (find label_set_cmp q (pairs others)) = λ f q.
    sym (sum_found f q samples differ) ∙ sums (λ s. cond (ties_with q s.labels) (f s.value) 0) ∙ sum_found f q others differ_too in
    sym (samples_again samples)
    ∙ ap (map sample_of) (same_entries label_set_cmp label_set_cmp_total label_set_cmp-IsAntisymmetric (pairs samples) (pairs others) up up_too (λ q. same_option _ _ (found (λ _. 1) q) (found (λ v. v.numerator) q) (found (λ v. v.denominator) q)))
    ∙ samples_again others

pairs-filter : (p : Sample → Bool) (samples : List Sample) → filter (λ e. p (sample_of e)) (pairs samples) ≡ pairs (filter p samples)
pairs-filter p [] = refl
pairs-filter p (sample ∷ samples) =
    elim (p sample) as (λ b. cond b ((sample.labels, sample.value) ∷ filter (λ e. p (sample_of e)) (pairs samples)) (filter (λ e. p (sample_of e)) (pairs samples)) ≡ pairs (cond b (sample ∷ filter p samples) (filter p samples))) [
      | true ↦ ap (λ rest. (sample.labels, sample.value) ∷ rest) (pairs-filter p samples)
      | false ↦ pairs-filter p samples
    ]

kept_differ : (p : Sample → Bool) (samples : List Sample) → IsDistinct ties_with (label_sets samples) → IsDistinct ties_with (label_sets (filter p samples))
kept_differ p samples differ = subst (λ es. IsDistinct ties_with (keys_of es)) (pairs-filter p samples) (IsDistinct-keys_filter ties_with (λ e. p (sample_of e)) (pairs samples) differ)

-- label sets that are sorted and differ rise
sorted_rise : (samples : List Sample) → IsSorted sample_cmp samples → IsDistinct ties_with (label_sets samples) → IsStrictlySortedBy label_set_cmp (label_sets samples)
unfolding IsStrictlySortedBy
sorted_rise [] sorted differ = tt
sorted_rise (first ∷ samples) sorted differ =
    let all = first ∷ samples in
    sorted_from_all_adjacent label_set_cmp_total (label_sets all) first.labels (λ k within.
    let more : k + 1 < length all = omega (arith, label_count all) in
    (λ i. label_set_cmp (label_at all k first.labels first (omega arith) i) (label_at all (k + 1) first.labels first more i))
    ∙ below_other (get_or all k first).labels (get_or all (k + 1) first).labels (sorted k first (omega arith) more)
    ((λ i. ties_with (sym (label_at all k first.labels first (omega arith)) i) (sym (label_at all (k + 1) first.labels first more) i)) ∙ apart_from_distinct ties_with (label_sets all) k (k + 1) first.labels differ (omega arith) within))

-- what is kept by ranks and sorted by labels is what is kept of the vector
pub sorted_back : (k : ℕ) (g : Grouping) (samples others kept made : List Sample) → rises samples ≡ true → IsPermutation samples others → kept ≡ filter (is_among_first k g others) others → IsPermutation kept made → IsSorted sample_cmp made → made ≡ filter (is_among_first k g samples) samples
sorted_back k g samples others kept made up moved are moved_back sorted =
    let p = is_among_first k g samples in
    let higher = strictly samples up in
    let differ = IsDistinct-from_sorted label_set_cmp (label_sets samples) higher in
    let same : kept ≡ filter p others = are ∙ filter_agree (is_among_first k g others) p (same_first k g samples others moved) others in
    let kept_apart : IsDistinct ties_with (label_sets kept) = subst (λ l. IsDistinct ties_with (label_sets l)) (sym same) (kept_differ p others (still_differ samples others moved differ)) in
    let made_apart = still_differ kept made moved_back kept_apart in
    same_vector made (filter p samples)
    (sorted_entries label_set_cmp (pairs made) (sorted_rise made sorted made_apart))
    (T_from_true _ (rises-filter p samples up))
    made_apart
    (kept_differ p samples differ)
    (λ f. sum_by-IsPermutation f kept made moved_back ∙ ap (sum_by f) same ∙ sum_by-kept f p samples others moved)
