-- Vector aggregations: what one more sample makes of groups, and what vectors of them keep: the order of their label sets,
-- their divisor, and the bounds of their length and of the sum of their numerators.
use Rattle.std.specs.Prelude.{◌≡◌, ℕ, ◌+◌, ◌≤◌, ◌==◌, min, max, Bool, true, false, cond, not, ◌||◌, List, [], ◌∷◌, ◌++◌, map, length, Option, None, Some, is_some, refl}
use Rattle.std.specs.List.{filter, list_any}
use Rattle.std.specs.Ordering.{eq_by_cmp, is_lt, is_eq}
use Rattle.std.specs.declared.cmp.Ordering.{Ordering}
use Rattle.std.specs.declared.cmp.Ordering.TheVariants.{Less, Equal, Greater}
use Rattle.std.specs.FinMap.{get, insert, entries, empty, len, entries_sorted, entries-insert, get-entries, get-insert, get-from_entries, len-insert, len-empty, len-entries, same_map}
use Rattle.std.specs.FinMap.Entries.{find, put, by_order, is_sorted, below_all}
use Rattle.std.proofs.Common.{sym, ap, subst, ◌∙◌, arith, append_assoc, length-append}
use Rattle.std.proofs.lemmas.Bool.{and_parts, and_from, true≢false}
use Rattle.std.proofs.lemmas.List.{append-nil, length-map}
use Rattle.std.proofs.lemmas.List.Elements.{filter-append}
use Rattle.std.proofs.lemmas.List.Folds.{list_any-append, list_all-append}
use Rattle.std.proofs.lemmas.List.Sums.{sum_by-cons, sum_by_push, length-filter, count_by-le-length}
use Rattle.rl_plain.specs.laws.Bools.{true_from}
use Rattle.rl_labels.specs.LabelSet.{LabelSet}
use Rattle.rl_labels.specs.LabelText.{label_set_cmp, label_set_eq}
use Rattle.rl_labels.specs.laws.TextLaws.{label_set_cmp_total, label_set_cmp-IsAntisymmetric, label_set_eq-true}
use Rattle.rl_query.specs.declared.aggregation.Grouping.{Grouping}
use Rattle.rl_query.specs.declared.aggregation.VectorOperator.{VectorOperator}
use Rattle.rl_query.specs.declared.aggregation.VectorOperator.TheVariants.{Sum, Count, Min, Max, Topk}
use Rattle.rl_query.specs.declared.aggregation.Aggregation.{Aggregation}
use Rattle.rl_aggregate.specs.GroupsMap.{GroupsMap, first_value, next_value, with_value, numerator_at}
use Rattle.rl_aggregate.specs.Grouping.{group_of, is_in, part, total, least, greatest, group_value, groups, sample_of, grouped, is_among_first, aggregated, aggregated_by, rises, have_divisor, divisor_after, divisor_by}
use Rattle.rl_aggregate.specs.laws.Totals.{label_set_eq-cmp}
use Rattle.rl_aggregate.specs.declared.outcome.Fraction.{Fraction}
use Rattle.rl_aggregate.specs.declared.outcome.Sample.{Sample}

abbrev Entry : Type 0
Entry = LabelSet × Fraction

abbrev is_empty : List Sample → Bool
is_empty [] = true
is_empty (sample ∷ samples) = false

nothing : (es : List Entry) → length es ≡ 0 → es ≡ []
nothing [] none = refl
nothing (e ∷ es) none = absurd (omega arith)

no_entries : entries (empty {X = Fraction} {R = label_set_cmp}) ≡ []
no_entries = nothing _ (sym (len-entries empty) ∙ len-empty label_set_cmp Fraction)

-- ONE MORE SAMPLE

-- a value for each of some label sets
find_keyed : (f : LabelSet → Fraction) (g : Grouping) (q : LabelSet) (samples : List Sample) → find label_set_cmp q (map (λ sample. (group_of g sample.labels, f (group_of g sample.labels))) samples) ≡ cond (list_any (is_in g q) samples) (Some (f q)) None
find_keyed f g q [] = refl
find_keyed f g q (sample ∷ samples) =
    let key = group_of g sample.labels in
    let rest = find_keyed f g q samples in
    ap (λ b. cond b (Some (f key)) (find label_set_cmp q (map (λ sample. (group_of g sample.labels, f (group_of g sample.labels))) samples))) (sym (label_set_eq-cmp q key))
    ∙ elim (label_set_eq q key) as (λ b. label_set_eq q key ≡ b → cond b (Some (f key)) (find label_set_cmp q (map (λ sample. (group_of g sample.labels, f (group_of g sample.labels))) samples)) ≡ cond (b || list_any (is_in g q) samples) (Some (f q)) None) [
      | true ↦ λ is. ap (λ k. Some (f k)) (sym (label_set_eq-true q key is))
      | false ↦ λ _. rest
    ] refl

-- a group is there where a sample is in it, and has the value of its part
pub get-groups : (operator : VectorOperator) (g : Grouping) (samples : List Sample) (q : LabelSet) → get (groups operator g samples) q ≡ cond (list_any (is_in g q) samples) (Some (group_value operator (part g q samples))) None
get-groups operator g samples q = get-from_entries label_set_cmp_total _ q ∙ find_keyed (λ k. group_value operator (part g k samples)) g q samples

-- the value of a group with its first sample
group_value-first : (operator : VectorOperator) (sample : Sample) → group_value operator (sample ∷ []) ≡ first_value operator sample.value
group_value-first Sum sample =
    let sum : total (sample ∷ []) ≡ sample.value.numerator = omega (arith, sum_by-cons (λ s. s.value.numerator) sample []) in
    λ i. record { numerator = sum i; denominator = sample.value.denominator }
group_value-first Count sample = refl
group_value-first Min sample = refl
group_value-first Max sample =
    let most : max sample.value.numerator 0 ≡ sample.value.numerator = omega arith in
    λ i. record { numerator = most i; denominator = sample.value.denominator }
group_value-first (Topk k) sample =
    let most : max sample.value.numerator 0 ≡ sample.value.numerator = omega arith in
    λ i. record { numerator = most i; denominator = sample.value.denominator }

least-push : (sample : Sample) (samples : List Sample) (other : Sample) → least ((sample ∷ samples) ++ other ∷ []) ≡ min (least (sample ∷ samples)) other.value.numerator
least-push sample [] other = refl
least-push sample (next ∷ samples) other = omega (arith, least-push next samples other)

greatest-push : (samples : List Sample) (other : Sample) → greatest (samples ++ other ∷ []) ≡ max (greatest samples) other.value.numerator
greatest-push [] other = omega arith
greatest-push (sample ∷ samples) other = omega (arith, greatest-push samples other)

-- and with one more after others
group_value-push : (operator : VectorOperator) (sample : Sample) (samples : List Sample) (other : Sample) → group_value operator ((sample ∷ samples) ++ other ∷ []) ≡ next_value operator (group_value operator (sample ∷ samples)) other.value
group_value-push Sum sample samples other = λ i. record { numerator = sum_by_push (λ s. s.value.numerator) (sample ∷ samples) other i; denominator = sample.value.denominator }
group_value-push Count sample samples other =
    let more : length ((sample ∷ samples) ++ other ∷ []) ≡ length (sample ∷ samples) + 1 = omega (arith, length-append (sample ∷ samples) (other ∷ [])) in
    λ i. record { numerator = more i; denominator = 1 }
group_value-push Min sample samples other = λ i. record { numerator = least-push sample samples other i; denominator = sample.value.denominator }
group_value-push Max sample samples other = λ i. record { numerator = greatest-push (sample ∷ samples) other i; denominator = sample.value.denominator }
group_value-push (Topk k) sample samples other = λ i. record { numerator = greatest-push (sample ∷ samples) other i; denominator = sample.value.denominator }

-- a group is there where its part has a sample
group_value-with : (operator : VectorOperator) (g : Grouping) (q : LabelSet) (samples : List Sample) (other : Sample) → group_value operator (part g q samples ++ other ∷ []) ≡ with_value operator (cond (list_any (is_in g q) samples) (Some (group_value operator (part g q samples))) None) other.value
group_value-with operator g q samples other = by_part (part g q samples) (list_any (is_in g q) samples) (any_part samples)
  where
    any_part : (samples : List Sample) → list_any (is_in g q) samples ≡ not (is_empty (part g q samples))
    any_part [] = refl
    any_part (sample ∷ samples) = elim (is_in g q sample) as (λ b. (b || list_any (is_in g q) samples) ≡ not (is_empty (cond b (sample ∷ part g q samples) (part g q samples)))) [ true ↦ refl | false ↦ any_part samples ]

    by_part : (members : List Sample) (b : Bool) → b ≡ not (is_empty members) → group_value operator (members ++ other ∷ []) ≡ with_value operator (cond b (Some (group_value operator members)) None) other.value
    by_part [] b is = group_value-first operator other ∙ ap (λ b. with_value operator (cond b (Some (group_value operator [])) None) other.value) (sym is)
    by_part (sample ∷ members) b is = group_value-push operator sample members other ∙ ap (λ b. with_value operator (cond b (Some (group_value operator (sample ∷ members))) None) other.value) (sym is)

-- one more sample changes the value of its group
pub groups-push : (operator : VectorOperator) (g : Grouping) (samples : List Sample) (other : Sample) → groups operator g (samples ++ other ∷ []) ≡ insert (groups operator g samples) (group_of g other.labels) (with_value operator (get (groups operator g samples) (group_of g other.labels)) other.value)
groups-push operator g samples other = same_map label_set_cmp_total label_set_cmp-IsAntisymmetric _ _ (λ q.
    let before = groups operator g samples in
    let key = group_of g other.labels in
    let any = list_any (is_in g q) samples in
    get-groups operator g (samples ++ other ∷ []) q
    ∙ (λ i. cond (list_any-append (is_in g q) samples (other ∷ []) i) (Some (group_value operator (filter-append (is_in g q) samples (other ∷ []) i))) None)
    ∙ elim (label_set_eq q key) as (λ b. label_set_eq q key ≡ b → cond (any || (b || false)) (Some (group_value operator (part g q samples ++ cond b (other ∷ []) []))) None ≡ cond b (Some (with_value operator (get before key) other.value)) (get before q)) [
      | true ↦ λ is.
          (λ i. cond (or_true any i) (Some (group_value-with operator g q samples other i)) None)
          ∙ ap (λ o. Some (with_value operator o other.value)) (sym (get-groups operator g samples q))
          ∙ ap (λ k. Some (with_value operator (get before k) other.value)) (label_set_eq-true q key is)
      | false ↦ λ _.
          (λ i. cond (or_false any i) (Some (group_value operator (append-nil (part g q samples) i))) None) ∙ sym (get-groups operator g samples q)
    ] refl
    ∙ ap (λ b. cond b (Some (with_value operator (get before key) other.value)) (get before q)) (label_set_eq-cmp q key)
    ∙ sym (get-insert label_set_cmp_total before key (with_value operator (get before key) other.value) q))
  where
    or_true : (b : Bool) → (b || true) ≡ true
    or_true true = refl
    or_true false = refl

    or_false : (b : Bool) → (b || false) ≡ b
    or_false true = refl
    or_false false = refl

-- what holds of no groups and stays with one more sample holds of the groups of any
groups_hold : (operator : VectorOperator) (g : Grouping) (P : List Sample → GroupsMap → Type 0) → P [] empty → ((done : List Sample) (other : Sample) (m : GroupsMap) → P done m → P (done ++ other ∷ []) (insert m (group_of g other.labels) (with_value operator (get m (group_of g other.labels)) other.value))) → (samples : List Sample) → P samples (groups operator g samples)
groups_hold operator g P start step samples = following [] samples start
  where
    following : (done rest : List Sample) → P done (groups operator g done) → P (done ++ rest) (groups operator g (done ++ rest))
    following done [] held = subst (λ l. P l (groups operator g l)) (sym (append-nil done)) held
    following done (other ∷ rest) held =
        subst (λ l. P l (groups operator g l)) (append_assoc done (other ∷ []) rest)
        (following (done ++ other ∷ []) rest (subst (P (done ++ other ∷ [])) (sym (groups-push operator g done other)) (step done other (groups operator g done) held)))

-- ONE ENTRY SET

less : (o : Ordering) → is_lt o ≡ true → o ≡ Less
less Less h = refl
less Equal h = absurd (true≢false (sym h))
less Greater h = absurd (true≢false (sym h))

find_lower : (k l : LabelSet) (es : List Entry) → label_set_cmp k l ≡ Less → below_all label_set_cmp l es ≡ true → find label_set_cmp k es ≡ None
find_lower k l [] lower below = refl
find_lower k l (e ∷ es) lower below =
    let parts = and_parts (is_lt (label_set_cmp l e.0)) (below_all label_set_cmp l es) below in
    ap (λ o. cond (is_eq o) (Some e.1) (find label_set_cmp k es)) (label_set_cmp_total.trans k l e.0 lower (less _ parts.0)) ∙ find_lower k l es lower parts.1

total-put : (k : LabelSet) (v : Fraction) (es : List Entry) → is_sorted label_set_cmp es ≡ true → total (map sample_of (put label_set_cmp k v es)) + numerator_at (find label_set_cmp k es) ≡ total (map sample_of es) + v.numerator
total-put k v [] sorted = omega (arith, sum_by-cons (λ s. s.value.numerator) (sample_of (k, v)) [])
total-put k v (e ∷ es) sorted =
    let parts = and_parts (below_all label_set_cmp e.0 es) (is_sorted label_set_cmp es) sorted in
    let first = sum_by-cons (λ s. s.value.numerator) (sample_of e) (map sample_of es) in
    elim (label_set_cmp k e.0) as (λ o. label_set_cmp k e.0 ≡ o → total (map sample_of (by_order o ((k, v) ∷ e ∷ es) ((e.0, v) ∷ es) (e ∷ put label_set_cmp k v es))) + numerator_at (cond (is_eq o) (Some e.1) (find label_set_cmp k es)) ≡ total (map sample_of (e ∷ es)) + v.numerator) [
      | Less ↦ λ lower. omega (arith, ap numerator_at (find_lower k e.0 es lower parts.0), sum_by-cons (λ s. s.value.numerator) (sample_of (k, v)) (map sample_of (e ∷ es)))
      | Equal ↦ λ _. omega (arith, first, sum_by-cons (λ s. s.value.numerator) (sample_of (e.0, v)) (map sample_of es))
      | Greater ↦ λ _. omega (arith, first, sum_by-cons (λ s. s.value.numerator) (sample_of e) (map sample_of (put label_set_cmp k v es)), total-put k v es parts.1)
    ] refl

numerator-find : (k : LabelSet) (es : List Entry) → numerator_at (find label_set_cmp k es) ≤ total (map sample_of es)
numerator-find k [] = omega arith
numerator-find k (e ∷ es) =
    let first = sum_by-cons (λ s. s.value.numerator) (sample_of e) (map sample_of es) in
    elim (eq_by_cmp label_set_cmp k e.0) as (λ b. numerator_at (cond b (Some e.1) (find label_set_cmp k es)) ≤ total (map sample_of (e ∷ es))) [
      | true ↦ omega (arith, first)
      | false ↦ omega (arith, first, numerator-find k es)
    ]

have_divisor-put : (n : ℕ) (k : LabelSet) (v : Fraction) (es : List Entry) → (v.denominator == n) ≡ true → have_divisor n (map sample_of es) ≡ true → have_divisor n (map sample_of (put label_set_cmp k v es)) ≡ true
have_divisor-put n k v [] fits all = and_from _ _ fits refl
have_divisor-put n k v (e ∷ es) fits all =
    let parts = and_parts (e.1.denominator == n) (have_divisor n (map sample_of es)) all in
    elim (label_set_cmp k e.0) as (λ o. have_divisor n (map sample_of (by_order o ((k, v) ∷ e ∷ es) ((e.0, v) ∷ es) (e ∷ put label_set_cmp k v es))) ≡ true) [
      | Less ↦ and_from _ _ fits all
      | Equal ↦ and_from _ _ fits parts.1
      | Greater ↦ and_from _ _ parts.0 (have_divisor-put n k v es fits parts.1)
    ]

-- a value that may be missing has the divisor
abbrev has_divisor : ℕ → Option Fraction → Bool
has_divisor n None = true
has_divisor n (Some value) = value.denominator == n

has_divisor-find : (n : ℕ) (k : LabelSet) (es : List Entry) → have_divisor n (map sample_of es) ≡ true → has_divisor n (find label_set_cmp k es) ≡ true
has_divisor-find n k [] all = refl
has_divisor-find n k (e ∷ es) all =
    let parts = and_parts (e.1.denominator == n) (have_divisor n (map sample_of es)) all in
    elim (eq_by_cmp label_set_cmp k e.0) as (λ b. has_divisor n (cond b (Some e.1) (find label_set_cmp k es)) ≡ true) [
      | true ↦ parts.0
      | false ↦ has_divisor-find n k es parts.1
    ]

divisor-with_value : (n : ℕ) (operator : VectorOperator) (group : Option Fraction) (value : Fraction) → has_divisor (divisor_after operator n) group ≡ true → (value.denominator == n) ≡ true → ((with_value operator group value).denominator == divisor_after operator n) ≡ true
divisor-with_value n Sum None value before fits = fits
divisor-with_value n Count None value before fits = refl
divisor-with_value n Min None value before fits = fits
divisor-with_value n Max None value before fits = fits
divisor-with_value n (Topk k) None value before fits = fits
divisor-with_value n Sum (Some group) value before fits = before
divisor-with_value n Count (Some group) value before fits = before
divisor-with_value n Min (Some group) value before fits = before
divisor-with_value n Max (Some group) value before fits = before
divisor-with_value n (Topk k) (Some group) value before fits = before

-- what one sample adds to the sum of the numerators, at most
abbrev most_of : VectorOperator → Fraction → ℕ
most_of Count value = 1
most_of _ value = value.numerator

numerator-with_value : (operator : VectorOperator) (group : Option Fraction) (value : Fraction) → (with_value operator group value).numerator ≤ numerator_at group + most_of operator value
numerator-with_value Sum None value = omega arith
numerator-with_value Count None value = omega arith
numerator-with_value Min None value = omega arith
numerator-with_value Max None value = omega arith
numerator-with_value (Topk k) None value = omega arith
numerator-with_value Sum (Some group) value = omega arith
numerator-with_value Count (Some group) value = omega arith
numerator-with_value Min (Some group) value = omega arith
numerator-with_value Max (Some group) value = omega arith
numerator-with_value (Topk k) (Some group) value = omega arith

-- VECTORS OF GROUPS

-- samples made of entries are those entries
back_again : (es : List Entry) → map (λ sample. (sample.labels, sample.value)) (map sample_of es) ≡ es
back_again [] = refl
back_again (e ∷ es) = ap (λ rest. e ∷ rest) (back_again es)

rises-grouped : (operator : VectorOperator) (grouping : Grouping) (samples : List Sample) → rises (grouped operator grouping samples) ≡ true
rises-grouped operator grouping samples =
    let m = groups operator grouping samples in
    ap (is_sorted label_set_cmp) (back_again (entries m)) ∙ true_from _ (entries_sorted m)

-- what is kept of a vector that rises does
pub rises-filter : (p : Sample → Bool) (samples : List Sample) → rises samples ≡ true → rises (filter p samples) ≡ true
rises-filter p [] up = refl
rises-filter p (sample ∷ samples) up =
    let parts = and_parts (below_all label_set_cmp sample.labels (map (λ s. (s.labels, s.value)) samples)) (rises samples) up in
    let rest = rises-filter p samples parts.1 in
    elim (p sample) as (λ b. rises (cond b (sample ∷ filter p samples) (filter p samples)) ≡ true) [
      | true ↦ and_from _ _ (below samples parts.0) rest
      | false ↦ rest
    ]
  where
    below : (others : List Sample) → below_all label_set_cmp sample.labels (map (λ s. (s.labels, s.value)) others) ≡ true → below_all label_set_cmp sample.labels (map (λ s. (s.labels, s.value)) (filter p others)) ≡ true
    below [] h = refl
    below (other ∷ others) h =
        let parts = and_parts (is_lt (label_set_cmp sample.labels other.labels)) (below_all label_set_cmp sample.labels (map (λ s. (s.labels, s.value)) others)) h in
        elim (p other) as (λ b. below_all label_set_cmp sample.labels (map (λ s. (s.labels, s.value)) (cond b (other ∷ filter p others) (filter p others))) ≡ true) [
          | true ↦ and_from _ _ parts.0 (below others parts.1)
          | false ↦ below others parts.1
        ]

-- the label sets of an aggregated vector rise
pub rises-aggregated : (operator : VectorOperator) (grouping : Grouping) (samples : List Sample) → rises samples ≡ true → rises (aggregated operator grouping samples) ≡ true
rises-aggregated Sum grouping samples up = rises-grouped Sum grouping samples
rises-aggregated Count grouping samples up = rises-grouped Count grouping samples
rises-aggregated Min grouping samples up = rises-grouped Min grouping samples
rises-aggregated Max grouping samples up = rises-grouped Max grouping samples
rises-aggregated (Topk k) grouping samples up = rises-filter (is_among_first k grouping samples) samples up

pub rises-aggregated_by : (aggregations : List Aggregation) (samples : List Sample) → rises samples ≡ true → rises (aggregated_by aggregations samples) ≡ true
rises-aggregated_by [] samples up = up
rises-aggregated_by (aggregation ∷ aggregations) samples up = rises-aggregated aggregation.operator aggregation.grouping (aggregated_by aggregations samples) (rises-aggregated_by aggregations samples up)

have_divisor-grouped : (n : ℕ) (operator : VectorOperator) (grouping : Grouping) (samples : List Sample) → have_divisor n samples ≡ true → have_divisor (divisor_after operator n) (grouped operator grouping samples) ≡ true
have_divisor-grouped n operator grouping samples =
    groups_hold operator grouping (λ done m. have_divisor n done ≡ true → have_divisor (divisor_after operator n) (map sample_of (entries m)) ≡ true)
    (λ _. ap (λ es. have_divisor (divisor_after operator n) (map sample_of es)) no_entries)
    (λ done other m held one.
    let parts = and_parts (have_divisor n done) (have_divisor n (other ∷ [])) (sym (list_all-append (λ s. s.value.denominator == n) done (other ∷ [])) ∙ one) in
    let before = held parts.0 in
    let key = group_of grouping other.labels in
    let found = ap (has_divisor (divisor_after operator n)) (get-entries m key) ∙ has_divisor-find (divisor_after operator n) key (entries m) before in
    let value = with_value operator (get m key) other.value in
    ap (λ es. have_divisor (divisor_after operator n) (map sample_of es)) (entries-insert label_set_cmp_total m key value)
    ∙ have_divisor-put (divisor_after operator n) key value (entries m) (divisor-with_value n operator (get m key) other.value found (and_parts (other.value.denominator == n) true parts.1).0) before)
    samples

have_divisor-filter : (n : ℕ) (p : Sample → Bool) (samples : List Sample) → have_divisor n samples ≡ true → have_divisor n (filter p samples) ≡ true
have_divisor-filter n p [] one = refl
have_divisor-filter n p (sample ∷ samples) one =
    let parts = and_parts (sample.value.denominator == n) (have_divisor n samples) one in
    elim (p sample) as (λ b. have_divisor n (cond b (sample ∷ filter p samples) (filter p samples)) ≡ true) [
      | true ↦ and_from _ _ parts.0 (have_divisor-filter n p samples parts.1)
      | false ↦ have_divisor-filter n p samples parts.1
    ]

-- its values have one divisor where those of the vector have
pub have_divisor-aggregated : (n : ℕ) (operator : VectorOperator) (grouping : Grouping) (samples : List Sample) → have_divisor n samples ≡ true → have_divisor (divisor_after operator n) (aggregated operator grouping samples) ≡ true
have_divisor-aggregated n Sum grouping samples one = have_divisor-grouped n Sum grouping samples one
have_divisor-aggregated n Count grouping samples one = have_divisor-grouped n Count grouping samples one
have_divisor-aggregated n Min grouping samples one = have_divisor-grouped n Min grouping samples one
have_divisor-aggregated n Max grouping samples one = have_divisor-grouped n Max grouping samples one
have_divisor-aggregated n (Topk k) grouping samples one = have_divisor-filter n (is_among_first k grouping samples) samples one

pub have_divisor-aggregated_by : (n : ℕ) (aggregations : List Aggregation) (samples : List Sample) → have_divisor n samples ≡ true → have_divisor (divisor_by aggregations n) (aggregated_by aggregations samples) ≡ true
have_divisor-aggregated_by n [] samples one = one
have_divisor-aggregated_by n (aggregation ∷ aggregations) samples one = have_divisor-aggregated (divisor_by aggregations n) aggregation.operator aggregation.grouping (aggregated_by aggregations samples) (have_divisor-aggregated_by n aggregations samples one)

length-grouped : (operator : VectorOperator) (grouping : Grouping) (samples : List Sample) → length (grouped operator grouping samples) ≤ length samples
length-grouped operator grouping samples =
    let m = groups operator grouping samples in
    omega (
      arith,
      length-map (entries m) sample_of,
      len-entries m,
      groups_hold operator grouping (λ done m. len m ≤ length done) (omega (arith, len-empty label_set_cmp Fraction)) (λ done other m held.
          let key = group_of grouping other.labels in
          omega (arith, len-insert label_set_cmp_total m key (with_value operator (get m key) other.value), one_more (is_some (get m key)) (len m), length-append done (other ∷ []))) samples,
    )
  where
    one_more : (b : Bool) (n : ℕ) → cond b n (n + 1) ≤ n + 1
    one_more true n = omega arith
    one_more false n = omega arith

-- it is no longer than the vector
pub length-aggregated : (operator : VectorOperator) (grouping : Grouping) (samples : List Sample) → length (aggregated operator grouping samples) ≤ length samples
length-aggregated Sum grouping samples = length-grouped Sum grouping samples
length-aggregated Count grouping samples = length-grouped Count grouping samples
length-aggregated Min grouping samples = length-grouped Min grouping samples
length-aggregated Max grouping samples = length-grouped Max grouping samples
length-aggregated (Topk k) grouping samples = omega (arith, length-filter (is_among_first k grouping samples) samples, count_by-le-length (is_among_first k grouping samples) samples)

pub length-aggregated_by : (aggregations : List Aggregation) (samples : List Sample) → length (aggregated_by aggregations samples) ≤ length samples
length-aggregated_by [] samples = omega arith
length-aggregated_by (aggregation ∷ aggregations) samples = omega (arith, length-aggregated aggregation.operator aggregation.grouping (aggregated_by aggregations samples), length-aggregated_by aggregations samples)

-- its numerators add up to no more than those of the vector, or to its length where samples are counted
abbrev pub most_total : VectorOperator → List Sample → ℕ
most_total Count samples = length samples
most_total _ samples = total samples

pub most_total-within : (n : ℕ) (operator : VectorOperator) (samples : List Sample) → total samples ≤ n → length samples ≤ n → most_total operator samples ≤ n
most_total-within n Sum samples values few = values
most_total-within n Count samples values few = few
most_total-within n Min samples values few = values
most_total-within n Max samples values few = values
most_total-within n (Topk k) samples values few = values

most_total-push : (operator : VectorOperator) (samples : List Sample) (other : Sample) → most_total operator (samples ++ other ∷ []) ≡ most_total operator samples + most_of operator other.value
most_total-push Sum samples other = sum_by_push (λ s. s.value.numerator) samples other
most_total-push Count samples other = length-append samples (other ∷ [])
most_total-push Min samples other = sum_by_push (λ s. s.value.numerator) samples other
most_total-push Max samples other = sum_by_push (λ s. s.value.numerator) samples other
most_total-push (Topk k) samples other = sum_by_push (λ s. s.value.numerator) samples other

total-grouped : (operator : VectorOperator) (grouping : Grouping) (samples : List Sample) → total (grouped operator grouping samples) ≤ most_total operator samples
total-grouped operator grouping samples =
    groups_hold operator grouping (λ done m. total (map sample_of (entries m)) ≤ most_total operator done)
    (omega (arith, ap (λ es. total (map sample_of es)) no_entries))
    (λ done other m held.
    let key = group_of grouping other.labels in
    let value = with_value operator (get m key) other.value in
    omega (
      arith,
      ap (λ es. total (map sample_of es)) (entries-insert label_set_cmp_total m key value),
      total-put key value (entries m) (true_from _ (entries_sorted m)),
      numerator-with_value operator (get m key) other.value,
      ap numerator_at (get-entries m key),
      most_total-push operator done other,
    ))
    samples

-- the value of a group with one more sample is within the sum
pub numerator-next : (operator : VectorOperator) (grouping : Grouping) (samples : List Sample) (other : Sample) → (with_value operator (get (groups operator grouping samples) (group_of grouping other.labels)) other.value).numerator ≤ most_total operator (samples ++ other ∷ [])
numerator-next operator grouping samples other =
    let m = groups operator grouping samples in
    let key = group_of grouping other.labels in
    omega (
      arith,
      numerator-with_value operator (get m key) other.value,
      ap numerator_at (get-entries m key),
      numerator-find key (entries m),
      total-grouped operator grouping samples,
      most_total-push operator samples other,
    )

total-filter : (p : Sample → Bool) (samples : List Sample) → total (filter p samples) ≤ total samples
total-filter p [] = omega arith
total-filter p (sample ∷ samples) =
    let all = sum_by-cons (λ s. s.value.numerator) sample samples in
    elim (p sample) as (λ b. total (cond b (sample ∷ filter p samples) (filter p samples)) ≤ total (sample ∷ samples)) [
      | true ↦ omega (arith, all, sum_by-cons (λ s. s.value.numerator) sample (filter p samples), total-filter p samples)
      | false ↦ omega (arith, all, total-filter p samples)
    ]

pub total-aggregated : (operator : VectorOperator) (grouping : Grouping) (samples : List Sample) → total (aggregated operator grouping samples) ≤ most_total operator samples
total-aggregated Sum grouping samples = total-grouped Sum grouping samples
total-aggregated Count grouping samples = total-grouped Count grouping samples
total-aggregated Min grouping samples = total-grouped Min grouping samples
total-aggregated Max grouping samples = total-grouped Max grouping samples
total-aggregated (Topk k) grouping samples = total-filter (is_among_first k grouping samples) samples

-- so they stay within a bound of both
pub total-aggregated_by : (n : ℕ) (aggregations : List Aggregation) (samples : List Sample) → total samples ≤ n → length samples ≤ n → total (aggregated_by aggregations samples) ≤ n
total-aggregated_by n [] samples values few = values
total-aggregated_by n (aggregation ∷ aggregations) samples values few =
    let inner = aggregated_by aggregations samples in
    omega (
      arith,
      total-aggregated aggregation.operator aggregation.grouping inner,
      most_total-within n aggregation.operator inner (total-aggregated_by n aggregations samples values few) (omega (arith, length-aggregated_by aggregations samples)),
    )
