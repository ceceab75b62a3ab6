-- Samples that are named, sorted and compared with their neighbours are those of which a rule makes its outcome.
use Rattle.std.proofs.Common.{◌≡◌, ℕ, zero, suc, ◌+◌, ◌<◌, ◌≤◌, Bool, true, false, cond, List, [], ◌∷◌, ◌++◌, map, length, get_or, take, drop, Option, None, Some, refl, sym, ap, subst, ◌∙◌, arith, add-one}
use Rattle.std.proofs.Math.ListN.{set}
use Rattle.std.specs.List.{list_any, dedup_from, AllByRecursion, IsDistinct}
use Rattle.std.specs.List.Sorted.{IsPermutation, IsSorted, IsStrictlySortedBy}
use Rattle.std.specs.Ordering.{eq_by_cmp, is_lt}
use Rattle.std.specs.Cmp.{eq_by_cmp_equiv}
use Rattle.std.specs.Cmp.Lexicographic.{texts_ties}
use Rattle.std.specs.FinMap.{entries, from_entries, same_map}
use Rattle.std.specs.Map.{keys_of, lookup}
use Rattle.std.proofs.lemmas.Bool.{or_parts, or_from, false≢true, true_from_ne_false}
use Rattle.std.proofs.lemmas.List.{length-map}
use Rattle.std.proofs.lemmas.List.Kept.{IsStrictlySortedBy-dedup}
use Rattle.std.proofs.lemmas.List.Sorted.{IsPermutation-map, IsPermutation-sym, Contains-permutation}
use Rattle.std.proofs.lemmas.Map.Keys.{IsDistinct-from_sorted, IsDistinct-IsPermutation}
use Rattle.std.proofs.lemmas.Map.Views.{Contains-from_lookup, lookup-from_Contains}
use Rattle.rl_plain.specs.laws.TreeMaps.{get-of_tree, entries-of_tree}
use Rattle.rl_labels.specs.LabelSet.{LabelSet}
use Rattle.rl_labels.specs.LabelText.{canonical_text, label_set_cmp, label_set_eq}
use Rattle.rl_labels.specs.laws.TextLaws.{label_set_cmp_total, label_set_cmp-IsAntisymmetric, label_set_eq-true}
use Rattle.rl_aggregate.specs.declared.outcome.Fraction.{Fraction}
use Rattle.rl_aggregate.specs.declared.outcome.Sample.{Sample}
use Rattle.rl_rules.specs.declared.rule.Rule.{Rule}
use Rattle.rl_rules.specs.declared.evaluation.RuleOutcome.{RuleOutcome}
use Rattle.rl_rules.specs.declared.evaluation.RuleOutcome.TheVariants as made
use Rattle.rl_rules.specs.declared.evaluation.Cause.TheVariants as causes
use Rattle.rl_rules.specs.Naming.{Naming, final_by}
use Rattle.rl_rules.specs.Outcomes.{final_labels, final_samples, has_same_labels, is_exceeded, in_order, outcome_of}
use Rattle.rl_rules.specs.Recording.{named, named_by, sample_cmp, has_same_neighbours}

-- the first of some items are changed, and then the next one
set_next : {A : Type 0} (f : A → A) (xs : List A) (i : ℕ) (d : A) → i < length xs → set (map f (take i xs) ++ drop i xs) i (f (get_or xs i d)) ≡ map f (take (suc i) xs) ++ drop (suc i) xs
set_next f [] i d h = absurd (omega arith)
set_next f (x ∷ xs) zero d h = refl
set_next f (x ∷ xs) (suc i) d h = ap (λ ys. f x ∷ ys) (set_next f xs i d (omega arith))

next_kept : {A : Type 0} (f : A → A) (xs : List A) (i : ℕ) (d : A) → i < length xs → get_or (map f (take i xs) ++ drop i xs) i d ≡ get_or xs i d
next_kept f [] i d h = absurd (omega arith)
next_kept f (x ∷ xs) zero d h = refl
next_kept f (x ∷ xs) (suc i) d h = next_kept f xs i d (omega arith)

-- one sample more is named
pub named_more : (naming : Naming) (old now : List Sample) (i : ℕ) (x : Sample) (labels : LabelSet) → i < length old → now ≡ map (named_by naming) (take i old) ++ drop i old → labels ≡ final_by naming (get_or now i x).labels
    → set now i (record { labels = labels; value = (get_or now i x).value }) ≡ map (named_by naming) (take (i + 1) old) ++ drop (i + 1) old
named_more naming old now i x labels within so_far set_to =
    let there : get_or now i x ≡ get_or old i x = ap (λ xs. get_or xs i x) so_far ∙ next_kept (named_by naming) old i x within in
    let made : ◌≡◌ {A = Sample} (record { labels = labels; value = (get_or now i x).value }) (named_by naming (get_or old i x)) =
    λ j. record { labels = (set_to ∙ ap (λ (s : Sample). final_by naming s.labels) there) j; value = (there j).value } in
    (λ j. set (so_far j) i (made j)) ∙ set_next (named_by naming) old i x within ∙ ap (λ n. map (named_by naming) (take n old) ++ drop n old) (sym (add-one i))

-- a list and more, cut to the length of the list, is the list
pub take_whole : (n : ℕ) (xs ys : List Sample) → n ≡ length xs → take n (xs ++ ys) ≡ xs
take_whole n [] ys h = ap (λ m. take m ys) h
take_whole zero (x ∷ xs) ys h = absurd (omega arith)
take_whole (suc n) (x ∷ xs) ys h = ap (λ zs. x ∷ zs) (take_whole n xs ys (omega arith))

-- at most one sample has no neighbour
pub no_neighbours : (samples : List Sample) → length samples ≤ 1 → has_same_neighbours samples ≡ false
no_neighbours [] h = refl
no_neighbours (sample ∷ []) h = refl
no_neighbours (sample ∷ next ∷ samples) h = absurd (omega arith)

abbrev FinalSample : Type 0
FinalSample = LabelSet × Fraction

-- samples as pairs, and back
abbrev pairs : List Sample → List FinalSample
pairs = map (λ sample. (sample.labels, sample.value))

final-pairs : (rule : Rule) (samples : List Sample) → final_samples rule samples ≡ pairs (map (named rule) samples)
final-pairs rule [] = refl
final-pairs rule (sample ∷ samples) = ap (λ es. (final_labels rule sample.labels, sample.value) ∷ es) (final-pairs rule samples)

back_again : (samples : List Sample) → map (λ (sample : FinalSample). record { labels = sample.0; value = sample.1 }) (pairs samples) ≡ samples
back_again [] = refl
back_again (sample ∷ samples) = ap (λ ss. sample ∷ ss) (back_again samples)

-- two label sets are one where they tie
abbrev ties : LabelSet → LabelSet → Bool
ties = eq_by_cmp label_set_cmp

same-ties : (s t : LabelSet) → label_set_eq s t ≡ ties s t
same-ties s t = texts_ties (canonical_text s) (canonical_text t)

flips : (s t : LabelSet) → ties s t ≡ ties t s
flips = (eq_by_cmp_equiv label_set_cmp_total).symm

-- no two samples have one label set where the sets differ
none_after : (s : LabelSet) (es : List FinalSample) → AllByRecursion (λ t. ties s t ≡ false) (keys_of es) → list_any (λ other. label_set_eq s other.0) es ≡ false
none_after s [] h = refl
none_after s (e ∷ es) h = or_from _ _ (same-ties s e.0 ∙ h.0) (none_after s es h.1)

all_after : (s : LabelSet) (es : List FinalSample) → list_any (λ other. label_set_eq s other.0) es ≡ false → AllByRecursion (λ t. ties s t ≡ false) (keys_of es)
all_after s [] h = tt
all_after s (e ∷ es) h =
    let parts = or_parts (label_set_eq s e.0) (list_any (λ other. label_set_eq s other.0) es) h in
    (sym (same-ties s e.0) ∙ parts.0, all_after s es parts.1)

none_same : (es : List FinalSample) → IsDistinct ties (keys_of es) → has_same_labels es ≡ false
unfolding IsDistinct
none_same [] h = refl
none_same (e ∷ es) h = or_from _ _ (none_after e.0 es h.0) (none_same es h.1)

all_differ : (es : List FinalSample) → has_same_labels es ≡ false → IsDistinct ties (keys_of es)
unfolding IsDistinct
all_differ [] h = tt
all_differ (e ∷ es) h =
    let parts = or_parts (list_any (λ other. label_set_eq e.0 other.0) es) (has_same_labels es) h in
    (all_after e.0 es parts.0, all_differ es parts.1)

-- neighbours have different label sets where all have
apart : (samples : List Sample) → IsDistinct ties (keys_of (pairs samples)) → has_same_neighbours samples ≡ false
unfolding IsDistinct
apart [] h = refl
apart (sample ∷ []) h = refl
apart (sample ∷ next ∷ samples) h = or_from _ _ (same-ties sample.labels next.labels ∙ h.0.0) (apart (next ∷ samples) h.1)

-- where neighbours have, no label set is dropped as that of the one before it
none_dropped : (sample : Sample) (samples : List Sample) → has_same_neighbours (sample ∷ samples) ≡ false → dedup_from (λ s t. label_set_eq t s) sample.labels (keys_of (pairs samples)) ≡ keys_of (pairs (sample ∷ samples))
none_dropped sample [] h = refl
none_dropped sample (next ∷ samples) h =
    let parts = or_parts (label_set_eq sample.labels next.labels) (has_same_neighbours (next ∷ samples)) h in
    ap (λ b. cond b (dedup_from (λ s t. label_set_eq t s) sample.labels (keys_of (pairs samples))) (sample.labels ∷ dedup_from (λ s t. label_set_eq t s) next.labels (keys_of (pairs samples)))) parts.0
    ∙ ap (λ ls. sample.labels ∷ ls) (none_dropped next samples parts.1)

labels_at : (samples : List Sample) (k : ℕ) (d : LabelSet) (e : Sample) → k < length (keys_of (pairs samples)) → get_or (keys_of (pairs samples)) k d ≡ (get_or samples k e).labels
labels_at [] k d e within = absurd (omega arith)
labels_at (sample ∷ samples) zero d e within = refl
labels_at (sample ∷ samples) (suc k) d e within = labels_at samples k d e (omega arith)

same_length : (samples : List Sample) → length (keys_of (pairs samples)) ≡ length samples
same_length [] = refl
same_length (sample ∷ samples) = ap suc (same_length samples)

-- and the label sets of sorted samples rise
rise : (samples : List Sample) → IsSorted sample_cmp samples → has_same_neighbours samples ≡ false → IsStrictlySortedBy label_set_cmp (keys_of (pairs samples))
unfolding IsStrictlySortedBy
rise [] sorted h = tt
rise (sample ∷ samples) sorted h =
    let all = sample ∷ samples in
    subst (IsStrictlySortedBy label_set_cmp) (none_dropped sample samples h) (IsStrictlySortedBy-dedup label_set_cmp_total {E = λ s t. label_set_eq t s} (λ s t. same-ties t s ∙ flips t s) (keys_of (pairs all)) (λ k d low high.
    (λ i. is_lt (label_set_cmp (labels_at all (k + 1) d sample high i) (labels_at all k d sample (omega arith) i))) ∙ sorted k sample low (omega (arith, same_length all))))

same_option : {A : Type 0} (o p : Option A) → ((x : A) → o ≡ Some x → p ≡ Some x) → ((x : A) → p ≡ Some x → o ≡ Some x) → o ≡ p
same_option None None to back = refl
same_option None (Some x) to back = back x refl
same_option (Some x) p to back = sym (to x refl)

-- samples whose label sets rise are those of the map of any permutation of them
in_map : (es fs : List FinalSample) → IsPermutation es fs → IsDistinct ties (keys_of es) → IsStrictlySortedBy label_set_cmp (keys_of fs) → entries (from_entries {R = label_set_cmp} es) ≡ fs
in_map es fs moved differ up =
    ap entries (same_map label_set_cmp_total label_set_cmp-IsAntisymmetric _ _ (λ q. get-of_tree label_set_cmp_total es q ∙ same_option _ _ (found es fs q moved (IsDistinct-from_sorted label_set_cmp (keys_of fs) up)) (found fs es q (IsPermutation-sym es fs moved) differ) ∙ sym (get-of_tree label_set_cmp_total fs q)))
    ∙ entries-of_tree label_set_cmp_total label_set_cmp-IsAntisymmetric fs up
  where
    found : (es fs : List FinalSample) (q : LabelSet) → IsPermutation es fs → IsDistinct ties (keys_of fs) → (v : Fraction) → lookup (ties q) es ≡ Some v → lookup (ties q) fs ≡ Some v
    found es fs q moved differ v is = lookup-from_Contains (eq_by_cmp_equiv label_set_cmp_total) q v fs differ (Contains-permutation es fs (q, v) moved (Contains-from_lookup (λ s t tied. label_set_eq-true s t (same-ties s t ∙ tied)) q v es is))

-- a permutation of samples with different label sets has different ones
still_differ : (samples others : List Sample) → IsPermutation samples others → IsDistinct ties (keys_of (pairs samples)) → IsDistinct ties (keys_of (pairs others))
still_differ samples others moved = IsDistinct-IsPermutation ties flips _ _ (IsPermutation-map (λ (e : FinalSample). e.0) _ _ (IsPermutation-map (λ (s : Sample). (s.labels, s.value)) samples others moved))

-- two tests decide which of the three is made of samples
module _ (rule : Rule) (limit : ℕ) (make : List Sample → RuleOutcome) (samples : List Sample) (exceeded : Bool) (count : is_exceeded limit (length samples) ≡ exceeded) where
  chosen : (b : Bool) → has_same_labels (pairs (map (named rule) samples)) ≡ b
      → outcome_of limit make (final_samples rule samples) ≡ cond b (made.Failed causes.SameLabels) (cond exceeded (made.Failed causes.LimitExceeded) (make (in_order (pairs (map (named rule) samples)))))
  chosen b is =
      (λ i. cond (has_same_labels (final-pairs rule samples i)) (made.Failed causes.SameLabels) (cond (is_exceeded limit (length-map {B = FinalSample} samples (λ sample. (final_labels rule sample.labels, sample.value)) i)) (made.Failed causes.LimitExceeded) (make (in_order (final-pairs rule samples i)))))
      ∙ (λ i. cond (is i) (made.Failed causes.SameLabels) (cond (count i) (made.Failed causes.LimitExceeded) (make (in_order (pairs (map (named rule) samples))))))

  -- two neighbours with one label set: the rule fails
  pub same_recorded : (sorted : List Sample) → IsPermutation (map (named rule) samples) sorted → has_same_neighbours sorted ≡ true → made.Failed causes.SameLabels ≡ outcome_of limit make (final_samples rule samples)
  same_recorded sorted moved neighbours =
      let ours = map (named rule) samples in
      let found : has_same_labels (pairs ours) ≡ true = true_from_ne_false _ (λ none. false≢true (sym (apart sorted (still_differ ours sorted moved (all_differ (pairs ours) none))) ∙ neighbours)) in
      sym (chosen true found)

  -- none: it fails for its limit, or what is made is made of the samples of the map
  pub order_recorded : (sorted : List Sample) → IsPermutation (map (named rule) samples) sorted → IsSorted sample_cmp sorted → has_same_neighbours sorted ≡ false
      → cond exceeded (made.Failed causes.LimitExceeded) (make sorted) ≡ outcome_of limit make (final_samples rule samples)
  order_recorded sorted moved up neighbours =
      let ours = map (named rule) samples in
      let higher = rise sorted up neighbours in
      let differ = still_differ sorted ours (IsPermutation-sym ours sorted moved) (IsDistinct-from_sorted label_set_cmp _ higher) in
      let listed : in_order (pairs ours) ≡ sorted = ap (map (λ (sample : FinalSample). record { labels = sample.0; value = sample.1 })) (in_map (pairs ours) (pairs sorted) (IsPermutation-map (λ (s : Sample). (s.labels, s.value)) ours sorted moved) differ higher) ∙ back_again sorted in
      sym (chosen false (none_same (pairs ours) differ) ∙ ap (λ ss. cond exceeded (made.Failed causes.LimitExceeded) (make ss)) listed)
