-- Merging the partials of shards: what each loop over the answers keeps, and that the numbers fit.
use Rattle.std.proofs.Common.{◌≡◌, ℕ, zero, suc, ◌+◌, ◌-◌, ◌*◌, ◌<◌, ◌≤◌, List, [], ◌∷◌, ◌++◌, length, get_or, drop, flat_map, cond, ◌||◌, Option, None, Some, is_some, option_to_list, refl, sym, ap, subst, ◌∙◌, append_assoc, add-one, arith}
use Rattle.std.specs.List.{AllByRecursion}
use Rattle.std.specs.Option.{unwrap_or}
use Rattle.std.specs.FinMap.{get, empty, get-empty}
use Rattle.std.proofs.lemmas.List.{at_drop_more, drop_all, get_or_default}
use Rattle.std.proofs.lemmas.List.Elements.{All-from_recursion}
use Rattle.rl_labels.specs.LabelText.{label_set_cmp}
use Rattle.rl_aggregate.specs.laws.Totals.{same_totals, get-both_totals}
use Rattle.rl_aggregate.specs.laws.Within.{within-fits, within-merge, within-more, within-none}
use Rattle.rl_aggregate.specs.Limited.{IsLimited, IsWithin}
use Rattle.rl_aggregate.specs.Partials.{both_totals, merge, Fits}
use Rattle.rl_aggregate.specs.TotalsMap.{no_total, plus, total_at}
use Rattle.rl_aggregate.specs.declared.volume.Volume.{Volume}
use Rattle.rl_aggregate.specs.declared.partial.Partial.{Partial}
use Rattle.rl_world.specs.Kept.{no_partial, merged_from, merged_terms}
use Rattle.rl_world.specs.ShardAnswers.{IsKept, HasTerm, most_in_shard, most_shards}
use Rattle.rl_world.specs.declared.opened.Gathered.{Gathered}

-- what is merged into no partial is itself
pub merge-into_nothing : (partial : Partial) → merge no_partial partial ≡ partial
merge-into_nothing partial =
    let errors : 0 + partial.errors ≡ partial.errors = omega arith in
    let totals : both_totals empty partial.totals ≡ partial.totals = same_totals _ _ (λ q.
    get-both_totals empty partial.totals q
    ∙ ap (λ t. cond (is_some t || is_some (get partial.totals q)) (Some (plus (unwrap_or t no_total) (total_at partial.totals q))) None) (get-empty label_set_cmp q)
    ∙ alone (get partial.totals q)) in
    λ i. record { errors = errors i; totals = totals i }
  where
    alone : (t : Option Volume) → cond (is_some t) (Some (plus no_total (unwrap_or t no_total))) None ≡ t
    alone None = refl
    alone (Some total) =
        let count : 0 + total.count ≡ total.count = omega arith in
        let bytes : 0 + total.bytes ≡ total.bytes = omega arith in
        λ i. Some (record { count = count i; bytes = bytes i })

-- numbers within what all shards hold are within the limits of one term
pub within-limited : (n : ℕ) (partial : Partial) → IsWithin n partial → n ≤ most_shards * most_in_shard → IsLimited partial
within-limited n partial within few = record {
  sets = omega (arith, within.sets);
  counts = omega (arith, within.counts);
  bytes = omega (arith, within.bytes);
}

abbrev ShardAnswer : Type 0
ShardAnswer = Option (Gathered (List Partial))

abbrev ShardAnswers : Type 0
ShardAnswers = List ShardAnswer

-- the sum so far, with the answers from index `i` on, is the merge of all answers, and `i` shards may hold its numbers
pub record IsSumBefore (term : ℕ) (answers : ShardAnswers) (i : ℕ) (sum : Partial) : Type 0 where
  pub all : merged_from sum term (flat_map option_to_list (drop i answers)) ≡ merged_from no_partial term (flat_map option_to_list answers)
  pub within : IsWithin (i * most_in_shard) sum

pub nothing_merged : (term : ℕ) (answers : ShardAnswers) → IsSumBefore term answers 0 no_partial
nothing_merged term answers = record { all = refl; within = within-none }

module _ (term : ℕ) (answers : ShardAnswers) (i : ℕ) (shard_answer : ShardAnswer) (sum : Partial) (inside : i < length answers) (answer_is : shard_answer ≡ get_or answers i shard_answer) (before : IsSumBefore term answers i sum) where
  -- what the answers from one on add is what it adds first, and then the others
  first_answer : (own : ShardAnswer) → shard_answer ≡ own → merged_from sum term (flat_map option_to_list (own ∷ drop (i + 1) answers)) ≡ merged_from no_partial term (flat_map option_to_list answers)
  first_answer own is =
      ap (λ first. merged_from sum term (flat_map option_to_list (first ∷ drop (i + 1) answers))) (sym is ∙ answer_is)
      ∙ sym (at_drop_more (λ left. merged_from sum term (flat_map option_to_list left)) answers i shard_answer inside)
      ∙ before.all

  -- a shard that was not asked adds nothing
  pub not_asked : shard_answer ≡ None → IsSumBefore term answers (i + 1) sum
  not_asked is = record { all = first_answer None is; within = within-more (i * most_in_shard) ((i + 1) * most_in_shard) sum (omega arith) before.within }

  module _ (answer : Gathered (List Partial)) (own : Partial) (each : AllByRecursion (HasTerm term) answers) (is : shard_answer ≡ Some answer) (own_is : own ≡ get_or answer.shown term own) where
    answer_has : HasTerm term (Some answer)
    answer_has = subst (HasTerm term) (sym answer_is ∙ is) (All-from_recursion _ answers each i shard_answer inside)

    own_within : IsWithin most_in_shard own
    own_within = subst (IsWithin most_in_shard) (sym own_is) (All-from_recursion _ answer.shown answer_has.1 term own answer_has.0)

    within_both : IsWithin ((i + 1) * most_in_shard) (merge sum own)
    within_both = within-more (i * most_in_shard + most_in_shard) _ (merge sum own) (omega arith) (within-merge _ _ sum own before.within own_within)

    -- one that was asked adds its partial of the term, and the sum fits
    pub asked : IsSumBefore term answers (i + 1) (merge sum own)
    asked = record {
      all = ap (λ shown. merged_from (merge sum shown) term (flat_map option_to_list (drop (i + 1) answers))) (own_is ∙ get_or_default answer.shown term own no_partial answer_has.0) ∙ first_answer (Some answer) is;
      within = within_both;
    }

    pub sum_fits : length answers ≤ most_shards → Fits (merge sum own)
    sum_fits few = within-fits ((i + 1) * most_in_shard) (merge sum own) within_both (omega arith)

-- the merge of one term more, before those that are left
pub merged_terms-more : (done : List Partial) (term terms : ℕ) (answers : List (Gathered (List Partial))) → term < terms → (done ++ merged_from no_partial term answers ∷ []) ++ merged_terms (term + 1) (terms - (term + 1)) answers ≡ done ++ merged_terms term (terms - term) answers
merged_terms-more done term terms answers inside =
    let next : term + 1 ≡ suc term = add-one term in
    let left : suc (terms - (term + 1)) ≡ terms - term = omega arith in
    append_assoc done (merged_from no_partial term answers ∷ []) (merged_terms (term + 1) (terms - (term + 1)) answers)
    ∙ ap (λ n. done ++ merged_from no_partial term answers ∷ merged_terms n (terms - (term + 1)) answers) next
    ∙ ap (λ n. done ++ merged_terms term n answers) left

-- there is one for each term
pub length-merged_terms : (term terms : ℕ) (answers : List (Gathered (List Partial))) → length (merged_terms term terms answers) ≡ terms
length-merged_terms term zero answers = refl
length-merged_terms term (suc more) answers = ap suc (length-merged_terms (suc term) more answers)

-- what all answers merge to is within what all shards may hold
merged-within : (term n : ℕ) (answers : ShardAnswers) (sum : Partial) → IsWithin n sum → AllByRecursion (HasTerm term) answers → IsWithin (n + length answers * most_in_shard) (merged_from sum term (flat_map option_to_list answers))
merged-within term n [] sum within each = within-more n _ sum (omega arith) within
merged-within term n (None ∷ answers) sum within each = within-more (n + length answers * most_in_shard) _ _ (omega arith) (merged-within term n answers sum within each.1)
merged-within term n (Some answer ∷ answers) sum within each =
    let own = get_or answer.shown term no_partial in
    let own_within : IsWithin most_in_shard own = All-from_recursion _ answer.shown each.0.1 term no_partial each.0.0 in
    within-more (n + most_in_shard + length answers * most_in_shard) _ _ (omega arith) (merged-within term (n + most_in_shard) answers (merge sum own) (within-merge n most_in_shard sum own within own_within) each.1)

-- an answer that has a partial for each term has one for this
has_term : (term terms : ℕ) (answers : ShardAnswers) → term < terms → AllByRecursion (IsKept terms) answers → AllByRecursion (HasTerm term) answers
has_term term terms [] inside kept = tt
has_term term terms (None ∷ answers) inside kept = (kept.0, has_term term terms answers inside kept.1)
has_term term terms (Some answer ∷ answers) inside kept = ((omega (arith, inside, kept.0.each), kept.0.within), has_term term terms answers inside kept.1)

-- so the merge of each term is within the limits of one
pub merged_terms-limited : (term more terms : ℕ) (answers : ShardAnswers) → length answers ≤ most_shards → term + more ≤ terms → AllByRecursion (IsKept terms) answers → AllByRecursion IsLimited (merged_terms term more (flat_map option_to_list answers))
merged_terms-limited term zero terms answers few inside kept = tt
merged_terms-limited term (suc more) terms answers few inside kept = (
  within-limited (0 + length answers * most_in_shard) _ (merged-within term 0 answers no_partial within-none (has_term term terms answers (omega arith) kept)) (omega arith),
  merged_terms-limited (suc term) more terms answers few (omega arith) kept,
)

-- one shard alone gives what it has
pub merged_terms-alone : (term more : ℕ) (answer : Gathered (List Partial)) → term + more ≡ length answer.shown → merged_terms term more (answer ∷ []) ≡ drop term answer.shown
merged_terms-alone term zero answer all = sym (drop_all term answer.shown (omega (arith, all)))
merged_terms-alone term (suc more) answer all =
    let own = get_or answer.shown term no_partial in
    ap (λ first. first ∷ merged_terms (suc term) more (answer ∷ [])) (merge-into_nothing own)
    ∙ ap (λ others. own ∷ others) (merged_terms-alone (suc term) more answer (omega (arith, all)) ∙ ap (λ n. drop n answer.shown) (sym (add-one term)))
    ∙ sym (at_drop_more (λ left. left) answer.shown term no_partial (omega (arith, all)))

-- so the merges of all answers are what the only one has
pub merged_terms-lone : (terms : ℕ) (answers : ShardAnswers) (shard_answer : ShardAnswer) (answer : Gathered (List Partial)) → length answers < 2 → 1 ≤ length answers → shard_answer ≡ get_or answers 0 shard_answer → shard_answer ≡ Some answer → AllByRecursion (IsKept terms) answers → answer.shown ≡ merged_terms 0 terms (flat_map option_to_list answers)
merged_terms-lone terms (first ∷ []) shard_answer answer one some is asked kept =
    let own : Some answer ≡ first = sym asked ∙ is in
    let has : IsKept terms (Some answer) = subst (IsKept terms) (sym own) kept.0 in
    let all : 0 + terms ≡ length answer.shown = omega (arith, has.each) in
    subst (λ first. answer.shown ≡ merged_terms 0 terms (flat_map option_to_list (first ∷ []))) own (sym (merged_terms-alone 0 terms answer all))
merged_terms-lone terms [] shard_answer answer one some is asked kept = absurd (omega (arith, some))
merged_terms-lone terms (first ∷ other ∷ answers) shard_answer answer one some is asked kept = absurd (omega (arith, one))
