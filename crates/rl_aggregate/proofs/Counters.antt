-- Counters: what each accumulator has counted is within what the lines that came may add up to.
use Rattle.std.proofs.Common.{◌≡◌, ℕ, zero, suc, ◌+◌, ◌-◌, ◌≤◌, List, [], ◌∷◌, ◌++◌, length, map, take, drop, refl, subst, arith}
use Rattle.std.specs.List.{AllByRecursion}
use Rattle.rl_labels.specs.EntryParts.{longest_line}
use Rattle.rl_labels.specs.LabelSet.{LabelSet}
use Rattle.rl_query.specs.declared.stages.Stage.{Stage}
use Rattle.rl_aggregate.specs.Counter.{IsCounter}
use Rattle.rl_aggregate.specs.Limited.{IsWithin}
use Rattle.rl_aggregate.specs.Accumulators.{AccumulatorView, nothing_counted, with_line, HasRoom}
use Rattle.rl_aggregate.specs.laws.Within.{within-more, within-none, within-line}

all_weaker : {X : Type 0} (P Q : X → Type 0) → ((x : X) → P x → Q x) → (xs : List X) → AllByRecursion P xs → AllByRecursion Q xs
all_weaker P Q weaker [] all = all
all_weaker P Q weaker (x ∷ xs) all = (weaker x all.0, all_weaker P Q weaker xs all.1)

all_after : {X Y : Type 0} (P : X → Type 0) (Q : Y → Type 0) (f : X → Y) → ((x : X) → P x → Q (f x)) → (xs : List X) → AllByRecursion P xs → AllByRecursion Q (map f xs)
all_after P Q f keeps [] all = all
all_after P Q f keeps (x ∷ xs) all = (keeps x all.0, all_after P Q f keeps xs all.1)

-- also where the first of them were changed, and the others were not
all_partly : {X : Type 0} (P Q : X → Type 0) (f : X → X) → ((x : X) → P x → Q (f x)) → ((x : X) → P x → Q x) → (xs : List X) (i : ℕ) → AllByRecursion P xs → AllByRecursion Q (map f (take i xs) ++ drop i xs)
all_partly P Q f keeps weaker [] zero all = all
all_partly P Q f keeps weaker [] (suc i) all = all
all_partly P Q f keeps weaker (x ∷ xs) zero all = all_weaker P Q weaker (x ∷ xs) all
all_partly P Q f keeps weaker (x ∷ xs) (suc i) all = (keeps x all.0, all_partly P Q f keeps weaker xs i all.1)

-- a line was counted in the tallies up to an index
pub partly_counted : (labels : LabelSet) (text : List ℕ) → length text ≤ longest_line → (accumulators : List AccumulatorView) (i : ℕ) (lines : ℕ) → AllByRecursion (λ accumulator. IsWithin lines accumulator.found) accumulators
    → AllByRecursion (λ accumulator. IsWithin (lines + 1) accumulator.found) (map (with_line labels text) (take i accumulators) ++ drop i accumulators)
partly_counted labels text fits accumulators i lines all =
    all_partly (λ (accumulator : AccumulatorView). IsWithin lines accumulator.found) (λ (accumulator : AccumulatorView). IsWithin (lines + 1) accumulator.found) (with_line labels text)
    (λ accumulator within. within-line lines accumulator.found accumulator.running labels text fits within)
    (λ accumulator within. within-more lines (lines + 1) accumulator.found (omega arith) within)
    accumulators i all

-- nothing is within anything
nothing-within : (stages : List Stage) (lines : ℕ) → IsWithin lines (nothing_counted stages).found
nothing-within stages lines = within-more 0 lines (nothing_counted stages).found (omega arith) within-none

pub all_nothing : (lines : ℕ) (pipelines : List (List Stage)) → AllByRecursion (λ accumulator. IsWithin lines accumulator.found) (map nothing_counted pipelines)
all_nothing lines [] = tt
all_nothing lines (stages ∷ others) = (nothing-within stages lines, all_nothing lines others)

-- what is not none is some
pub some_left : (left : ℕ) → (left ≡ 0 → ⊥) → 1 ≤ left
some_left zero some = absurd (some refl)
some_left (suc left) some = omega arith

module _ {most left : ℕ} {accumulators : List AccumulatorView} (counter : IsCounter most left accumulators) where
  -- each accumulator has room
  pub counter-room : AllByRecursion (λ accumulator. HasRoom 0 accumulator.found) accumulators
  counter-room =
      let few = counter.few in
      all_weaker (λ (accumulator : AccumulatorView). IsWithin (most - left) accumulator.found) (λ (accumulator : AccumulatorView). HasRoom 0 accumulator.found) (λ accumulator within. (most - left, omega (arith, few), within)) accumulators counter.within

  -- for a line more, where one may come
  pub counter-room-more : 1 ≤ left → AllByRecursion (λ accumulator. HasRoom 1 accumulator.found) accumulators
  counter-room-more some =
      let few = counter.few in
      let less = counter.fewer in
      all_weaker (λ (accumulator : AccumulatorView). IsWithin (most - left) accumulator.found) (λ (accumulator : AccumulatorView). HasRoom 1 accumulator.found) (λ accumulator within. (most - left, omega (arith, few, less, some), within)) accumulators counter.within

  -- and is a counter of one line more
  pub counter-more : 1 ≤ left → (more : List AccumulatorView) → AllByRecursion (λ accumulator. IsWithin (most - left + 1) accumulator.found) more → IsCounter most (left - 1) more
  counter-more some more within =
      let less = counter.fewer in
      let lines : most - left + 1 ≡ most - (left - 1) = omega (arith, less, some) in record {
        few = counter.few;
        fewer = omega (arith, less);
        within = subst (λ n. AllByRecursion (λ (accumulator : AccumulatorView). IsWithin n accumulator.found) more) lines within;
      }

  -- all that was counted is within what may be counted
  pub counter-within : AllByRecursion (IsWithin most) (map (λ accumulator. accumulator.found) accumulators)
  counter-within = all_after (λ (accumulator : AccumulatorView). IsWithin (most - left) accumulator.found) (IsWithin most) (λ accumulator. accumulator.found) (λ accumulator within. within-more (most - left) most accumulator.found (omega arith) within) accumulators counter.within
