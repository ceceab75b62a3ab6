-- What totals answer: with one added or taken out at a label set, and merged.
use Rattle.std.specs.Prelude.{◌≡◌, ◌+◌, ◌-◌, ◌==◌, true, false, cond, ◌||◌, List, [], ◌∷◌, ◌++◌, map, Option, None, Some, is_some, refl}
use Rattle.std.specs.Option.{unwrap_or}
use Rattle.std.specs.List.{list_any}
use Rattle.std.specs.Ordering.{eq_by_cmp}
use Rattle.std.specs.Cmp.Lexicographic.{texts_ties}
use Rattle.std.specs.FinMap.{get, insert, remove, keys, get-from_entries, get-insert, get-remove, contains_key-keys, same_map}
use Rattle.std.specs.FinMap.Entries.{find}
use Rattle.std.proofs.Common.{sym, ap, ◌∙◌, arith}
use Rattle.std.proofs.lemmas.List.Folds.{list_any-append}
use Rattle.rl_labels.specs.LabelSet.{LabelSet}
use Rattle.rl_labels.specs.LabelText.{canonical_text, label_set_cmp, label_set_eq}
use Rattle.rl_labels.specs.laws.TextLaws.{label_set_cmp_total, label_set_cmp-IsAntisymmetric, label_set_eq-true, label_set_eq_itself}
use Rattle.rl_aggregate.specs.TotalsMap.{TotalsMap, no_total, plus, minus, if_any, total_at, added, taken}
use Rattle.rl_aggregate.specs.Partials.{both_totals}
use Rattle.rl_aggregate.specs.declared.volume.Volume.{Volume}

-- the two tests of equal label sets are one
pub label_set_eq-cmp : (s t : LabelSet) → label_set_eq s t ≡ eq_by_cmp label_set_cmp s t
label_set_eq-cmp s t = texts_ties (canonical_text s) (canonical_text t)

-- label sets that tie are one
pub same_key : (q k : LabelSet) → eq_by_cmp label_set_cmp q k ≡ true → q ≡ k
same_key q k is = label_set_eq-true q k (label_set_eq-cmp q k ∙ is)

pub ties_itself : (k : LabelSet) → eq_by_cmp label_set_cmp k k ≡ true
ties_itself k = sym (label_set_eq-cmp k k) ∙ label_set_eq_itself k

-- totals that answer alike are one
pub same_totals : (a b : TotalsMap) → ((q : LabelSet) → get a q ≡ get b q) → a ≡ b
same_totals a b alike = same_map label_set_cmp_total label_set_cmp-IsAntisymmetric a b alike

-- VOLUMES

pub plus_swap : (a b : Volume) → plus a b ≡ plus b a
plus_swap a b =
    let count : a.count + b.count ≡ b.count + a.count = omega arith in
    let bytes : a.bytes + b.bytes ≡ b.bytes + a.bytes = omega arith in
    λ i. record { count = count i; bytes = bytes i }

plus_more : (a b c : Volume) → plus (plus a b) c ≡ plus a (plus b c)
plus_more a b c =
    let count : a.count + b.count + c.count ≡ a.count + (b.count + c.count) = omega arith in
    let bytes : a.bytes + b.bytes + c.bytes ≡ a.bytes + (b.bytes + c.bytes) = omega arith in
    λ i. record { count = count i; bytes = bytes i }

pub minus-plus : (a b : Volume) → minus (plus a b) b ≡ a
minus-plus a b =
    let count : a.count + b.count - b.count ≡ a.count = omega arith in
    let bytes : a.bytes + b.bytes - b.bytes ≡ a.bytes = omega arith in
    λ i. record { count = count i; bytes = bytes i }

-- ONE MORE AND ONE LESS

pub get-added : (totals : TotalsMap) (k : LabelSet) (v : Volume) (q : LabelSet) → get (added totals k v) q ≡ cond (eq_by_cmp label_set_cmp q k) (Some (plus (total_at totals k) v)) (get totals q)
get-added totals k v q = get-insert label_set_cmp_total totals k (plus (total_at totals k) v) q

pub total_at-added : (totals : TotalsMap) (k : LabelSet) (v : Volume) (q : LabelSet) → total_at (added totals k v) q ≡ cond (eq_by_cmp label_set_cmp q k) (plus (total_at totals q) v) (total_at totals q)
total_at-added totals k v q =
    ap (λ t. unwrap_or t no_total) (get-added totals k v q)
    ∙ elim (eq_by_cmp label_set_cmp q k) as (λ b. eq_by_cmp label_set_cmp q k ≡ b → unwrap_or (cond b (Some (plus (total_at totals k) v)) (get totals q)) no_total ≡ cond b (plus (total_at totals q) v) (total_at totals q)) [
      | true ↦ λ is. ap (λ s. plus (total_at totals s) v) (sym (same_key q k is))
      | false ↦ λ _. refl
    ] refl

-- at its own label set
pub total_at-added_there : (totals : TotalsMap) (k : LabelSet) (v : Volume) → total_at (added totals k v) k ≡ plus (total_at totals k) v
total_at-added_there totals k v = total_at-added totals k v k ∙ ap (λ b. cond b (plus (total_at totals k) v) (total_at totals k)) (ties_itself k)

-- added one after the other, or both at once
pub added-twice : (totals : TotalsMap) (k : LabelSet) (v w : Volume) → added (added totals k v) k w ≡ added totals k (plus v w)
added-twice totals k v w =
    let both = plus (total_at totals k) (plus v w) in
    same_totals _ _ (λ q.
    get-added (added totals k v) k w q
    ∙ (λ i. cond (eq_by_cmp label_set_cmp q k) (Some ((ap (λ t. plus t w) (total_at-added_there totals k v) ∙ plus_more (total_at totals k) v w) i)) (get-added totals k v q i))
    ∙ elim (eq_by_cmp label_set_cmp q k) as (λ b. cond b (Some both) (cond b (Some (plus (total_at totals k) v)) (get totals q)) ≡ cond b (Some both) (get totals q)) [ true ↦ refl | false ↦ refl ]
    ∙ sym (get-added totals k (plus v w) q))

-- taken out, what is left stands there if it has a line
pub get-taken : (totals : TotalsMap) (k : LabelSet) (v : Volume) (q : LabelSet) → get (taken totals k v) q ≡ cond (eq_by_cmp label_set_cmp q k) (if_any (minus (total_at totals k) v)) (get totals q)
get-taken totals k v q =
    let left = minus (total_at totals k) v in
    elim (left.count == 0) as (λ b. get (cond b (remove totals k) (insert totals k left)) q ≡ cond (eq_by_cmp label_set_cmp q k) (cond b None (Some left)) (get totals q)) [
      | true ↦ get-remove label_set_cmp_total totals k q
      | false ↦ get-insert label_set_cmp_total totals k left q
    ]

-- MERGED

-- a look-up among one total for each of some label sets
pub find_keyed : (f : LabelSet → Volume) (q : LabelSet) (ks : List LabelSet) → find label_set_cmp q (map (λ k. (k, f k)) ks) ≡ cond (list_any (eq_by_cmp label_set_cmp q) ks) (Some (f q)) None
find_keyed f q [] = refl
find_keyed f q (k ∷ ks) =
    elim (eq_by_cmp label_set_cmp q k) as (λ b. eq_by_cmp label_set_cmp q k ≡ b → cond b (Some (f k)) (find label_set_cmp q (map (λ k. (k, f k)) ks)) ≡ cond (b || list_any (eq_by_cmp label_set_cmp q) ks) (Some (f q)) None) [
      | true ↦ λ is. ap (λ k. Some (f k)) (sym (label_set_eq-true q k (label_set_eq-cmp q k ∙ is)))
      | false ↦ λ _. find_keyed f q ks
    ] refl

-- merged totals have the sum of both, where either has one
pub get-both_totals : (a b : TotalsMap) (q : LabelSet) → get (both_totals a b) q ≡ cond (is_some (get a q) || is_some (get b q)) (Some (plus (total_at a q) (total_at b q))) None
get-both_totals a b q =
    let sum = plus (total_at a q) (total_at b q) in
    get-from_entries label_set_cmp_total _ q
    ∙ find_keyed (λ k. plus (total_at a k) (total_at b k)) q (keys a ++ keys b)
    ∙ ap (λ t. cond t (Some sum) None) (list_any-append (eq_by_cmp label_set_cmp q) (keys a) (keys b) ∙ (λ i. sym (contains_key-keys a q) i || sym (contains_key-keys b q) i))

-- so the total at a label set is the sum, also where neither has one
pub total_at-both_totals : (a b : TotalsMap) (q : LabelSet) → total_at (both_totals a b) q ≡ plus (total_at a q) (total_at b q)
total_at-both_totals a b q = ap (λ t. unwrap_or t no_total) (get-both_totals a b q) ∙ summed (get a q) (get b q)
  where
    summed : (x y : Option Volume) → unwrap_or (cond (is_some x || is_some y) (Some (plus (unwrap_or x no_total) (unwrap_or y no_total))) None) no_total ≡ plus (unwrap_or x no_total) (unwrap_or y no_total)
    summed None None = refl
    summed None (Some y) = refl
    summed (Some x) y = refl
