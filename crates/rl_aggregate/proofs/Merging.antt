-- Totals while the entries of others go into them, one after another.
use Rattle.std.proofs.Common.{◌≡◌, ◌+◌, true, false, cond, ◌||◌, ◌∷◌, Option, None, Some, T, IsTrue, refl, sym, ap, ◌∙◌, arith}
use Rattle.std.specs.Option.{unwrap_or, is_some}
use Rattle.std.specs.Ordering.{eq_by_cmp}
use Rattle.std.specs.FinMap.{get, contains_key, get-from_entries}
use Rattle.std.specs.FinMap.Entries.{find, is_sorted, below_all}
use Rattle.std.proofs.lemmas.Bool.{and_parts}
use Rattle.rl_labels.specs.LabelSet.{LabelSet}
use Rattle.rl_labels.specs.LabelText.{label_set_cmp}
use Rattle.rl_plain.specs.laws.Bools.{true_from}
use Rattle.std.proofs.lemmas.Float.{T_from_true}
use Rattle.rl_labels.specs.laws.TextLaws.{label_set_cmp_total}
use Rattle.rl_aggregate.specs.laws.Sums.{find_first}
use Rattle.rl_aggregate.specs.laws.Totals.{get-added, same_key}
use Rattle.rl_aggregate.specs.laws.Trees.{find_below}
use Rattle.rl_aggregate.specs.TotalsMap.{TotalsMap, no_total, plus, total_at, added, HasAll}
use Rattle.rl_aggregate.specs.declared.volume.Volume.{Volume}
use Rattle.rl_aggregate.proofs.Maps.{Entries, totals_in}

-- the sum of two totals, of which either may be missing
abbrev pub joined : Option Volume → Option Volume → Option Volume
joined a b = cond (is_some a || is_some b) (Some (plus (unwrap_or a no_total) (unwrap_or b no_total))) None

plus-none : (total : Volume) → plus total no_total ≡ total
plus-none total =
    let count : total.count + 0 ≡ total.count = omega arith in
    let bytes : total.bytes + 0 ≡ total.bytes = omega arith in
    λ i. record { count = count i; bytes = bytes i }

pub joined-None : (a : Option Volume) → joined a None ≡ a
joined-None None = refl
joined-None (Some a) = ap (λ t. Some t) (plus-none a)

pub joined-Some : (a : Option Volume) (b : Volume) → joined a (Some b) ≡ Some (plus (unwrap_or a no_total) b)
joined-Some None b = refl
joined-Some (Some a) b = refl

-- a label set that is first in order does not stand again
find_again : (k : LabelSet) (v : Volume) (rest : Entries) (q : LabelSet) → T (is_sorted label_set_cmp ((k, v) ∷ rest)) → q ≡ k → find label_set_cmp q rest ≡ None
find_again k v rest q sorted same =
    ap (λ s. find label_set_cmp s rest) same ∙ find_below label_set_cmp k rest (and_parts (below_all label_set_cmp k rest) (is_sorted label_set_cmp rest) (true_from _ sorted)).0

-- the rest of entries in order is in order
pub sorted_rest : (k : LabelSet) (v : Volume) (rest : Entries) → T (is_sorted label_set_cmp ((k, v) ∷ rest)) → T (is_sorted label_set_cmp rest)
sorted_rest k v rest sorted = T_from_true _ (and_parts (below_all label_set_cmp k rest) (is_sorted label_set_cmp rest) (true_from _ sorted)).1

-- one entry goes from the rest into the totals, and the sums of both stay
pub joined-added : (m : TotalsMap) (k : LabelSet) (v : Volume) (rest : Entries) (q : LabelSet) → T (is_sorted label_set_cmp ((k, v) ∷ rest)) → joined (get (added m k v) q) (find label_set_cmp q rest) ≡ joined (get m q) (find label_set_cmp q ((k, v) ∷ rest))
joined-added m k v rest q sorted =
    ap (λ t. joined t (find label_set_cmp q rest)) (get-added m k v q)
    ∙ elim (eq_by_cmp label_set_cmp q k) as (λ b. eq_by_cmp label_set_cmp q k ≡ b → joined (cond b (Some (plus (total_at m k) v)) (get m q)) (find label_set_cmp q rest) ≡ joined (get m q) (cond b (Some v) (find label_set_cmp q rest))) [
      | true ↦ λ is.
          let same = same_key q k is in
          ap (λ t. joined (Some (plus (total_at m k) v)) t) (find_again k v rest q sorted same)
          ∙ joined-None (Some (plus (total_at m k) v))
          ∙ ap (λ s. Some (plus (total_at m s) v)) (sym same)
          ∙ sym (joined-Some (get m q) v)
      | false ↦ λ _. refl
    ] refl

-- what the next entry makes of a total is what both have
pub total_at-next : (m both : TotalsMap) (k : LabelSet) (v : Volume) (rest : Entries) → joined (get m k) (find label_set_cmp k ((k, v) ∷ rest)) ≡ get both k → plus (total_at m k) v ≡ total_at both k
total_at-next m both k v rest is =
    ap (λ t. unwrap_or t no_total) (sym (joined-Some (get m k) v) ∙ ap (joined (get m k)) (sym (find_first (k, v) rest)) ∙ is)

-- what the entries of totals find, the totals have
pub find-entries : (totals : TotalsMap) (es : Entries) (q : LabelSet) → totals_in es ≡ totals → find label_set_cmp q es ≡ get totals q
find-entries totals es q view = sym (get-from_entries label_set_cmp_total es q) ∙ ap (λ m. get m q) view

-- the totals have the label set of each entry that is left
abbrev pub AreKnown : TotalsMap → Entries → Type 0
AreKnown totals es = (q : LabelSet) → IsTrue (is_some (find label_set_cmp q es)) → IsTrue (contains_key totals q)

pub known-all : (totals others : TotalsMap) (es : Entries) → totals_in es ≡ others → HasAll totals others → AreKnown totals es
known-all totals others es view all = λ q there. all q (ap is_some (sym (find-entries others es q view)) ∙ there)

pub known-first : (totals : TotalsMap) (k : LabelSet) (v : Volume) (rest : Entries) → AreKnown totals ((k, v) ∷ rest) → IsTrue (contains_key totals k)
known-first totals k v rest known = known k (ap is_some (find_first (k, v) rest))

-- also when one has gone in
pub known-rest : (totals : TotalsMap) (k : LabelSet) (v : Volume) (rest : Entries) → AreKnown totals ((k, v) ∷ rest) → AreKnown (added totals k v) rest
known-rest totals k v rest known = λ q there.
    ap is_some (get-added totals k v q)
    ∙ elim (eq_by_cmp label_set_cmp q k) as (λ b. (is_some (cond b (Some v) (find label_set_cmp q rest)) ≡ true → is_some (get totals q) ≡ true) → is_some (cond b (Some (plus (total_at totals k) v)) (get totals q)) ≡ true) [
      | true ↦ λ _. refl
      | false ↦ λ here. here there
    ] (known q)
