-- What numbers at label sets add up to, where each label set stands once: those of totals with one added, and merged.
use Rattle.std.specs.Prelude.{◌≡◌, ℕ, ◌+◌, ◌≤◌, Bool, true, false, cond, List, [], ◌∷◌, ◌++◌, map, length, Option, Some, refl}
use Rattle.std.specs.Option.{unwrap_or}
use Rattle.std.specs.List.{sum_by}
use Rattle.std.specs.Ordering.{eq_by_cmp, is_eq, is_lt, ordering_reverse}
use Rattle.std.specs.declared.cmp.Ordering.TheVariants.{Less, Equal, Greater}
use Rattle.std.specs.FinMap.{FinMap, get, empty, get-empty, keys, entries, len, from_entries, contains_key, get-entries, len-entries, len-empty, len-insert, entries_sorted}
use Rattle.std.specs.FinMap.Entries.{find, is_sorted, below_all}
use Rattle.std.proofs.Common.{sym, ap, ◌∙◌, arith}
use Rattle.std.proofs.lemmas.Bool.{and_parts, true≢false}
use Rattle.std.proofs.lemmas.List.{length-map, length-append}
use Rattle.std.proofs.lemmas.List.Sums.{sum_by-cons}
use Rattle.std.proofs.lemmas.Option.{none-some}
use Rattle.rl_plain.specs.laws.Bools.{true_from}
use Rattle.rl_labels.specs.LabelSet.{LabelSet}
use Rattle.rl_labels.specs.LabelText.{label_set_cmp}
use Rattle.rl_labels.specs.laws.TextLaws.{label_set_cmp_total}
use Rattle.rl_aggregate.specs.Limited.{sum_of}
use Rattle.rl_aggregate.specs.Partials.{both_totals}
use Rattle.rl_aggregate.specs.TotalsMap.{TotalsMap, no_total, plus, total_at, added}
use Rattle.rl_aggregate.specs.laws.Totals.{same_key, ties_itself, total_at-added, total_at-both_totals}
use Rattle.rl_aggregate.specs.laws.Trees.{find_below}
use Rattle.rl_aggregate.specs.declared.volume.Volume.{Volume}

before_apart : (s t : LabelSet) → is_lt (label_set_cmp s t) ≡ true → eq_by_cmp label_set_cmp t s ≡ false
before_apart s t before = elim (label_set_cmp s t) as (λ o. label_set_cmp s t ≡ o → is_lt o ≡ true → eq_by_cmp label_set_cmp t s ≡ false) [
  | Less ↦ λ is _. ap is_eq (label_set_cmp_total.antisymm t s ∙ ap ordering_reverse is)
  | Equal ↦ λ _ h. absurd (true≢false (sym h))
  | Greater ↦ λ _ h. absurd (true≢false (sym h))
] refl before

zeros : {A : Type 0} (xs : List A) → sum_by (λ x. 0) xs ≡ 0
zeros [] = refl
zeros (x ∷ xs) = omega (arith, sum_by-cons (λ x. 0) x xs, zeros xs)

one_more : (b : Bool) (n : ℕ) → cond b n (n + 1) ≤ n + 1
one_more true n = omega arith
one_more false n = omega arith

sum_by-both : {A : Type 0} (f g : A → ℕ) (xs : List A) → sum_by (λ x. f x + g x) xs ≡ sum_by f xs + sum_by g xs
sum_by-both f g [] = refl
sum_by-both f g (x ∷ xs) = omega (arith, sum_by-cons (λ x. f x + g x) x xs, sum_by-cons f x xs, sum_by-cons g x xs, sum_by-both f g xs)

module _ {X : Type 0} where
  -- a label set that stands before all others is not among them
  none_of : (k : LabelSet) (n : ℕ) (es : List (LabelSet × X)) → below_all label_set_cmp k es ≡ true → sum_by (λ e. cond (eq_by_cmp label_set_cmp e.0 k) n 0) es ≡ 0
  none_of k n [] below = refl
  none_of k n (e ∷ es) below =
      let parts = and_parts (is_lt (label_set_cmp k e.0)) (below_all label_set_cmp k es) below in
      sum_by-cons (λ e. cond (eq_by_cmp label_set_cmp e.0 k) n 0) e es ∙ (λ i. cond (before_apart k e.0 parts.0 i) n 0 + none_of k n es parts.1 i)

  -- a label set stands at most once among entries in order
  once : (k : LabelSet) (n : ℕ) (es : List (LabelSet × X)) → is_sorted label_set_cmp es ≡ true → sum_by (λ e. cond (eq_by_cmp label_set_cmp e.0 k) n 0) es ≤ n
  once k n [] sorted = omega arith
  once k n (e ∷ es) sorted =
      let parts = and_parts (below_all label_set_cmp e.0 es) (is_sorted label_set_cmp es) sorted in
      let first = sum_by-cons (λ e. cond (eq_by_cmp label_set_cmp e.0 k) n 0) e es in
      elim (eq_by_cmp label_set_cmp e.0 k) as (λ b. eq_by_cmp label_set_cmp e.0 k ≡ b → sum_by (λ e. cond (eq_by_cmp label_set_cmp e.0 k) n 0) (e ∷ es) ≤ n) [
        | true ↦ λ is.
            let others = none_of k n es (ap (λ s. below_all label_set_cmp s es) (sym (same_key e.0 k is)) ∙ parts.0) in
            omega (arith, first, ap (λ b. cond b n 0) is, others)
        | false ↦ λ apart. omega (arith, first, ap (λ b. cond b n 0) apart, once k n es parts.1)
      ] refl

  -- a look-up by the first entry's label set
  pub find_first : (e : LabelSet × X) (es : List (LabelSet × X)) → find label_set_cmp e.0 (e ∷ es) ≡ Some e.1
  find_first e es = ap (λ b. cond b (Some e.1) (find label_set_cmp e.0 es)) (ties_itself e.0)

  -- what stands after the first of entries in order is found also with it
  find_later : (e : LabelSet × X) (es : List (LabelSet × X)) (q : LabelSet) (v : X) → below_all label_set_cmp e.0 es ≡ true → find label_set_cmp q es ≡ Some v → find label_set_cmp q (e ∷ es) ≡ Some v
  find_later e es q v below is = elim (eq_by_cmp label_set_cmp q e.0) as (λ b. eq_by_cmp label_set_cmp q e.0 ≡ b → cond b (Some e.1) (find label_set_cmp q es) ≡ Some v) [
    | true ↦ λ same. absurd (none-some v (sym (find_below label_set_cmp q es (ap (λ s. below_all label_set_cmp s es) (same_key q e.0 same) ∙ below)) ∙ is))
    | false ↦ λ _. is
  ] refl

  -- a sum over entries in order, where each number is within another of its label set
  sum_by-keys : (f : X → ℕ) (bound : LabelSet → ℕ) (es : List (LabelSet × X)) → is_sorted label_set_cmp es ≡ true → ((q : LabelSet) (v : X) → find label_set_cmp q es ≡ Some v → f v ≤ bound q) → sum_by (λ e. f e.1) es ≤ sum_by (λ e. bound e.0) es
  sum_by-keys f bound [] sorted each = omega arith
  sum_by-keys f bound (e ∷ es) sorted each =
      let parts = and_parts (below_all label_set_cmp e.0 es) (is_sorted label_set_cmp es) sorted in
      omega (
        arith,
        sum_by-cons (λ e. f e.1) e es,
        sum_by-cons (λ e. bound e.0) e es,
        each e.0 e.1 (find_first e es),
        sum_by-keys f bound es parts.1 (λ q v is. each q v (find_later e es q v parts.0 is)),
      )

  sorted : (m : FinMap label_set_cmp X) → is_sorted label_set_cmp (entries m) ≡ true
  sorted m = true_from _ (entries_sorted m)

  -- so of the entries of a map
  pub sum_by-get : (f : X → ℕ) (bound : LabelSet → ℕ) (m : FinMap label_set_cmp X) → ((q : LabelSet) (v : X) → get m q ≡ Some v → f v ≤ bound q) → sum_by (λ e. f e.1) (entries m) ≤ sum_by (λ e. bound e.0) (entries m)
  sum_by-get f bound m each = sum_by-keys f bound (entries m) (sorted m) (λ q v is. each q v (get-entries m q ∙ is))

  -- a map has no more entries than it is made of
  pub len-from_entries : (es : List (LabelSet × X)) → len (from_entries {R = label_set_cmp} es) ≤ length es
  len-from_entries [] = omega (arith, len-empty label_set_cmp X)
  len-from_entries (e ∷ es) =
      let others = from_entries {R = label_set_cmp} es in
      omega (arith, len-insert label_set_cmp_total others e.0 e.1, one_more (contains_key others e.0) (len others), len-from_entries es)

-- merged totals have at most the label sets of both
pub len-both_totals : (a b : TotalsMap) → len (both_totals a b) ≤ len a + len b
len-both_totals a b =
    let both = keys a ++ keys b in
    let entry : LabelSet → LabelSet × Volume = λ labels. (labels, plus (total_at a labels) (total_at b labels)) in
    omega (
      arith,
      len-from_entries (map entry both),
      length-map both entry,
      length-append (keys a) (keys b),
      length-map (entries a) (λ e. e.0),
      length-map (entries b) (λ e. e.0),
      len-entries a,
      len-entries b,
    )

module _ (f : Volume → ℕ) (nothing : f no_total ≡ 0) where
  -- the number at a label set
  abbrev at : List (LabelSet × Volume) → LabelSet → ℕ
  at es q = f (unwrap_or (find label_set_cmp q es) no_total)

  at_none : (fs : List (LabelSet × Volume)) → sum_by (λ e. at [] e.0) fs ≡ 0
  at_none [] = refl
  at_none (e ∷ fs) = sum_by-cons (λ e. at [] e.0) e fs ∙ (λ i. nothing i + at_none fs i)

  at_first : (b : Bool) (v : Volume) (rest : Option Volume) → f (unwrap_or (cond b (Some v) rest) no_total) ≤ cond b (f v) 0 + f (unwrap_or rest no_total)
  at_first true v rest = omega arith
  at_first false v rest = omega arith

  at_more : (k : LabelSet) (v : Volume) (es fs : List (LabelSet × Volume)) → sum_by (λ e. at ((k, v) ∷ es) e.0) fs ≤ sum_by (λ e. cond (eq_by_cmp label_set_cmp e.0 k) (f v) 0) fs + sum_by (λ e. at es e.0) fs
  at_more k v es [] = omega arith
  at_more k v es (e ∷ fs) = omega (
    arith,
    sum_by-cons (λ e. at ((k, v) ∷ es) e.0) e fs,
    sum_by-cons (λ e. cond (eq_by_cmp label_set_cmp e.0 k) (f v) 0) e fs,
    sum_by-cons (λ e. at es e.0) e fs,
    at_first (eq_by_cmp label_set_cmp e.0 k) v (find label_set_cmp e.0 es),
    at_more k v es fs,
  )

  -- the numbers at label sets in order are at most all
  sum_at-le : (es fs : List (LabelSet × Volume)) → is_sorted label_set_cmp fs ≡ true → sum_by (λ e. at es e.0) fs ≤ sum_by (λ e. f e.1) es
  sum_at-le [] fs rises = omega (arith, at_none fs)
  sum_at-le (e ∷ es) fs rises = omega (arith, at_more e.0 e.1 es fs, once e.0 (f e.1) fs rises, sum_at-le es fs rises, sum_by-cons (λ e. f e.1) e es)

  at_entries : (m : TotalsMap) (q : LabelSet) → f (total_at m q) ≡ at (entries m) q
  at_entries m q = ap (λ t. f (unwrap_or t no_total)) (get-entries m q)

  -- the number at a label set is at most all
  pub total_at-sum_of : (m : TotalsMap) (q : LabelSet) → f (total_at m q) ≤ sum_of f m
  total_at-sum_of m q = omega (arith, at_entries m q, at-le (entries m) q)
    where
      part : (b : Bool) (n : ℕ) → cond b n 0 ≤ n
      part true n = omega arith
      part false n = omega arith

      at-le : (es : List (LabelSet × Volume)) (q : LabelSet) → at es q ≤ sum_by (λ e. f e.1) es
      at-le [] q = omega (arith, nothing)
      at-le (e ∷ es) q = omega (
        arith,
        sum_by-cons (λ e. f e.1) e es,
        at_first (eq_by_cmp label_set_cmp q e.0) e.1 (find label_set_cmp q es),
        part (eq_by_cmp label_set_cmp q e.0) (f e.1),
        at-le es q,
      )

  total_at-found : (m : TotalsMap) (q : LabelSet) (v : Volume) → get m q ≡ Some v → total_at m q ≡ v
  total_at-found m q v is = ap (λ t. unwrap_or t no_total) is

  -- merged totals have at most the sum of both
  pub sum_of-both_totals : ((x y : Volume) → f (plus x y) ≡ f x + f y) → (a b : TotalsMap) → sum_of f (both_totals a b) ≤ sum_of f a + sum_of f b
  sum_of-both_totals adds a b =
      let m = both_totals a b in
      omega (
        arith,
        sum_by-get f (λ q. at (entries a) q + at (entries b) q) m (λ q v is. omega (
          arith,
          ap f (sym (total_at-found m q v is) ∙ total_at-both_totals a b q),
          adds (total_at a q) (total_at b q),
          at_entries a q,
          at_entries b q,
        )),
        sum_by-both (λ e. at (entries a) e.0) (λ e. at (entries b) e.0) (entries m),
        sum_at-le (entries a) (entries m) (sorted m),
        sum_at-le (entries b) (entries m) (sorted m),
      )

  -- with one added, at most what it adds
  sum_of-added : ((x y : Volume) → f (plus x y) ≡ f x + f y) → (m : TotalsMap) (k : LabelSet) (v : Volume) → sum_of f (added m k v) ≤ sum_of f m + f v
  sum_of-added adds m k v =
      let n = added m k v in
      let one = λ (q : LabelSet). cond (eq_by_cmp label_set_cmp q k) (f v) 0 in
      omega (
        arith,
        sum_by-get f (λ q. at (entries m) q + one q) n (λ q w is. omega (
          arith,
          ap f (sym (total_at-found n q w is) ∙ total_at-added m k v q),
          either (eq_by_cmp label_set_cmp q k) (total_at m q),
          at_entries m q,
        )),
        sum_by-both (λ e. at (entries m) e.0) (λ e. one e.0) (entries n),
        sum_at-le (entries m) (entries n) (sorted n),
        once k (f v) (entries n) (sorted n),
      )
    where
      either : (b : Bool) (t : Volume) → f (cond b (plus t v) t) ≤ f t + cond b (f v) 0
      either true t = omega (arith, adds t v)
      either false t = omega arith

-- no totals add up to nothing
pub sum_of-empty : (f : Volume → ℕ) → sum_of f empty ≤ 0
sum_of-empty f = omega (
  arith,
  sum_by-get f (λ q. 0) (empty {R = label_set_cmp}) (λ q v is. absurd (none-some v (sym (get-empty label_set_cmp q) ∙ is))),
  zeros (entries (empty {X = Volume} {R = label_set_cmp})),
)

pub counts-both_totals : (a b : TotalsMap) → sum_of (λ total. total.count) (both_totals a b) ≤ sum_of (λ total. total.count) a + sum_of (λ total. total.count) b
counts-both_totals = sum_of-both_totals (λ total. total.count) refl (λ x y. refl)

pub bytes-both_totals : (a b : TotalsMap) → sum_of (λ total. total.bytes) (both_totals a b) ≤ sum_of (λ total. total.bytes) a + sum_of (λ total. total.bytes) b
bytes-both_totals = sum_of-both_totals (λ total. total.bytes) refl (λ x y. refl)

-- totals with one added
pub len-added : (totals : TotalsMap) (k : LabelSet) (v : Volume) → len (added totals k v) ≤ len totals + 1
len-added totals k v = omega (arith, len-insert label_set_cmp_total totals k (plus (total_at totals k) v), one_more (contains_key totals k) (len totals))

pub counts-added : (totals : TotalsMap) (k : LabelSet) (v : Volume) → sum_of (λ total. total.count) (added totals k v) ≤ sum_of (λ total. total.count) totals + v.count
counts-added = sum_of-added (λ total. total.count) refl (λ x y. refl)

pub bytes-added : (totals : TotalsMap) (k : LabelSet) (v : Volume) → sum_of (λ total. total.bytes) (added totals k v) ≤ sum_of (λ total. total.bytes) totals + v.bytes
bytes-added = sum_of-added (λ total. total.bytes) refl (λ x y. refl)
