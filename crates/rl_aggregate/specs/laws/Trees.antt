-- Entries and totals by any key: what is not among entries, the total that a tree has at a key, and what a change of the tree leaves.
use Rattle.std.specs.Prelude.{◌≡◌, ◌==◌, ◌&&◌, Bool, true, false, cond, List, [], ◌∷◌, Option, None, Some, refl}
use Rattle.std.specs.Option.{unwrap_or}
use Rattle.std.specs.Ordering.{eq_by_cmp, is_eq, is_lt}
use Rattle.std.specs.declared.cmp.Ordering.{Ordering}
use Rattle.std.specs.declared.cmp.Ordering.TheVariants.{Less, Equal, Greater}
use Rattle.std.specs.Cmp.{IsTotalOrder, eq_by_cmp_equiv}
use Rattle.std.specs.FinMap.{FinMap, IsAntisymmetric, from_entries, get, insert, remove, get-insert, get-remove, same_map}
use Rattle.std.specs.FinMap.Entries.{find, below_all}
use Rattle.std.specs.BTreeMap.{is_at}
use Rattle.std.specs.Map.{lookup}
use Rattle.std.proofs.Common.{sym, ap, ◌∙◌}
use Rattle.std.proofs.lemmas.Bool.{and_parts, true≢false}
use Rattle.rl_plain.specs.laws.TreeMaps.{get-of_tree, one_set}
use Rattle.rl_aggregate.specs.TotalsMap.{no_total, plus, minus, if_any, total_at, added, taken}
use Rattle.rl_aggregate.specs.declared.volume.Volume.{Volume}

-- a key below each of some entries is not among them
pub find_below : {K X : Type 0} (R : K → K → Ordering) (k : K) (es : List (K × X)) → below_all R k es ≡ true → find R k es ≡ None
find_below R k [] below = refl
find_below R k (e ∷ es) below =
    let parts = and_parts (is_lt (R k e.0)) (below_all R k es) below in
    ap (λ b. cond b (Some e.1) (find R k es)) (apart (R k e.0) parts.0) ∙ find_below R k es parts.1
  where
    apart : (o : Ordering) → is_lt o ≡ true → is_eq o ≡ false
    apart Less h = refl
    apart Equal h = absurd (true≢false (sym h))
    apart Greater h = refl

module _ {K : Type 0} {R : K → K → Ordering} (o : IsTotalOrder R) where
  -- taken out, what is left stands there if it has a line
  pub get-taken_at : (totals : FinMap R Volume) (k : K) (v : Volume) (q : K) → get (taken totals k v) q ≡ cond (eq_by_cmp R q k) (if_any (minus (total_at totals k) v)) (get totals q)
  get-taken_at totals k v q =
      let left = minus (total_at totals k) v in
      elim (left.count == 0) as (λ b. get (cond b (remove totals k) (insert totals k left)) q ≡ cond (eq_by_cmp R q k) (cond b None (Some left)) (get totals q)) [
        | true ↦ get-remove o totals k q
        | false ↦ get-insert o totals k left q
      ]

  -- the total that the tree has at a key
  pub total_at-of_tree : (es : List (K × Volume)) (q : K) → total_at (from_entries {R = R} es) q ≡ unwrap_or (lookup (is_at (R q)) es) no_total
  total_at-of_tree es q = ap (λ t. unwrap_or t no_total) (get-of_tree o es q)

  module _ (same : IsAntisymmetric R) where
    -- a total set to the sum of the one before and a volume is the volume added
    pub one_added : (totals : FinMap R Volume) (es fs : List (K × Volume)) (k : K) (v : Volume) → from_entries es ≡ totals
        → ((q : K) → lookup (is_at (R q)) fs ≡ cond (is_at (R k) q) (Some (plus (unwrap_or (lookup (is_at (R k)) es) no_total) v)) (lookup (is_at (R q)) es))
        → from_entries fs ≡ added totals k v
    one_added totals es fs k v view answers =
        one_set o same es fs k _ answers
        ∙ (λ i. insert (view i) k (plus (sym (total_at-of_tree es k) i) v))
        ∙ ap (λ m. insert totals k (plus (total_at m k) v)) view

    -- what is left of a total stands in its stead, if a line is left; where the volume may not go, nothing changes
    pub one_taken : (may : Option Volume → Volume → Bool) (es fs : List (K × Volume)) (k : K) (v : Volume) (there : Bool) → there ≡ may (lookup (is_at (R k)) es) v
        → ((q : K) → lookup (is_at (R q)) fs ≡ cond (there && is_at (R k) q) (if_any (minus (unwrap_or (lookup (is_at (R k)) es) no_total) v)) (lookup (is_at (R q)) es))
        → from_entries {R = R} fs ≡ cond (may (get (from_entries {R = R} es) k) v) (taken (from_entries es) k v) (from_entries es)
    one_taken may es fs k v there is answers =
        let totals = from_entries {R = R} es in
        let found = get-of_tree o es in
        let left = if_any (minus (unwrap_or (lookup (is_at (R k)) es) no_total) v) in
        elim there as (λ t. ((q : K) → lookup (is_at (R q)) fs ≡ cond (t && is_at (R k) q) left (lookup (is_at (R q)) es)) → from_entries {R = R} fs ≡ cond t (taken totals k v) totals) [
          | true ↦ λ answers. same_map o same _ _ (λ q.
              get-of_tree o fs q ∙ answers q
              ∙ (λ i. cond ((eq_by_cmp_equiv o).symm k q i) (if_any (minus (sym (total_at-of_tree es k) i) v)) (sym (found q) i))
              ∙ sym (get-taken_at totals k v q))
          | false ↦ λ answers. same_map o same _ _ (λ q. get-of_tree o fs q ∙ answers q ∙ sym (found q))
        ] answers
        ∙ ap (λ t. cond t (taken totals k v) totals) (is ∙ ap (λ t. may t v) (sym (found k)))
