-- The finite map that the entries of a tree make: what it answers, what a change of the tree makes of it, and that it has
-- the entries of the tree.
use Rattle.std.specs.Prelude.{◌≡◌, cond, T, List, [], ◌∷◌, length, Some, refl}
use Rattle.std.specs.Ordering.{is_lt}
use Rattle.std.specs.declared.cmp.Ordering.{Ordering}
use Rattle.std.specs.declared.cmp.Ordering.TheVariants.{Less}
use Rattle.std.specs.Cmp.{IsTotalOrder, eq_by_cmp_equiv}
use Rattle.std.specs.List.{AllByRecursion}
use Rattle.std.specs.List.Sorted.{IsStrictlySortedBy}
use Rattle.std.specs.BTreeMap.{is_at}
use Rattle.std.specs.Map.{lookup, keys_of}
use Rattle.std.specs.FinMap.{IsAntisymmetric, from_entries, get, insert, entries, len, get-from_entries, get-insert, get-entries, len-entries, entries_sorted, same_map}
use Rattle.std.specs.FinMap.Entries.{find, is_sorted, below_all, same_entries}
use Rattle.std.proofs.Common.{sym, ap, ◌∙◌}
use Rattle.std.proofs.lemmas.Bool.{and_from}
use Rattle.std.proofs.lemmas.Map.Keys.{sorted_head, sorted_tail}
use Rattle.rl_plain.specs.laws.Bools.{true_from}
use Rattle.std.proofs.lemmas.Float.{T_from_true}

module _ {K X : Type 0} (R : K → K → Ordering) where
  -- what a list of entries has at a key is what a tree of them has there
  pub find_lookup : (es : List (K × X)) (q : K) → find R q es ≡ lookup (is_at (R q)) es
  find_lookup [] q = refl
  find_lookup (e ∷ es) q = ap (cond (is_at (R q) e.0) (Some e.1)) (find_lookup es q)

  below_from_sorted : (k : K) (es : List (K × X)) → AllByRecursion (λ y. R k y ≡ Less) (keys_of es) → T (below_all R k es)
  below_from_sorted k [] h = tt
  below_from_sorted k (e ∷ es) h = T_from_true _ (and_from _ _ (ap is_lt h.0) (true_from _ (below_from_sorted k es h.1)))

  -- entries whose keys rise are in order
  pub sorted_entries : (es : List (K × X)) → IsStrictlySortedBy R (keys_of es) → T (is_sorted R es)
  sorted_entries [] h = tt
  sorted_entries (e ∷ es) h =
      T_from_true _ (and_from _ _ (true_from _ (below_from_sorted e.0 es (sorted_head R e.0 (keys_of es) h))) (true_from _ (sorted_entries es (sorted_tail R e.0 (keys_of es) h))))

module _ {K X : Type 0} {R : K → K → Ordering} (o : IsTotalOrder R) where
  -- what the tree finds at a key is what the map has there
  pub get-of_tree : (es : List (K × X)) (q : K) → get (from_entries {R = R} es) q ≡ lookup (is_at (R q)) es
  get-of_tree es q = get-from_entries o es q ∙ find_lookup R es q

  module _ (same : IsAntisymmetric R) where
    -- a tree that answers otherwise at one key makes the map with that value set
    pub one_set : (es fs : List (K × X)) (k : K) (value : X) → ((q : K) → lookup (is_at (R q)) fs ≡ cond (is_at (R k) q) (Some value) (lookup (is_at (R q)) es)) → from_entries {R = R} fs ≡ insert (from_entries es) k value
    one_set es fs k value answers = same_map o same _ _ (λ q.
        get-of_tree fs q ∙ answers q ∙ ap (λ b. cond b (Some value) (lookup (is_at (R q)) es)) ((eq_by_cmp_equiv o).symm k q)
        ∙ sym (get-insert o (from_entries es) k value q ∙ ap (cond (is_at (R q) k) (Some value)) (get-of_tree es q)))

    -- entries whose keys rise are those of their map
    pub entries-of_tree : (es : List (K × X)) → IsStrictlySortedBy R (keys_of es) → entries (from_entries {R = R} es) ≡ es
    entries-of_tree es h = same_entries R o same _ _ (entries_sorted (from_entries {R = R} es)) (sorted_entries R es h) (λ q. sym (get-entries (from_entries {R = R} es) q) ∙ get-from_entries o es q)

    pub len-of_tree : (es : List (K × X)) → IsStrictlySortedBy R (keys_of es) → len (from_entries {R = R} es) ≡ length es
    len-of_tree es h = len-entries (from_entries {R = R} es) ∙ ap (λ t. length t) (entries-of_tree es h)
