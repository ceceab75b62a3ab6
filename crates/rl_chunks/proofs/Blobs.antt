-- A tree of bytes by number, and the map that it is.
use Rattle.std.proofs.Common.{◌≡◌, ℕ, cond, List, None, Some, sym, ap, ◌∙◌}
use Rattle.std.specs.Ordering.{nat_cmp}
use Rattle.std.specs.BTreeMap.{is_at}
use Rattle.std.specs.Map.{lookup}
use Rattle.std.specs.Cmp.{eq_by_cmp_equiv}
use Rattle.std.specs.FinMap.{from_entries, get, insert, remove, same_map, get-remove, nat_cmp-IsAntisymmetric}
use Rattle.std.proofs.lemmas.Cmp.{nat_cmp_total}
use Rattle.rl_plain.specs.laws.TreeMaps.{get-of_tree, one_set}

abbrev Entries : Type 0
Entries = List (ℕ × List ℕ)

-- what the tree finds at a number
pub found_at : (es : Entries) (number : ℕ) → lookup (is_at (nat_cmp number)) es ≡ get (from_entries {R = nat_cmp} es) number
found_at es number = sym (get-of_tree nat_cmp_total es number)

-- a tree that has other bytes at one number
pub one_put : (es fs : Entries) (number : ℕ) (bytes : List ℕ) → ((q : ℕ) → lookup (is_at (nat_cmp q)) fs ≡ cond (is_at (nat_cmp number) q) (Some bytes) (lookup (is_at (nat_cmp q)) es)) → from_entries {R = nat_cmp} fs ≡ insert (from_entries es) number bytes
one_put es fs number bytes answers = one_set nat_cmp_total nat_cmp-IsAntisymmetric es fs number bytes answers

-- and one that has none there
pub one_removed : (es fs : Entries) (number : ℕ) → ((q : ℕ) → lookup (is_at (nat_cmp q)) fs ≡ cond (is_at (nat_cmp number) q) None (lookup (is_at (nat_cmp q)) es)) → from_entries {R = nat_cmp} fs ≡ remove (from_entries es) number
one_removed es fs number answers = same_map nat_cmp_total nat_cmp-IsAntisymmetric _ _ (λ q.
    get-of_tree nat_cmp_total fs q ∙ answers q ∙ ap (λ b. cond b None (lookup (is_at (nat_cmp q)) es)) ((eq_by_cmp_equiv nat_cmp_total).symm number q)
    ∙ sym (get-remove nat_cmp_total (from_entries es) number q ∙ ap (cond (is_at (nat_cmp q) number) None) (get-of_tree nat_cmp_total es q)))
