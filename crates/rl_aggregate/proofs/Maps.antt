-- Totals as a tree of entries: which label sets they have, and when they are equal.
use Rattle.std.proofs.Common.{◌≡◌, nat_eq, ◌&&◌, true, List, is_some, IsSome, IsTrue, refl, sym, ap, subst, ◌∙◌, arith}
use Rattle.std.specs.Bool.{Decides}
use Rattle.std.specs.FinMap.{from_entries, contains_key, entries}
use Rattle.std.specs.BTreeMap.{is_at}
use Rattle.std.specs.List.Sorted.{IsStrictlySortedBy}
use Rattle.std.specs.Map.{lookup, keys_of}
use Rattle.std.proofs.lemmas.Bool.{and_parts, and_from, eq-eqb}
use Rattle.std.proofs.lemmas.Bool.Decides.{nat_tests}
use Rattle.rl_labels.specs.LabelSet.{LabelSet}
use Rattle.rl_labels.specs.LabelText.{label_set_cmp, label_set_eq}
use Rattle.rl_labels.specs.laws.TextLaws.{label_set_cmp_total, label_set_cmp-IsAntisymmetric, label_set_eq-true, label_set_eq_itself}
use Rattle.rl_aggregate.specs.TotalsMap.{TotalsMap}
use Rattle.rl_plain.specs.laws.TreeMaps.{get-of_tree, entries-of_tree}
use Rattle.rl_aggregate.specs.declared.volume.Volume.{Volume}

abbrev pub Entries : Type 0
Entries = List (LabelSet × Volume)

-- the totals that entries make
abbrev pub totals_in : Entries → TotalsMap
totals_in es = from_entries {R = label_set_cmp} es

-- what the totals have, the tree has
pub found_in : (totals : TotalsMap) (es : Entries) (k : LabelSet) → totals_in es ≡ totals → IsTrue (contains_key totals k) → IsSome (lookup (is_at (label_set_cmp k)) es)
found_in totals es k view known = sym (ap is_some (get-of_tree label_set_cmp_total es k)) ∙ ap (λ m. contains_key m k) view ∙ known

-- trees in order that make equal totals have equal entries
pub same_entries_in : (es fs : Entries) → IsStrictlySortedBy label_set_cmp (keys_of es) → IsStrictlySortedBy label_set_cmp (keys_of fs) → totals_in es ≡ totals_in fs → es ≡ fs
same_entries_in es fs ordered others same =
    sym (entries-of_tree label_set_cmp_total label_set_cmp-IsAntisymmetric es ordered) ∙ ap (λ totals. entries totals) same ∙ entries-of_tree label_set_cmp_total label_set_cmp-IsAntisymmetric fs others

-- what is tested equal is one
pub labels_decided : (a b : LabelSet) → Decides (label_set_eq a b) (a ≡ b)
labels_decided a b = (label_set_eq-true a b, λ same. subst (λ o. label_set_eq a o ≡ true) same (label_set_eq_itself a))

pub total_decided : (a b : Volume) → Decides (nat_eq a.count b.count && nat_eq a.bytes b.bytes) (a ≡ b)
total_decided a b = (
  (λ is.
      let parts = and_parts (nat_eq a.count b.count) (nat_eq a.bytes b.bytes) is in
      let count : a.count ≡ b.count = grind (arith, nat_tests, parts.0) in
      let bytes : a.bytes ≡ b.bytes = grind (arith, nat_tests, parts.1) in
      λ i. record { count = count i; bytes = bytes i }),
  (λ same. subst (λ (o : Volume). nat_eq a.count o.count && nat_eq a.bytes o.bytes ≡ true) same (and_from (nat_eq a.count a.count) (nat_eq a.bytes a.bytes) (eq-eqb a.count a.count refl) (eq-eqb a.bytes a.bytes refl))),
)
