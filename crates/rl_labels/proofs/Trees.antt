-- What a tree of labels answers is what the labels do.
use Rattle.std.proofs.Common.{◌≡◌, ℕ, List, [], ◌∷◌, Some, cond, refl, ap, ◌∙◌, nat_cmp, string_bytes}
use Rattle.std.specs.declared.string.String.{String}
use Rattle.std.specs.declared.cmp.Ordering.{Ordering}
use Rattle.std.specs.declared.cmp.Ordering.TheVariants.{Less, Equal, Greater}
use Rattle.std.specs.Cmp.Lexicographic.{slice_cmp}
use Rattle.std.specs.Ordering.{match_ordering}
use Rattle.std.specs.BTreeMap.{insert_entry, is_at}
use Rattle.std.specs.Map.{lookup}
use Rattle.std.specs.FinMap.Entries.{find, put, by_order}
use Rattle.rl_labels.specs.Name.{name_cmp}
use Rattle.rl_labels.specs.LabelTrees.{pairs_in}

pairs_in-match : {Y : Type 0} (o : Ordering) (a b c : List (String Y × List ℕ)) → pairs_in (match_ordering o a b c) ≡ by_order o (pairs_in a) (pairs_in b) (pairs_in c)
pairs_in-match Less a b c = refl
pairs_in-match Equal a b c = refl
pairs_in-match Greater a b c = refl

pub put_in : {Y : Type 0} (entries : List (String Y × List ℕ)) (name : String Y) (value : List ℕ) → pairs_in (insert_entry (λ a b. slice_cmp nat_cmp (string_bytes a) (string_bytes b)) entries name value) ≡ put name_cmp (string_bytes name) value (pairs_in entries)
put_in [] name value = refl
put_in (e ∷ es) name value =
    pairs_in-match (name_cmp (string_bytes name) (string_bytes e.0)) _ _ _
    ∙ ap (λ t. by_order (name_cmp (string_bytes name) (string_bytes e.0)) ((string_bytes name, value) ∷ pairs_in (e ∷ es)) ((string_bytes e.0, value) ∷ pairs_in es) ((string_bytes e.0, e.1) ∷ t)) (put_in es name value)

pub found_in : {Y : Type 0} (entries : List (String Y × List ℕ)) (name : List ℕ) → lookup (is_at (λ k. slice_cmp nat_cmp name (string_bytes k))) entries ≡ find name_cmp name (pairs_in entries)
found_in [] name = refl
found_in (e ∷ es) name = ap (cond (is_at (name_cmp name) (string_bytes e.0)) (Some e.1)) (found_in es name)
