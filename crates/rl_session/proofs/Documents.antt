-- What the values of a document have.
use Rattle.std.proofs.Common.{◌==◌, ◌∙◌, ◌<◌, ◌≤◌, arith, true≢false, ◌≡◌, ℕ, List, [], ◌∷◌, length, Bool, true, false, Some, Err, Bor, Less, Equal, Greater, nat_cmp, refl, sym}
use Rattle.std.proofs.lemmas.Bool.{ne_eqb}
use Rattle.std.specs.Cmp.Lexicographic.{slice_cmp}
use Rattle.std.specs.Ordering.{match_ordering}
use Rattle.json.specs.Json as json
use Rattle.json.specs.Value.{value_view, items_view, members_view}
use Rattle.json.specs.declared.value.Value.{Value}
use Rattle.serde_json.specs.Data.{Data, Members, no_members, member, put}
use Rattle.rl_json.specs.JsonData.{data_of, items_data, members_data}
use Rattle.rl_session.specs.declared.push.PushFault.TheVariants as faults
use Rattle.rl_session.specs.PushBody.{is_empty_object, parts_in, metadata_in}

abbrev has_some : Members → Bool
has_some no_members = false
has_some (member name value _) = true

put_leaves_some : (name : List ℕ) (value : Data) (members : Members) → has_some (put name value members) ≡ true
put_leaves_some name value no_members = refl
put_leaves_some name value (member other at members) = elim (slice_cmp nat_cmp name other) as (λ o. has_some (match_ordering o (member name value (member other at members)) (member other value members) (member other at (put name value members))) ≡ true) [
  | Less ↦ refl
  | Equal ↦ refl
  | Greater ↦ refl
]

some_stay : (members : json.Members) (found : Members) → has_some found ≡ true → has_some (members_data members found) ≡ true
some_stay json.no_members found some = some
some_stay (json.member name value members) found some = some_stay members (put name (data_of value) found) (put_leaves_some name (data_of value) found)

is_some_object : (members : Members) → has_some members ≡ true → false ≡ is_empty_object (Some members)
is_some_object no_members some = absurd (true≢false (sym some))
is_some_object (member name value _) some = refl

-- an object is empty where it is read of no members
pub is_empty_object_of : {A : Type 0} (b : Bool) (members : List (Bor (List ℕ) × Value A)) → b ≡ (length members == 0) → b ≡ is_empty_object (Some (members_data (members_view members) no_members))
is_empty_object_of b [] is = is
is_empty_object_of b (m ∷ ms) is = is ∙ ne_eqb (length (m ∷ ms)) 0 (λ none. omega (arith, none)) ∙ is_some_object _ (some_stay (members_view ms) (put m.0.now (data_of (value_view m.1)) no_members) (put_leaves_some m.0.now (data_of (value_view m.1)) no_members))

-- fewer items than two
pub few_items : {A : Type 0} (vs : List (Value A)) → length vs < 2 → parts_in (items_data (items_view vs)) ≡ Err faults.Shape
few_items [] few = refl
few_items (v ∷ []) few = refl
few_items (v ∷ w ∷ vs) few = absurd (omega arith)

-- more items than one after the line
pub many_items : {A : Type 0} (vs : List (Value A)) → 2 ≤ length vs → metadata_in (items_data (items_view vs)) ≡ Err faults.Shape
many_items [] many = absurd (omega arith)
many_items (v ∷ []) many = absurd (omega arith)
many_items (v ∷ w ∷ vs) many = refl
