-- What `serde_json` reads of a JSON value, by its numbers and its members.
use Rattle.std.proofs.Common.{◌≡◌, ℕ, Bool, true, false, cond, ◌&&◌, List, [], ◌∷◌, Option, Some, None, is_some, option_map, option_and_then, Ordering, Less, Equal, Greater, nat_cmp, Bor, refl, sym, ap, ◌∙◌, ◌<◌, ◌+◌, ◌++◌, length, get_or, take, drop, set}
use Rattle.std.specs.Option.{option_map_or}
use Rattle.std.specs.Cmp.Lexicographic.{slice_cmp}
use Rattle.std.specs.Ordering.{match_ordering}
use Rattle.std.specs.Str.{IsUtf8, is_utf8, bytes_eq}
use Rattle.std.specs.BTreeMap.{insert_entry}
use Rattle.std.proofs.lemmas.Str.{is_utf8-from_IsUtf8, IsUtf8-from_is_utf8}
use Rattle.std.proofs.lemmas.Bool.Decides.{not_from_Decides}
use Rattle.std.proofs.lemmas.Slice.Eq.{bytes_eq-Decides}
use Rattle.std.proofs.lemmas.List.{drop_more, take_more, take-append-drop, take-set, drop-set}
use Rattle.std.specs.FinMap.{nat_cmp-IsAntisymmetric, slice_cmp-IsAntisymmetric}
use Rattle.json.specs.Json as json
use Rattle.json.specs.Value.{value_view, members_view}
use Rattle.json.specs.declared.value.Value.{Value}
use Rattle.serde_json.specs.Data.{Num, null, number, array, object, Data, item, Members, no_members, member, put}
use Rattle.serde_json.specs.Read.{number_of, of_json, of_items, of_members, read}
use Rattle.serde_json.specs.Find.{get_member}
use Rattle.serde_json.proofs.Views.{get_member-put, get_member-put_other}
use Rattle.rl_json.specs.JsonData.{in_range, items_in_range, members_in_range, data_of, items_data, members_data, referred, in_front}

mapped : {A B : Type 0} (f : A → B) (b : Bool) (a : A) → option_map f (cond b (Some a) None) ≡ cond b (Some (f a)) None
mapped f true a = refl
mapped f false a = refl

number_data : (read : Option Num) → option_map number read ≡ cond (is_some read) (Some (option_map_or number read null)) None
number_data (Some n) = refl
number_data None = refl

mutual
  pub as_data : (j : json.Json) → of_json j ≡ cond (in_range j) (Some (data_of j)) None
  as_data json.null = refl
  as_data (json.boolean b) = refl
  as_data (json.number s) = number_data (number_of s)
  as_data (json.string s) = refl
  as_data (json.array js) = ap (option_map array) (items_as_data js) ∙ mapped array (items_in_range js) (items_data js)
  as_data (json.object ms) = ap (option_map object) (members_as_data ms no_members) ∙ mapped object (members_in_range ms) (members_data ms no_members)

  items_as_data : (js : json.Items) → of_items js ≡ cond (items_in_range js) (Some (items_data js)) None
  items_as_data json.no_items = refl
  items_as_data (json.item j js) = rw (as_data j, items_as_data js) (elim (in_range j) as (λ b. option_and_then (λ d. option_map (item d) (cond (items_in_range js) (Some (items_data js)) None)) (cond b (Some (data_of j)) None) ≡ cond (b && items_in_range js) (Some (item (data_of j) (items_data js))) None) [
    | true ↦ mapped (item (data_of j)) (items_in_range js) (items_data js)
    | false ↦ refl
  ])

  members_as_data : (ms : json.Members) (found : Members) → of_members ms found ≡ cond (members_in_range ms) (Some (members_data ms found)) None
  members_as_data json.no_members found = refl
  members_as_data (json.member k j ms) found = rw (as_data j) (elim (in_range j) as (λ b. option_and_then (λ d. of_members ms (put k d found)) (cond b (Some (data_of j)) None) ≡ cond (b && members_in_range ms) (Some (members_data ms (put k (data_of j) found))) None) [
    | true ↦ members_as_data ms (put k (data_of j) found)
    | false ↦ refl
  ])

pub read_text : (bytes : List ℕ) → IsUtf8 bytes → read bytes ≡ cond (is_utf8 bytes) (read bytes) None
read_text bytes is = ap (λ b. cond b (read bytes) None) (sym (is_utf8-from_IsUtf8 bytes is))

no_text : (bytes : List ℕ) (b : Bool) → is_utf8 bytes ≡ b → ¬ (IsUtf8 bytes) → None ≡ cond b (read bytes) None
no_text bytes true is other = absurd (other (IsUtf8-from_is_utf8 bytes is))
no_text bytes false is other = refl

pub read_no_text : (bytes : List ℕ) → ¬ (IsUtf8 bytes) → None ≡ cond (is_utf8 bytes) (read bytes) None
read_no_text bytes other = no_text bytes (is_utf8 bytes) refl other

-- a member that comes last
members_data-append : {A : Type 0} (ms : List (Bor (List ℕ) × Value A)) (m : Bor (List ℕ) × Value A) (found : Members) → members_data (members_view (ms ++ m ∷ [])) found ≡ put m.0.now (data_of (value_view m.1)) (members_data (members_view ms) found)
members_data-append [] m found = refl
members_data-append (first ∷ ms) m found = members_data-append ms m (put first.0.now (data_of (value_view first.1)) found)

module _ {A : Type 0} (ms : List (Bor (List ℕ) × Value A)) (i : ℕ) (m : Bor (List ℕ) × Value A) (in' : i < length ms) (is : m ≡ get_or ms i m) where
  with_next : members_data (members_view (take (i + 1) ms)) no_members ≡ put m.0.now (data_of (value_view m.1)) (members_data (members_view (take i ms)) no_members)
  with_next = ap (λ xs. members_data (members_view xs) no_members) (take_more ms i m in' ∙ ap (λ x. take i ms ++ x ∷ []) (sym is)) ∙ members_data-append (take i ms) m no_members

  -- the value at a key is that of the last member with it
  pub value_here : (key : List ℕ) → bytes_eq m.0.now key ≡ true → get_member key (members_data (members_view (take (i + 1) ms)) no_members) ≡ Some (data_of (value_view m.1))
  value_here key tied =
      let same : key ≡ m.0.now = sym ((bytes_eq-Decides m.0.now key).0 tied) in
      ap (get_member key) with_next ∙ ap (λ k. get_member k (put m.0.now (data_of (value_view m.1)) (members_data (members_view (take i ms)) no_members))) same ∙ get_member-put m.0.now (data_of (value_view m.1)) (members_data (members_view (take i ms)) no_members)

  pub value_elsewhere : (key : List ℕ) → bytes_eq m.0.now key ≡ false → get_member key (members_data (members_view (take (i + 1) ms)) no_members) ≡ get_member key (members_data (members_view (take i ms)) no_members)
  value_elsewhere key apart =
      let other : ¬ (key ≡ m.0.now) = λ same. not_from_Decides (bytes_eq m.0.now key) (bytes_eq-Decides m.0.now key) apart (sym same) in
      ap (get_member key) with_next ∙ get_member-put_other key m.0.now (data_of (value_view m.1)) (members_data (members_view (take i ms)) no_members) other

referred-match : {A : Type 0} (o : Ordering) (a b c : List (Bor (List ℕ) × Bor (Value A))) → referred (match_ordering o a b c) ≡ match_ordering o (referred a) (referred b) (referred c)
referred-match Less a b c = refl
referred-match Equal a b c = refl
referred-match Greater a b c = refl

pub inserted : {A : Type 0} (entries : List (Bor (List ℕ) × Bor (Value A))) (key : Bor (List ℕ)) (value : Bor (Value A))
    → referred (insert_entry (λ a b. slice_cmp nat_cmp a.now b.now) entries key value) ≡ put key.now (data_of (value_view value.now)) (referred entries)
inserted [] key value = refl
inserted (entry ∷ entries) key value = referred-match (slice_cmp nat_cmp key.now entry.0.now) _ _ _ ∙ rw (inserted entries key value)

referred-append : {A : Type 0} (entries others : List (Bor (List ℕ) × Bor (Value A))) → referred (entries ++ others) ≡ in_front entries (referred others)
referred-append [] others = refl
referred-append (entry ∷ entries) others = ap (member entry.0.now (data_of (value_view entry.1.now))) (referred-append entries others)

in_front-append : {A : Type 0} (entries : List (Bor (List ℕ) × Bor (Value A))) (entry : Bor (List ℕ) × Bor (Value A)) (others : Members) → in_front (entries ++ entry ∷ []) others ≡ in_front entries (member entry.0.now (data_of (value_view entry.1.now)) others)
in_front-append [] entry others = refl
in_front-append (first ∷ entries) entry others = ap (member first.0.now (data_of (value_view first.1.now))) (in_front-append entries entry others)

-- What is known of a key that is above the members in front of an index.
pub record Above {A : Type 0} (key : List ℕ) (found : List (Bor (List ℕ) × Bor (Value A))) (i : ℕ) : Type 0 where
  pub passed : (d : Data) → put key d (referred found) ≡ in_front (take i found) (put key d (referred (drop i found)))

module _ {A : Type 0} (key : List ℕ) (found : List (Bor (List ℕ) × Bor (Value A))) where
  pub above_none : Above key found 0
  above_none = record { passed = λ d. refl }

  -- the member at an index, in front of the others
  put_at : (i : ℕ) (m : Bor (List ℕ) × Bor (Value A)) (d : Data) (o : Ordering) → i < length found → m ≡ get_or found i m → slice_cmp nat_cmp key m.0.now ≡ o
      → put key d (referred (drop i found)) ≡ match_ordering o (member key d (member m.0.now (data_of (value_view m.1.now)) (referred (drop (i + 1) found)))) (member m.0.now d (referred (drop (i + 1) found))) (member m.0.now (data_of (value_view m.1.now)) (put key d (referred (drop (i + 1) found))))
  put_at i m d o in' is e =
      ap (λ t. put key d (referred t)) (drop_more found i m in' ∙ ap (λ x. x ∷ drop (i + 1) found) (sym is))
      ∙ ap (λ r. match_ordering r (member key d (member m.0.now (data_of (value_view m.1.now)) (referred (drop (i + 1) found)))) (member m.0.now d (referred (drop (i + 1) found))) (member m.0.now (data_of (value_view m.1.now)) (put key d (referred (drop (i + 1) found))))) e

  pub above_more : (i : ℕ) (m : Bor (List ℕ) × Bor (Value A)) → i < length found → m ≡ get_or found i m → slice_cmp nat_cmp key m.0.now ≡ Greater → Above key found i → Above key found (i + 1)
  above_more i m in' is e so_far = record {
    passed = λ d.
        so_far.passed d ∙ ap (in_front (take i found)) (put_at i m d Greater in' is e)
        ∙ sym (in_front-append (take i found) m (put key d (referred (drop (i + 1) found))))
        ∙ ap (λ t. in_front t (put key d (referred (drop (i + 1) found)))) (ap (λ x. take i found ++ x ∷ []) is ∙ sym (take_more found i m in'));
  }

  pub placed_before : (i : ℕ) (m : Bor (List ℕ) × Bor (Value A)) (d : Data) → i < length found → m ≡ get_or found i m → slice_cmp nat_cmp key m.0.now ≡ Less → Above key found i → put key d (referred found) ≡ in_front (take i found) (member key d (referred (drop i found)))
  placed_before i m d in' is e so_far =
      so_far.passed d ∙ ap (in_front (take i found)) (put_at i m d Less in' is e)
      ∙ ap (λ t. in_front (take i found) (member key d (referred t))) (sym (drop_more found i m in' ∙ ap (λ x. x ∷ drop (i + 1) found) (sym is)))

  pub placed_on : (i : ℕ) (m : Bor (List ℕ) × Bor (Value A)) (d : Data) → i < length found → m ≡ get_or found i m → slice_cmp nat_cmp key m.0.now ≡ Equal → Above key found i → put key d (referred found) ≡ in_front (take i found) (member key d (referred (drop (i + 1) found)))
  placed_on i m d in' is e so_far =
      so_far.passed d ∙ ap (in_front (take i found)) (put_at i m d Equal in' is e)
      ∙ ap (λ k. in_front (take i found) (member k d (referred (drop (i + 1) found)))) (sym (slice_cmp-IsAntisymmetric nat_cmp-IsAntisymmetric key m.0.now e))

  pub placed_last : (i : ℕ) (d : Data) → drop i found ≡ [] → Above key found i → put key d (referred found) ≡ in_front (take i found) (member key d (referred (drop i found)))
  placed_last i d ends so_far = so_far.passed d ∙ ap (λ t. in_front (take i found) (put key d (referred t))) ends ∙ ap (λ t. in_front (take i found) (member key d (referred t))) (sym ends)

-- a member at an index, between those in front of it and those after it
pub member_between : {A : Type 0} (found : List (Bor (List ℕ) × Bor (Value A))) (start following : ℕ) (entry : Bor (List ℕ) × Bor (Value A)) → referred (take start found ++ entry ∷ drop following found) ≡ in_front (take start found) (member entry.0.now (data_of (value_view entry.1.now)) (referred (drop following found)))
member_between found start following entry = referred-append (take start found) (entry ∷ drop following found)

-- a member that is replaced
pub replaced : {X : Type 0} (xs : List X) (i : ℕ) (x : X) → i < length xs → set xs i x ≡ take i xs ++ x ∷ drop (i + 1) xs
replaced xs i x in' = sym (take-append-drop i (set xs i x)) ∙ (λ j. take-set xs i x j ++ drop-set xs i x in' j)
