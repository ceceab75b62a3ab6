-- Where evaluations stand in a history, and notes that describe its items.
use Rattle.std.proofs.Common.{◌≡◌, ℕ, zero, suc, ◌+◌, ◌<◌, ◌≤◌, cond, List, [], ◌∷◌, ◌++◌, drop, get_or, length, map, slice_index_or, Some, None, refl, sym, ap, subst, ◌∙◌, add-one, append-nil, append_assoc, arith}
use Rattle.std.specs.Prelude.{slice_get}
use Rattle.std.proofs.lemmas.List.{drop_more, get_or-map, length_push}
use Rattle.std.proofs.lemmas.Simd.{map-map}
use Rattle.std.proofs.lemmas.Option.{get_or_from_slice_get, none-some, same_Some, slice_get_within}
use Rattle.sha2.specs.Sha256.{sha256}
use Rattle.rl_rules.specs.declared.evaluation.Evaluation.{Evaluation}
use Rattle.rl_rules.specs.declared.rule.Group.{Group}
use Rattle.rl_sinks.specs.Texts.{tail_text}
use Rattle.rl_world.specs.History.{evaluations_in}
use Rattle.rl_world.specs.declared.item.Item.{Item}
use Rattle.rl_world.specs.declared.item.Item.TheVariants as kinds
use Rattle.rl_audit.specs.Claims.{IsRight}
use Rattle.rl_audit.specs.Merged.{evaluation_indices, is_evaluated, item_of, Describes}
use Rattle.rl_audit.specs.declared.receipt.Note.TheVariants as notes

-- INDICES

-- none stands at an index that is not in the list
pub past_none : {X : Type 0} (xs : List X) (i : ℕ) → slice_get xs i ≡ None → length xs ≤ i
past_none [] i none = omega arith
past_none (x ∷ xs) zero none = absurd (none-some x (sym none))
past_none (x ∷ xs) (suc i) none = let rest = past_none xs i none in omega arith

drop_past : {X : Type 0} (xs : List X) (i : ℕ) → slice_get xs i ≡ None → drop i xs ≡ []
drop_past [] zero none = refl
drop_past [] (suc i) none = refl
drop_past (x ∷ xs) zero none = absurd (none-some x (sym none))
drop_past (x ∷ xs) (suc i) none = drop_past xs i none

-- the indices from one item on
indices_head : (n : ℕ) (item : Item) (rest : List Item) → evaluation_indices n (item ∷ rest) ≡ cond (is_evaluated item) (n ∷ []) [] ++ evaluation_indices (n + 1) rest
indices_head n (kinds.Edited to) rest = ap (λ m. evaluation_indices m rest) (sym (add-one n))
indices_head n (kinds.Evaluated evaluation) rest = ap (λ m. n ∷ evaluation_indices m rest) (sym (add-one n))

-- one item more
pub indices_more : (items : List Item) (n : ℕ) (item : Item) (before after : List ℕ) → slice_get items n ≡ Some item → after ≡ before ++ cond (is_evaluated item) (n ∷ []) []
    → before ++ evaluation_indices n (drop n items) ≡ evaluation_indices 0 items → after ++ evaluation_indices (n + 1) (drop (n + 1) items) ≡ evaluation_indices 0 items
indices_more items n item before after there is so_far =
    let own : List ℕ = cond (is_evaluated item) (n ∷ []) [] in
    let rest : List ℕ = evaluation_indices (n + 1) (drop (n + 1) items) in
    let split : drop n items ≡ item ∷ drop (n + 1) items =
    drop_more items n item (slice_get_within items n item there) ∙ ap (λ (x : Item). x ∷ drop (n + 1) items) (get_or_from_slice_get items n item item there) in
    ap (λ (xs : List ℕ). xs ++ rest) is
    ∙ append_assoc before own rest
    ∙ ap (λ (xs : List ℕ). before ++ xs) (sym (ap (evaluation_indices n) split ∙ indices_head n item (drop (n + 1) items)))
    ∙ so_far

-- no item is left
pub indices_all : (items : List Item) (n : ℕ) (before : List ℕ) → slice_get items n ≡ None → before ++ evaluation_indices n (drop n items) ≡ evaluation_indices 0 items → before ≡ evaluation_indices 0 items
indices_all items n before none so_far = sym (append-nil before) ∙ sym (ap (λ (xs : List Item). before ++ evaluation_indices n xs) (drop_past items n none)) ∙ so_far

-- EVALUATIONS BY THEIR NUMBERS

at_end : {X : Type 0} (xs : List X) (x : X) (ys : List X) → slice_get (xs ++ x ∷ ys) (length xs) ≡ Some x
at_end [] x ys = refl
at_end (z ∷ xs) x ys = at_end xs x ys

-- an evaluation by its number stands where the indices say
found_from : (before items : List Item) (number index : ℕ) (evaluation : Evaluation) → slice_get (evaluations_in items) number ≡ Some evaluation → slice_get (evaluation_indices (length before) items) number ≡ Some index
    → slice_get (before ++ items) index ≡ Some (kinds.Evaluated evaluation)
found_from before [] number index evaluation is there = absurd (none-some evaluation is)
found_from before (kinds.Edited to ∷ items) number index evaluation is there =
    ap (λ (xs : List Item). slice_get xs index) (sym (append_assoc before (kinds.Edited to ∷ []) items))
    ∙ found_from (before ++ kinds.Edited to ∷ []) items number index evaluation is (ap (λ n. slice_get (evaluation_indices n items) number) (length_push before (kinds.Edited to) ∙ add-one (length before)) ∙ there)
found_from before (kinds.Evaluated first ∷ items) zero index evaluation is there =
    ap (slice_get (before ++ kinds.Evaluated first ∷ items)) (sym (same_Some (length before) index there))
    ∙ at_end before (kinds.Evaluated first) items
    ∙ ap (λ (x : Evaluation). Some (kinds.Evaluated x)) (same_Some first evaluation is)
found_from before (kinds.Evaluated first ∷ items) (suc number) index evaluation is there =
    ap (λ (xs : List Item). slice_get xs index) (sym (append_assoc before (kinds.Evaluated first ∷ []) items))
    ∙ found_from (before ++ kinds.Evaluated first ∷ []) items number index evaluation is (ap (λ n. slice_get (evaluation_indices n items) number) (length_push before (kinds.Evaluated first) ∙ add-one (length before)) ∙ there)

pub found_at : (items : List Item) (number index : ℕ) (evaluation : Evaluation) → slice_get (evaluations_in items) number ≡ Some evaluation → slice_get (evaluation_indices 0 items) number ≡ Some index → slice_get items index ≡ Some (kinds.Evaluated evaluation)
found_at items = found_from [] items

-- NOTES

-- what stands at one index of two lists that are seen as one
pub same_there : {X Y Z : Type 0} (f : X → Z) (h : Y → Z) (xs : List X) (ys : List Y) (i : ℕ) (x : X) (y : Y) → map f xs ≡ map h ys → i < length xs → i < length ys → x ≡ get_or xs i x → y ≡ get_or ys i y → f x ≡ h y
same_there f h [] ys i x y same low high x_is y_is = absurd (omega (arith, low))
same_there f h (a ∷ xs) [] i x y same low high x_is y_is = absurd (omega (arith, high))
same_there f h (a ∷ xs) (b ∷ ys) zero x y same low high x_is y_is = cc
same_there f h (a ∷ xs) (b ∷ ys) (suc i) x y same low high x_is y_is = same_there f h xs ys i x y (cc) (omega (arith, low)) (omega (arith, high)) x_is y_is

-- the items of one history of all
pub items_there : {X : Type 0} (items : X → List Item) (xs : List X) (i : ℕ) (x : X) → i < length xs → x ≡ get_or xs i x → items x ≡ get_or (map items xs) i []
items_there items xs i x less is = ap items is ∙ sym (get_or-map items xs i x [] less)

-- how many items each history has
pub sizes_there : {X : Type 0} (items : X → List Item) (xs : List X) → map (λ x. length (items x)) xs ≡ map length (map items xs)
sizes_there items xs = sym (map-map (length {A = Item}) items xs)

-- a note that has the digest of an evaluation, and one that has the group as it was edited
pub right_evaluated : (histories : List (List Item)) (items : List Item) (group number index : ℕ) (digest : List ℕ) (evaluation : Evaluation) → items ≡ get_or histories group [] → index ≡ slice_index_or (evaluation_indices 0 items) number (length items)
    → slice_get items index ≡ Some (kinds.Evaluated evaluation) → digest ≡ sha256 (tail_text evaluation) → IsRight histories (item_of histories) Describes (notes.Evaluated group number digest)
right_evaluated histories items group number index digest evaluation own at there digest_is = record {
  item = kinds.Evaluated evaluation;
  there = subst (λ (own : List Item). slice_get own (slice_index_or (evaluation_indices 0 own) number (length own)) ≡ Some (kinds.Evaluated evaluation)) own (ap (slice_get items) (sym at) ∙ there);
  holds = digest_is;
}

pub right_edited : (histories : List (List Item)) (items : List Item) (group index : ℕ) (to : Group) → items ≡ get_or histories group [] → slice_get items index ≡ Some (kinds.Edited to) → IsRight histories (item_of histories) Describes (notes.Edited group index to)
right_edited histories items group index to own there = record {
  item = kinds.Edited to;
  there = ap (λ (own : List Item). slice_get own index) (sym own) ∙ there;
  holds = refl;
}
