-- What one item more makes of the group, its alerts and its evaluations.
use Rattle.std.proofs.Common.{◌≡◌, ℕ, zero, suc, ◌+◌, ◌-◌, ◌<◌, ◌≤◌, List, [], ◌∷◌, ◌++◌, length, zip, take, drop, get_or, Some, slice_get, slice_set, refl, sym, ap, subst, ◌∙◌, arith, append_assoc, append-nil, add-one, length-append}
use Rattle.std.proofs.Math.Seq.{get_or-append_seam}
use Rattle.std.proofs.lemmas.List.{set-get_or, take_all, take_more}
use Rattle.std.proofs.lemmas.Option.{get_or_from_slice_get, slice_get-get_or, slice_get_within}
use Rattle.rl_rules.specs.Editing.{handed_on, taken}
use Rattle.rl_rules.specs.declared.alert.Alert.{Alert}
use Rattle.rl_rules.specs.declared.rule.Group.{Group}
use Rattle.rl_rules.specs.declared.rule.Rule.{Rule}
use Rattle.rl_rules.specs.declared.evaluation.Evaluation.{Evaluation}
use Rattle.rl_world.specs.History.{alerts_then, alerts_edited, alerts_after, group_after, evaluations_in}
use Rattle.rl_world.specs.declared.item.Item.{Item}
use Rattle.rl_world.specs.declared.item.Item.TheVariants as kinds

module _ (evaluation : Evaluation) where
  pub alerts-evaluated : (group : Group) (alerts : List (List Alert)) (items : List Item) → alerts_after group alerts (items ++ kinds.Evaluated evaluation ∷ []) ≡ alerts_then (alerts_after group alerts items) evaluation.outcomes
  alerts-evaluated group alerts [] = refl
  alerts-evaluated group alerts (kinds.Edited next ∷ items) = alerts-evaluated next (alerts_edited group alerts next) items
  alerts-evaluated group alerts (kinds.Evaluated first ∷ items) = alerts-evaluated group (alerts_then alerts first.outcomes) items

  pub group-evaluated : (group : Group) (items : List Item) → group_after group (items ++ kinds.Evaluated evaluation ∷ []) ≡ group_after group items
  group-evaluated group [] = refl
  group-evaluated group (kinds.Edited next ∷ items) = group-evaluated next items
  group-evaluated group (kinds.Evaluated first ∷ items) = group-evaluated group items

  pub evaluations-evaluated : (items : List Item) → evaluations_in (items ++ kinds.Evaluated evaluation ∷ []) ≡ evaluations_in items ++ evaluation ∷ []
  evaluations-evaluated [] = refl
  evaluations-evaluated (kinds.Edited next ∷ items) = evaluations-evaluated items
  evaluations-evaluated (kinds.Evaluated first ∷ items) = ap (λ (rest : List Evaluation). first ∷ rest) (evaluations-evaluated items)

module _ (to : Group) where
  pub alerts-edited : (group : Group) (alerts : List (List Alert)) (items : List Item) → alerts_after group alerts (items ++ kinds.Edited to ∷ []) ≡ alerts_edited (group_after group items) (alerts_after group alerts items) to
  alerts-edited group alerts [] = refl
  alerts-edited group alerts (kinds.Edited next ∷ items) = alerts-edited next (alerts_edited group alerts next) items
  alerts-edited group alerts (kinds.Evaluated first ∷ items) = alerts-edited group (alerts_then alerts first.outcomes) items

  pub group-edited : (group : Group) (items : List Item) → group_after group (items ++ kinds.Edited to ∷ []) ≡ to
  group-edited group [] = refl
  group-edited group (kinds.Edited next ∷ items) = group-edited next items
  group-edited group (kinds.Evaluated first ∷ items) = group-edited group items

  pub evaluations-edited : (items : List Item) → evaluations_in (items ++ kinds.Edited to ∷ []) ≡ evaluations_in items
  evaluations-edited [] = refl
  evaluations-edited (kinds.Edited next ∷ items) = evaluations-edited items
  evaluations-edited (kinds.Evaluated first ∷ items) = ap (λ (rest : List Evaluation). first ∷ rest) (evaluations-edited items)

-- each rule is handed alerts on, or none
pub length_handed_on : (rules : List Rule) (olds : List (Rule × List Alert)) → length (handed_on rules olds) ≡ length rules
length_handed_on [] olds = refl
length_handed_on (rule ∷ rules) olds = ap suc (length_handed_on rules (taken rule olds).1)

-- there are no more evaluations than items
pub few_evaluations : (items : List Item) → length (evaluations_in items) ≤ length items
few_evaluations [] = omega arith
few_evaluations (kinds.Edited group ∷ items) = let rest = few_evaluations items in omega arith
few_evaluations (kinds.Evaluated evaluation ∷ items) = let rest = few_evaluations items in omega arith

-- one after all is the last
pub last_is : {X : Type 0} (xs : List X) (x : X) → slice_get (xs ++ x ∷ []) (length (xs ++ x ∷ []) - 1) ≡ Some x
last_is xs x =
    let all = xs ++ x ∷ [] in
    let long = length-append xs (x ∷ []) in
    let index : length all - 1 ≡ length xs = omega (arith, long) in
    ap (slice_get all) index ∙ slice_get-get_or all (length xs) x (omega (arith, long)) ∙ ap Some (get_or-append_seam xs x [] x)

-- the last stands after all the others
ends_in : {X : Type 0} (xs : List X) (x : X) → slice_get xs (length xs - 1) ≡ Some x → xs ≡ take (length xs - 1) xs ++ x ∷ []
ends_in xs x last =
    let within = slice_get_within xs (length xs - 1) x last in
    sym (take_all (length xs - 1 + 1) xs (omega (arith, within))) ∙ take_more xs (length xs - 1) x within ∙ ap (λ y. take (length xs - 1) xs ++ y ∷ []) (get_or_from_slice_get xs (length xs - 1) x x last)

-- in place of the last the same
pub set_last : {X : Type 0} (xs : List X) (n : ℕ) (x : X) → n ≡ length xs → slice_get xs (length xs - 1) ≡ Some x → slice_set xs (n - 1) x ≡ xs
set_last xs n x long last =
    let there = ap (λ count. slice_get xs (count - 1)) long ∙ last in
    ap (slice_set xs (n - 1)) (sym (get_or_from_slice_get xs (n - 1) x x there)) ∙ set-get_or xs (n - 1) x

-- an evaluation that is the last item is the last evaluation
pub last_evaluation : (evaluation : Evaluation) (items : List Item) → slice_get items (length items - 1) ≡ Some (kinds.Evaluated evaluation) → slice_get (evaluations_in items) (length (evaluations_in items) - 1) ≡ Some evaluation
last_evaluation evaluation items last =
    let before = take (length items - 1) items in
    let split : evaluations_in items ≡ evaluations_in before ++ evaluation ∷ [] = ap evaluations_in (ends_in items (kinds.Evaluated evaluation) last) ∙ evaluations-evaluated evaluation before in
    subst (λ (evaluations : List Evaluation). slice_get evaluations (length evaluations - 1) ≡ Some evaluation) (sym split) (last_is (evaluations_in before) evaluation)

-- two lists side by side from an index on
zip-drop : {X Y : Type 0} (xs : List X) (ys : List Y) (i : ℕ) (x : X) (y : Y) → i < length xs → i < length ys → zip (drop i xs) (drop i ys) ≡ (get_or xs i x, get_or ys i y) ∷ zip (drop (suc i) xs) (drop (suc i) ys)
zip-drop [] ys i x y low high = absurd (omega arith)
zip-drop (a ∷ xs) [] i x y low high = absurd (omega arith)
zip-drop (a ∷ xs) (b ∷ ys) zero x y low high = refl
zip-drop (a ∷ xs) (b ∷ ys) (suc i) x y low high = zip-drop xs ys i x y (omega arith) (omega arith)

zip-end : {X Y : Type 0} (xs : List X) (ys : List Y) (i : ℕ) → (i < length xs → i < length ys → ⊥) → zip (drop i xs) (drop i ys) ≡ []
zip-end [] ys zero none = refl
zip-end [] ys (suc i) none = refl
zip-end (a ∷ xs) [] zero none = refl
zip-end (a ∷ xs) [] (suc i) none = nothing (drop i xs) [] refl
  where
    nothing : {X Y : Type 0} (xs : List X) (ys : List Y) → ys ≡ [] → zip xs ys ≡ []
    nothing [] ys e = refl
    nothing (a ∷ xs) [] e = refl
    nothing (a ∷ xs) (b ∷ ys) e = cc
zip-end (a ∷ xs) (b ∷ ys) zero none = absurd (none (omega arith) (omega arith))
zip-end (a ∷ xs) (b ∷ ys) (suc i) none = zip-end xs ys i (λ low high. none (omega (arith, low)) (omega (arith, high)))

-- one pair more
pub paired_more : {X Y : Type 0} (xs : List X) (ys : List Y) (i : ℕ) (x : X) (y : Y) (done more : List (X × Y)) → i < length xs → i < length ys → x ≡ get_or xs i x → y ≡ get_or ys i y → more ≡ done ++ (x, y) ∷ []
    → done ++ zip (drop i xs) (drop i ys) ≡ zip xs ys → more ++ zip (drop (i + 1) xs) (drop (i + 1) ys) ≡ zip xs ys
paired_more {X} {Y} xs ys i x y done more low high x_is y_is more_is so_far =
    let rest : List (X × Y) = zip (drop (suc i) xs) (drop (suc i) ys) in
    (λ k. more_is k ++ zip (drop (add-one i k) xs) (drop (add-one i k) ys))
    ∙ append_assoc done ((x, y) ∷ []) rest
    ∙ (λ k. done ++ (x_is k, y_is k) ∷ rest)
    ∙ sym (ap (λ (pairs : List (X × Y)). done ++ pairs) (zip-drop xs ys i x y low high))
    ∙ so_far

-- none is left
pub paired_all : {X Y : Type 0} (xs : List X) (ys : List Y) (i : ℕ) (done : List (X × Y)) → (i < length xs → i < length ys → ⊥) → done ++ zip (drop i xs) (drop i ys) ≡ zip xs ys → done ≡ zip xs ys
paired_all {X} {Y} xs ys i done none so_far = sym (append-nil done) ∙ sym (ap (λ (pairs : List (X × Y)). done ++ pairs) (zip-end xs ys i none)) ∙ so_far
