-- How long the texts of labels are.
use Rattle.std.proofs.Common.{◌≡◌, ℕ, ◌+◌, ◌<◌, ◌≤◌, nat_lt, List, [], ◌∷◌, ◌++◌, length, map, refl, sym, ap, ◌∙◌, ⊎_elim, arith}
use Rattle.std.specs.List.{flat_map, join_with_byte}
use Rattle.std.proofs.lemmas.Bool.{cases_lt, lt-ltb, le-ltb}
use Rattle.std.proofs.lemmas.List.{length-append}
use Rattle.rl_labels.specs.LabelSet.{Pair}
use Rattle.rl_labels.specs.LabelText.{value_text, label_text, labels_text}
use Rattle.rl_labels.specs.Pairs.{longest_text}
use Rattle.rl_labels.proofs.Steps.{labels_joined}

-- the texts of labels, each after a separator
abbrev pub marked : List Pair → List ℕ
marked = flat_map (λ label. 44 ∷ label_text label)

-- a label and the separator before it are four bytes longer than the name and the escaped value
pub marked_length : (label : Pair) → length (44 ∷ label_text label) ≡ length label.0 + length (value_text label.1) + 4
marked_length label =
    let front = label.0 ++ 61 ∷ 34 ∷ [] in
    let name : length front ≡ length label.0 + 2 = length-append label.0 (61 ∷ 34 ∷ []) in
    let value : length (front ++ value_text label.1) ≡ length front + length (value_text label.1) = length-append front (value_text label.1) in
    let whole : length (label_text label) ≡ length (front ++ value_text label.1) + 1 = length-append (front ++ value_text label.1) (34 ∷ []) in
    omega (arith, name, value, whole)

-- two comparisons with one answer
same_answer : (a b c d : ℕ) → (a < b → c < d) → (b ≤ a → d ≤ c) → nat_lt a b ≡ nat_lt c d
same_answer a b c d below above = ⊎_elim (λ h. lt-ltb a b h ∙ sym (lt-ltb c d (below h))) (λ h. le-ltb a b h ∙ sym (le-ltb c d (above h))) (cases_lt a b)

-- the text is too long exactly where the labels, each after its separator, leave no byte for the last brace
pub long_from_marked : (labels : List Pair) → nat_lt 4095 (length (marked labels)) ≡ nat_lt longest_text (length (labels_text labels))
long_from_marked [] = refl
long_from_marked (label ∷ labels) =
    let text = join_with_byte 44 (map label_text (label ∷ labels)) in
    let joined = ap length (labels_joined label labels) in
    let parts = length-append (label_text label) (marked labels) in
    let closed = length-append text (125 ∷ []) in
    same_answer 4095 _ longest_text _ (λ h. omega (arith, h, joined, parts, closed)) (λ h. omega (arith, h, joined, parts, closed))
