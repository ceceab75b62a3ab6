-- Tests of groups, as the code makes them.
use Rattle.std.proofs.Common.{◌≡◌, ℕ, ◌+◌, ◌<◌, ◌≤◌, nat_lt, Bool, true, false, ◌||◌, List, [], ◌∷◌, length, map, get_or, drop, refl, sym, ap, ◌∙◌}
use Rattle.std.specs.List.{list_any}
use Rattle.std.proofs.lemmas.Bool.{le-ltb}
use Rattle.std.proofs.lemmas.List.{drop_more, length-map}
use Rattle.rl_labels.specs.Name.{is_text}
use Rattle.rl_rules.specs.declared.rule.Group.{Group}
use Rattle.rl_rules.specs.Forms.{group_form, rule_form}
use Rattle.rl_rules.specs.Document.{has_same_group, most_groups, most_rules, has_too_many}

many_rules : (groups : List Group) → list_any (λ group. nat_lt most_rules (length group.rules)) (map group_form groups) ≡ list_any (λ group. nat_lt most_rules (length group.rules)) groups
many_rules [] = refl
many_rules (group ∷ groups) = λ i. nat_lt most_rules (length-map group.rules rule_form i) || many_rules groups i

-- where the groups are few, the rules of each are counted
pub too_many : (groups : List Group) → length groups ≤ most_groups → has_too_many (map group_form groups) ≡ list_any (λ group. nat_lt most_rules (length group.rules)) groups
too_many groups few =
    ap (λ b. b || list_any (λ group. nat_lt most_rules (length group.rules)) (map group_form groups)) (ap (nat_lt most_groups) (length-map groups group_form) ∙ le-ltb most_groups (length groups) few)
    ∙ many_rules groups

same_name : (group : Group) (groups : List Group) → list_any (λ other. is_text group.name other.name) (map group_form groups) ≡ list_any (λ other. is_text group.name other.name) groups
same_name group [] = refl
same_name group (other ∷ groups) = ap (λ b. is_text group.name other.name || b) (same_name group groups)

-- whether two from an index on have one name
same_from : (groups : List Group) (i : ℕ) (group : Group) (b : Bool) → i < length groups → group ≡ get_or groups i group → list_any (λ other. is_text group.name other.name) (drop (i + 1) groups) ≡ b
    → has_same_group (map group_form (drop i groups)) ≡ (b || has_same_group (map group_form (drop (i + 1) groups)))
same_from groups i group b within is named =
    ap (λ gs. has_same_group (map group_form gs)) (drop_more groups i group within)
    ∙ ap (λ g. has_same_group (map group_form (g ∷ drop (i + 1) groups))) (sym is)
    ∙ ap (λ c. c || has_same_group (map group_form (drop (i + 1) groups))) (same_name group (drop (i + 1) groups) ∙ named)

pub named_again : (groups : List Group) (i : ℕ) (group : Group) (whole : Bool) → i < length groups → group ≡ get_or groups i group → list_any (λ other. is_text group.name other.name) (drop (i + 1) groups) ≡ true → has_same_group (map group_form (drop i groups)) ≡ whole → true ≡ whole
named_again groups i group whole within is named so_far = sym (same_from groups i group true within is named) ∙ so_far

pub named_once : (groups : List Group) (i : ℕ) (group : Group) (whole : Bool) → i < length groups → group ≡ get_or groups i group → list_any (λ other. is_text group.name other.name) (drop (i + 1) groups) ≡ false → has_same_group (map group_form (drop i groups)) ≡ whole → has_same_group (map group_form (drop (i + 1) groups)) ≡ whole
named_once groups i group whole within is named so_far = sym (same_from groups i group false within is named) ∙ so_far
