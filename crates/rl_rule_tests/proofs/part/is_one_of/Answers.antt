-- Keys are texts.
use Rattle.std.proofs.Common.{◌≡◌, Bool, ◌||◌, List, [], ◌∷◌, map, refl, ap, sym, ◌∙◌}
use Rattle.std.specs.List.{list_any}
use Rattle.rl_labels.specs.Name.{is_text}
use Rattle.rl_rule_tests.proofs.part.is_one_of.Goals as goal

list_any_of_map : {A B : Type 0} (p : B → Bool) (f : A → B) (xs : List A) → list_any p (map f xs) ≡ list_any (λ x. p (f x)) xs
list_any_of_map p f [] = refl
list_any_of_map p f (x ∷ xs) = ap (λ b. p (f x) || b) (list_any_of_map p f xs)

pub returns : goal.returns
returns c = c.contains.ensures.value ∙ sym (list_any_of_map (λ one. is_text one c.args.key.now) (λ one. one.now) c.args.keys.now)
