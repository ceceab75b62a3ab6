-- Old rules that differ are passed over, and the first that is equal goes.
use Rattle.std.proofs.Common.{◌≡◌, ℕ, ◌+◌, ◌<◌, ◌≤◌, Bool, true, false, cond, List, [], ◌∷◌, ◌++◌, length, get_or, take, drop, Option, None, Some, sym, ap, ◌∙◌, append_assoc}
use Rattle.std.proofs.lemmas.List.{take_more, drop_more, drop_all, take_all, append-nil, get_or_default}
use Rattle.rl_rules.specs.declared.alert.Alert.{Alert}
use Rattle.rl_rules.specs.declared.rule.Rule.{Rule}
use Rattle.rl_rules.specs.Editing.{taken}
use Rattle.rl_rules.specs.SameRule.{is_same_rule}

abbrev Old : Type 0
Old = Rule × List Alert

module _ (rule : Rule) where
  -- the old rules before an index were passed over
  abbrev pub IsPassed : List Old → ℕ → Type 0
  IsPassed olds i = taken rule olds ≡ ((taken rule (drop i olds)).0, take i olds ++ (taken rule (drop i olds)).1)

  -- what is taken from an index on, by whether the rule there is equal
  abbrev by_first : Bool → Old → List Old → Option (List Alert) × List Old
  by_first b old rest = cond b (Some old.1, rest) ((taken rule rest).0, old ∷ (taken rule rest).1)

  at_index : (olds : List Old) (i : ℕ) (old : Old) (b : Bool) → i < length olds → old ≡ get_or olds i old → is_same_rule old.0 rule ≡ b → IsPassed olds i
      → taken rule olds ≡ ((by_first b old (drop (i + 1) olds)).0, take i olds ++ (by_first b old (drop (i + 1) olds)).1)
  at_index olds i old b within is same so_far =
      let rest = drop (i + 1) olds in
      let found : taken rule (drop i olds) ≡ by_first b old rest =
      ap (taken rule) (drop_more olds i old within) ∙ ap (λ (o : Old). taken rule (o ∷ rest)) (sym is) ∙ ap (λ c. by_first c old rest) same in
      so_far ∙ (λ k. ((found k).0, take i olds ++ (found k).1))

  pub passed_more : (olds : List Old) (i : ℕ) (old : Old) → i < length olds → old ≡ get_or olds i old → is_same_rule old.0 rule ≡ false → IsPassed olds i → IsPassed olds (i + 1)
  passed_more olds i old within is same so_far =
      let rest = taken rule (drop (i + 1) olds) in
      at_index olds i old false within is same so_far
      ∙ ap (λ (front : List Old). (rest.0, front)) (sym (append_assoc (take i olds) (old ∷ []) rest.1) ∙ ap (λ (o : Old). (take i olds ++ o ∷ []) ++ rest.1) is ∙ ap (λ (front : List Old). front ++ rest.1) (sym (take_more olds i old within)))

  pub taken_here : (olds : List Old) (i : ℕ) (old gone : Old) (left : List Old) → i < length olds → old ≡ get_or olds i old → gone ≡ get_or olds i gone → left ≡ take i olds ++ drop (i + 1) olds → is_same_rule old.0 rule ≡ true → IsPassed olds i
      → (Some gone.1, left) ≡ taken rule olds
  taken_here olds i old gone left within is gone_is left_is same so_far =
      let one : gone ≡ old = gone_is ∙ get_or_default olds i gone old within ∙ sym is in
      (λ k. (Some (one k).1, left_is k)) ∙ sym (at_index olds i old true within is same so_far)

  pub none_taken : (olds : List Old) (i : ℕ) → length olds ≤ i → IsPassed olds i → (None, olds) ≡ taken rule olds
  none_taken olds i all so_far =
      sym (so_far
      ∙ (λ k. ((taken rule (drop_all i olds all k)).0, take i olds ++ (taken rule (drop_all i olds all k)).1))
      ∙ ap (λ (front : List Old). (None, front)) (append-nil (take i olds) ∙ take_all i olds all))
