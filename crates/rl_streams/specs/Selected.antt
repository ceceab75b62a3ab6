-- Which streams a selector selects, by their indices, as it is kept.
use Rattle.std.specs.Prelude.{◌≡◌, ℕ, suc, ◌+◌, ◌≤◌, List, [], ◌∷◌, ◌++◌, length, map, take, if◌then◌else◌, refl}
use Rattle.std.specs.Coded.{Coded, code_by, coded×, coded_ℕ, coded_list}
use Rattle.std.specs.List.{AllByRecursion}
use Rattle.rl_labels.specs.LabelSet.{LabelSet}
use Rattle.rl_labels.specs.Selects.{selects}
use Rattle.rl_labels.specs.declared.matcher.Matcher.{Matcher}
use Rattle.rl_labels.specs.contracts.matcher.Matcher as matcher_type

-- a selector, how many streams were asked, and the indices of those that it selects
pub record SelectionView : Type 0 where
  pub selector : List Matcher
  pub asked : ℕ
  pub positions : List ℕ

-- as its parts, for a store
abbrev pub selection_code : Coded SelectionView
selection_code =
    code_by (List Matcher × (ℕ × List ℕ)) (coded× (coded_list matcher_type.the_row.coded) (coded× coded_ℕ (coded_list coded_ℕ)))
    (λ s. (s.selector, (s.asked, s.positions)))
    (λ p. record { selector = p.0; asked = p.1.0; positions = p.1.1 })
    (λ _. refl)

-- the indices of the label sets that the selector selects
abbrev pub selected : List Matcher → List LabelSet → List ℕ
selected selector [] = []
selected selector (labels ∷ others) = if selects selector labels then 0 ∷ map suc (selected selector others) else map suc (selected selector others)

-- the next stream was asked
abbrev pub asked_next : SelectionView → LabelSet → SelectionView
asked_next s labels = record { selector = s.selector; asked = s.asked + 1; positions = if selects s.selector labels then s.positions ++ s.asked ∷ [] else s.positions }

-- the indices are those of the streams that the selector selects among the first ones, which were asked
pub record IsSelection (labels : List LabelSet) (s : SelectionView) : Type 0 where
  pub asked : s.asked ≤ length labels
  pub positions : s.positions ≡ selected s.selector (take s.asked labels)

abbrev pub AreSelections : List LabelSet → List SelectionView → Type 0
AreSelections labels kept = AllByRecursion (IsSelection labels) kept
