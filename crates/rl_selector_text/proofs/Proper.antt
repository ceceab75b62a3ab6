-- What selectors, filters and stages keep, in terms of their forms.
use Rattle.rl_selector_text.proofs.TestPrinted.{tests_kept}
use Rattle.rl_selector_text.proofs.TestDepths.{tests_shallow}
use Rattle.rl_query.proofs.SameTests.{depth_forms}
use Rattle.rl_query.specs.TestDepth.{text_depth}
use Rattle.rl_query.specs.Stages.{are_shallow, is_shallow}
use Rattle.rl_query.specs.Limits.{is_filter}
use Rattle.rl_selector_text.specs.Grammar.{AreChained}
use Rattle.rl_query.specs.Form.{tests_form, filter_form, matcher_form, stage_form}
use Rattle.rl_query.specs.declared.token.Lexeme.{Lexeme}
use Rattle.std.proofs.lemmas.Bool.{le-leb, and_from}
use Rattle.std.proofs.Common.{nat_le, ◌≡◌, ℕ, true, List, [], ◌∷◌, map, refl, arith, ◌&&◌}
use Rattle.std.specs.List.{list_all}
use Rattle.rl_labels.specs.Name.{is_name}
use Rattle.rl_labels.specs.declared.matcher.Matcher.{Matcher}
use Rattle.rl_query.specs.declared.filter.LineFilter.{LineFilter}
use Rattle.rl_query.specs.declared.stages.Stage.{Stage}
use Rattle.rl_query.specs.declared.stages.Stage.TheVariants as kinds
use Rattle.rl_selector_text.specs.Standing.{is_matcher}
use Rattle.rl_selector_text.proofs.PrintedStages.{is_stage}
use Rattle.rl_query.proofs.SameForms.{all_forms}

pub all_proper : (ms : List Matcher) → list_all is_matcher (map matcher_form ms) ≡ true
all_proper = all_forms is_matcher matcher_form (λ m. and_from (is_name m.name) _ m.named m.comparable)

pub filters_proper : (fs : List LineFilter) → list_all (λ f. is_filter f.op f.text) (map filter_form fs) ≡ true
filters_proper = all_forms (λ f. is_filter f.op f.text) filter_form (λ f. f.comparable)

-- a stage's form is proper where the stage is shallow
pub shallow_proper : (depth : ℕ) (s : Stage) → is_stage depth (stage_form s) ≡ is_shallow depth s
shallow_proper depth (kinds.Filter f) = f.comparable
shallow_proper depth (kinds.Parser p) = refl
shallow_proper depth (kinds.Tests t) = λ i. tests_kept t i && nat_le (depth_forms t i) depth

-- stages that are derived are shallow
pub shallow_forms : (depth : ℕ) (ss : List Stage) (lexemes rest : List Lexeme) → AreChained depth (map stage_form ss) lexemes rest → are_shallow depth ss ≡ true
shallow_forms depth [] lexemes rest are = refl
shallow_forms depth (kinds.Tests t ∷ ss) lexemes rest are =
    let deep = tests_shallow depth (tests_form t) are.1.following are.0 are.1.are in
    and_from (nat_le (text_depth t) depth) _ (le-leb (text_depth t) depth (omega (arith, deep, depth_forms t))) (shallow_forms depth ss are.0 rest are.2)
shallow_forms depth (_ ∷ ss) lexemes rest are = shallow_forms depth ss are.0 rest are.2
