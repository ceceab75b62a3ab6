-- Line filters first, and then the other stages.
use Rattle.std.proofs.Common.{◌≡◌, ℕ, true, false, cond, ◌&&◌, List, [], ◌∷◌, map, Option, Some, None, refl, sym, ap, ◌∙◌}
use Rattle.std.specs.Option.{option_and_then}
use Rattle.std.specs.List.{list_all}
use Rattle.std.proofs.lemmas.Bool.{true≢false}
use Rattle.std.proofs.lemmas.List.Folds.{list_all-map}
use Rattle.rl_labels.specs.LabelSet.{LabelSet}
use Rattle.rl_query.specs.declared.stages.Stage.{Stage}
use Rattle.rl_query.specs.declared.stages.Stage.TheVariants.{Filter, Parser, Tests}
use Rattle.rl_pipeline.specs.Filtering.{passes}
use Rattle.rl_pipeline.specs.Running.{stage_run, run, lets_pass, keeps, labels_after, is_filter, IsPlain}
use Rattle.rl_pipeline.specs.Steps.{step_stage}
use Rattle.rl_pipeline.specs.declared.running.Step.{Step}

-- a stage that is no line filter, before the others
following : (stages : List Stage) (line : List ℕ) (found : Option LabelSet) → ((labels : LabelSet) → run stages line labels ≡ cond (keeps stages line) (labels_after stages line labels) None)
    → option_and_then (run stages line) found ≡ cond (keeps stages line) (option_and_then (labels_after stages line) found) None
following stages line (Some labels) others = others labels
following stages line None others = elim (keeps stages line) as (λ b. ◌≡◌ {A = Option LabelSet} None (cond b None None)) [ true ↦ refl | false ↦ refl ]

pub filters_first : (stages : List Stage) (line : List ℕ) (labels : LabelSet) → run stages line labels ≡ cond (keeps stages line) (labels_after stages line labels) None
filters_first [] line labels = refl
filters_first (Filter filter ∷ stages) line labels = elim (passes filter line) as (λ b. option_and_then (run stages line) (cond b (Some labels) None) ≡ cond (b && keeps stages line) (labels_after stages line labels) None) [
  | true ↦ filters_first stages line labels
  | false ↦ refl
]
filters_first (Parser parser ∷ stages) line labels = following stages line (stage_run (Parser parser) line labels) (filters_first stages line)
filters_first (Tests tests ∷ stages) line labels = following stages line (stage_run (Tests tests) line labels) (filters_first stages line)

pub all_keep : (steps : List Step) (line : List ℕ) → keeps (map step_stage steps) line ≡ list_all (λ step. lets_pass (step_stage step) line) steps
all_keep steps line = list_all-map (λ stage. lets_pass stage line) step_stage steps

pub all_filters : (steps : List Step) → list_all is_filter (map step_stage steps) ≡ list_all (λ step. is_filter (step_stage step)) steps
all_filters steps = list_all-map is_filter step_stage steps

same_labels : (stages : List Stage) → list_all is_filter stages ≡ true → (line : List ℕ) (labels : LabelSet) → labels_after stages line labels ≡ Some labels
same_labels [] are line labels = refl
same_labels (Filter filter ∷ stages) are line labels = same_labels stages are line labels
same_labels (Parser parser ∷ stages) are line labels = absurd (true≢false (sym are))
same_labels (Tests tests ∷ stages) are line labels = absurd (true≢false (sym are))

-- where all stages are line filters, lines keep their labels
pub filters_plain : (stages : List Stage) → list_all is_filter stages ≡ true → IsPlain stages
filters_plain stages are line labels = filters_first stages line labels ∙ ap (λ l. cond (keeps stages line) l None) (same_labels stages are line labels)
