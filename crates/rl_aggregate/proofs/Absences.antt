-- Labels that follow from one matcher after another, from the last to the first; and an absence that is found of a partial.
use Rattle.std.proofs.Common.{◌≡◌, nat_lt, ◌||◌, cond, true, false, List, [], ◌∷◌, ◌++◌, map, refl, ap, ◌∙◌}
use Rattle.std.specs.Prelude.{option_to_list}
use Rattle.std.specs.List.{filter}
use Rattle.rl_labels.specs.LabelSet.{LabelSet, no_labels, with_label, label_set_of}
use Rattle.rl_labels.specs.declared.matcher.Matcher.{Matcher}
use Rattle.rl_query.specs.declared.query.Query.{Query}
use Rattle.rl_aggregate.specs.Absence.{gives_label}
use Rattle.rl_aggregate.specs.Evaluated.{finished, over_vector, range_value, samples_by, tested_by, terms_of, IsAbsence, IsAbsent}
use Rattle.rl_aggregate.specs.Grouping.{aggregated_by}
use Rattle.rl_aggregate.specs.Partials.{partial}
use Rattle.rl_aggregate.specs.declared.outcome.Outcome.TheVariants as outcomes
use Rattle.rl_aggregate.specs.laws.Absences.{absent-runs}
use Rattle.rl_aggregate.specs.declared.partial.Partial.{Partial}
use Rattle.rl_aggregate.specs.declared.outcome.Outcome.{Outcome}

-- the labels with that of the matcher, if one follows from it
abbrev pub with_absent_label : List Matcher → LabelSet → Matcher → LabelSet
with_absent_label all labels matcher = cond (gives_label all matcher) (with_label labels matcher.name matcher.value) labels

-- the labels with those of the matchers, from the last to the first
abbrev pub absent_onto : List Matcher → List Matcher → LabelSet → LabelSet
absent_onto all [] labels = labels
absent_onto all (matcher ∷ matchers) labels = with_absent_label all (absent_onto all matchers labels) matcher

-- all of them, from no labels on
pub given-all : (all matchers : List Matcher) → absent_onto all matchers no_labels ≡ label_set_of (map (λ matcher. (matcher.name, matcher.value)) (filter (gives_label all) matchers))
given-all all [] = refl
given-all all (m ∷ ms) =
    elim (gives_label all m) as (λ b. cond b (with_label (absent_onto all ms no_labels) m.name m.value) (absent_onto all ms no_labels) ≡ label_set_of (map (λ matcher. (matcher.name, matcher.value)) (cond b (m ∷ filter (gives_label all) ms) (filter (gives_label all) ms)))) [
      | true ↦ ap (λ labels. with_label labels m.name m.value) (given-all all ms)
      | false ↦ given-all all ms
    ]

-- the last comes first
pub given-last : (all matchers : List Matcher) (last : Matcher) (labels : LabelSet) → absent_onto all (matchers ++ last ∷ []) labels ≡ absent_onto all matchers (with_absent_label all labels last)
given-last all [] last labels = refl
given-last all (m ∷ ms) last labels = ap (λ given. with_absent_label all given m) (given-last all ms last labels)

-- absent_over_time alone is its range aggregation
absence-value : (query : Query) (first : Partial) → IsAbsence query → finished query (first ∷ []) ≡ range_value query.left first
absence-value query first is =
    let alone : (nat_lt 0 first.errors || false) ≡ nat_lt 0 first.errors = elim (nat_lt 0 first.errors) as (λ b. (b || false) ≡ b) [ true ↦ refl | false ↦ refl ] in
    λ i. cond (alone i) outcomes.Failed (outcomes.Vector (tested_by (is.1.1.1 i) (over_vector (is.1.1.0 i) (aggregated_by (is.1.0 i) (samples_by query.left.function query.left first.totals)) [])))

-- so its outcome is the absence of the lines that its partial is of
pub absent-found : (query : Query) (partials : List Partial) (outcome : Outcome) → outcome ≡ finished query partials → IsAbsent query partials outcome
absent-found query partials outcome value = λ entries t is same.
    let terms : terms_of query ≡ query.left ∷ [] = ap (λ over. query.left ∷ option_to_list over) is.1.1.0 in
    value ∙ ap (finished query) (same ∙ ap (map (λ term. partial entries term t)) terms) ∙ absence-value query (partial entries query.left t) is ∙ absent-runs query.left entries t is.0
