-- What a query gives at a moment.
use Rattle.std.specs.Prelude.{◌≡◌, ℕ, ◌==◌, nat_lt, Bool, List, [], ◌∷◌, length, map, Option, Some, None, option_to_list, if◌then◌else◌}
use Rattle.std.specs.List.{list_any}
use Rattle.std.specs.FinMap.{entries}
use Rattle.rl_labels.specs.LabelSet.{LabelSet}
use Rattle.rl_labels.specs.declared.entry.Entry.{Entry}
use Rattle.rl_labels.specs.declared.matcher.Matcher.{Matcher}
use Rattle.rl_query.specs.declared.aggregation.Threshold.{Threshold}
use Rattle.rl_query.specs.declared.query.Query.{Query}
use Rattle.rl_query.specs.declared.query.Term.{Term}
use Rattle.rl_query.specs.declared.query.RangeFunction.{RangeFunction}
use Rattle.rl_query.specs.declared.query.RangeFunction.TheVariants as functions
use Rattle.rl_aggregate.specs.Absence.{one, absence, absent_sample}
use Rattle.rl_aggregate.specs.Grouping.{aggregated_by}
use Rattle.rl_aggregate.specs.InRange.{in_range}
use Rattle.rl_aggregate.specs.Partials.{partial, volume_at}
use Rattle.rl_aggregate.specs.Ratios.{ratios, tested}
use Rattle.rl_aggregate.specs.TotalsMap.{TotalsMap}
use Rattle.rl_aggregate.specs.declared.volume.Volume.{Volume}
use Rattle.rl_aggregate.specs.declared.run.Run.{Run}
use Rattle.rl_aggregate.specs.declared.partial.Partial.{Partial}
use Rattle.rl_aggregate.specs.declared.outcome.Fraction.{Fraction}
use Rattle.rl_aggregate.specs.declared.outcome.Sample.{Sample}
use Rattle.rl_aggregate.specs.declared.outcome.Outcome.{Outcome}
use Rattle.rl_aggregate.specs.declared.outcome.Outcome.TheVariants as outcomes

-- what a range aggregation gives of a total over a range, never reduced
abbrev pub fraction : RangeFunction → (seconds : ℕ) → Volume → Fraction
fraction functions.CountOverTime seconds total = record { numerator = total.count; denominator = 1 }
fraction functions.Rate seconds total = record { numerator = total.count; denominator = seconds }
fraction functions.BytesOverTime seconds total = record { numerator = total.bytes; denominator = 1 }
fraction functions.BytesRate seconds total = record { numerator = total.bytes; denominator = seconds }
fraction functions.AbsentOverTime seconds total = one

abbrev pub sample : RangeFunction → (seconds : ℕ) → LabelSet × Volume → Sample
sample function seconds entry = record { labels = entry.0; value = fraction function seconds entry.1 }

-- a sample for each label set, in their order
abbrev pub samples : Term → TotalsMap → List Sample
samples term totals = map (sample term.function term.range.seconds) (entries totals)

-- the samples that a range aggregation gives of totals
abbrev pub samples_by : RangeFunction → Term → TotalsMap → List Sample
samples_by functions.AbsentOverTime term totals = absence term.range.selector.matchers totals
samples_by _ term totals = samples term totals

-- what a range aggregation gives of a partial: an error in any line fails it
abbrev pub range_value : Term → Partial → Outcome
range_value term partial = if nat_lt 0 partial.errors then outcomes.Failed else outcomes.Vector (samples_by term.function term partial.totals)

-- the vector of a term: its vector aggregations of what its range aggregation gives of totals
abbrev pub term_vector : Term → TotalsMap → List Sample
term_vector term totals = aggregated_by term.aggregations (samples_by term.function term totals)

-- that vector over the one of the divisor, if there is one
abbrev pub over_vector : Option Term → List Sample → List Partial → List Sample
over_vector (Some term) samples (partial ∷ partials) = ratios samples (term_vector term partial.totals)
over_vector _ samples partials = samples

-- what a threshold leaves of it, if there is one
abbrev pub tested_by : Option Threshold → List Sample → List Sample
tested_by None samples = samples
tested_by (Some test) samples = tested test samples

-- the vector of a query, with a partial for each of its terms
abbrev pub query_vector : Query → List Partial → List Sample
query_vector query [] = []
query_vector query (partial ∷ partials) = tested_by query.test (over_vector query.over (term_vector query.left partial.totals) partials)

-- a line of some term has an error
abbrev pub have_errors : List Partial → Bool
have_errors partials = list_any (λ partial. nat_lt 0 partial.errors) partials

-- absent_over_time of the lines of a range: an error in any line fails it; else it has its sample where there is no line, and none where there is one
abbrev pub absent_of : List Run → List Matcher → Outcome
absent_of runs matchers =
    if nat_lt 0 (volume_at runs None).count then outcomes.Failed
    else outcomes.Vector (if length runs == 0 then absent_sample matchers ∷ [] else [])

abbrev pub terms_of : Query → List Term
terms_of query = query.left ∷ option_to_list query.over

-- the outcome of a query with a partial for each of its terms: an error in any line fails the whole
abbrev pub finished : Query → List Partial → Outcome
finished query partials = if have_errors partials then outcomes.Failed else outcomes.Vector (query_vector query partials)

-- a query on entries: on what its terms give of them at the moment
abbrev pub evaluated : List Entry → Query → ℕ → Outcome
evaluated entries query t = finished query (map (λ term. partial entries term t) (terms_of query))

-- of whichever entries the partials are, the outcome is that of the query on them
abbrev pub IsEvaluated : Query → List Partial → Outcome → Type 0
IsEvaluated query partials outcome = (entries : List Entry) (t : ℕ) → partials ≡ map (λ term. partial entries term t) (terms_of query) → outcome ≡ evaluated entries query t

-- a query is absent_over_time alone
abbrev pub IsAbsence : Query → Type 0
IsAbsence query = (query.left.function ≡ functions.AbsentOverTime) × ((query.left.aggregations ≡ []) × ((query.over ≡ None) × (query.test ≡ None)))

-- of whichever entries the partials are, absent_over_time is that of the lines that they have in its range
abbrev pub IsAbsent : Query → List Partial → Outcome → Type 0
IsAbsent query partials outcome = (entries : List Entry) (t : ℕ) → IsAbsence query → partials ≡ map (λ term. partial entries term t) (terms_of query) → outcome ≡ absent_of (in_range entries query.left t) query.left.range.selector.matchers
