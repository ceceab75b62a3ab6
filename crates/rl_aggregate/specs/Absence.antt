-- What absent_over_time gives: where no line is, 1 with the labels that follow from the selector.
use Rattle.std.specs.Prelude.{◌==◌, Bool, true, false, not, ◌&&◌, List, [], ◌∷◌, ℕ, map, if◌then◌else◌}
use Rattle.std.specs.List.{filter, count_by}
use Rattle.std.specs.FinMap.{len}
use Rattle.rl_labels.specs.Name.{is_text}
use Rattle.rl_labels.specs.LabelSet.{LabelSet, is_empty, label_set_of}
use Rattle.rl_labels.specs.declared.matcher.Matcher.{Matcher}
use Rattle.rl_labels.specs.declared.matcher.MatchOp.{MatchOp}
use Rattle.rl_labels.specs.declared.matcher.MatchOp.TheVariants as operators
use Rattle.rl_aggregate.specs.TotalsMap.{TotalsMap}
use Rattle.rl_aggregate.specs.declared.outcome.Fraction.{Fraction}
use Rattle.rl_aggregate.specs.declared.outcome.Sample.{Sample}

abbrev pub is_equality : MatchOp → Bool
is_equality operators.Equal = true
is_equality _ = false

-- one matcher alone has the name
abbrev pub stands_once : List Matcher → (name : List ℕ) → Bool
stands_once matchers name = count_by (λ matcher. is_text matcher.name name) matchers == 1

-- a label follows from the matcher: it asks for a text that is not empty, and no other asks for that label
abbrev pub gives_label : List Matcher → Matcher → Bool
gives_label matchers matcher = is_equality matcher.op && (not (is_empty matcher.value) && stands_once matchers matcher.name)

-- the labels that follow from the matchers of a selector
abbrev pub absent_labels : List Matcher → LabelSet
absent_labels matchers = label_set_of (map (λ matcher. (matcher.name, matcher.value)) (filter (gives_label matchers) matchers))

abbrev pub one : Fraction
one = record { numerator = 1; denominator = 1 }

abbrev pub absent_sample : List Matcher → Sample
absent_sample matchers = record { labels = absent_labels matchers; value = one }

-- that sample where there are no totals, and none where there are some
abbrev pub absence : List Matcher → TotalsMap → List Sample
absence matchers totals = if len totals == 0 then absent_sample matchers ∷ [] else []
