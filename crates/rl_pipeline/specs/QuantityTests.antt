-- What a test by quantity answers of labels, and the labels that a line has after it.
use Rattle.std.specs.Prelude.{ℕ, pos, Bool, true, false, List, Option, Some, None, option_map, codes, if◌then◌else◌}
use Rattle.std.specs.Ordering.{is_eq, is_ne, is_lt, is_gt, is_le, is_ge, nat_cmp, int_cmp}
use Rattle.std.specs.declared.cmp.Ordering.{Ordering}
use Rattle.rl_labels.specs.Decimals.{billionths, decimal_of}
use Rattle.rl_labels.specs.LabelSet.{LabelSet, label}
use Rattle.rl_labels.specs.Quantities.{duration_value, duration_in_label, size_of, size_value, signed, signed_value}
use Rattle.rl_query.specs.declared.quantity_test.Comparison.{Comparison}
use Rattle.rl_query.specs.declared.quantity_test.Comparison.TheVariants.{Equal, NotEqual, Greater, GreaterOrEqual, Less, LessOrEqual}
use Rattle.rl_query.specs.declared.quantity_test.Quantity.{Quantity}
use Rattle.rl_query.specs.declared.quantity_test.Quantity.TheVariants.{Number, Duration, Size}
use Rattle.rl_query.specs.declared.quantity_test.QuantityTest.{QuantityTest}
use Rattle.rl_pipeline.specs.Extracting.{has, error_name, with_error}

-- how a label's value compares with a quantity, if it is one of that kind
abbrev pub compared : (value : List ℕ) → Quantity → Option Ordering
compared value (Number number) = option_map (λ found. int_cmp (signed_value found.is_negative (billionths found.quantity)) (pos (billionths number))) (signed (decimal_of 15) value)
compared value (Duration duration) = option_map (λ found. int_cmp (signed_value found.is_negative (duration_value found.quantity)) (pos (duration_value duration))) (duration_in_label value)
compared value (Size size) = option_map (λ found. nat_cmp (size_value found) (size_value size)) (size_of value)

-- the comparison holds of numbers that compare so
abbrev pub holds : Comparison → Ordering → Bool
holds Equal order = is_eq order
holds NotEqual order = is_ne order
holds Greater order = is_gt order
holds GreaterOrEqual order = is_ge order
holds Less order = is_lt order
holds LessOrEqual order = is_le order

-- the comparison decides, and what is no such quantity passes with an error
abbrev pub decided : Comparison → Option Ordering → LabelSet → Bool × LabelSet
decided comparison (Some order) labels = (holds comparison order, labels)
decided comparison None labels = (true, with_error labels (codes "LabelFilterErr"))

-- of the value of a label; a missing one does not pass
abbrev pub value_answer : QuantityTest → Option (List ℕ) → LabelSet → Bool × LabelSet
value_answer test None labels = (false, labels)
value_answer test (Some value) labels = decided test.comparison (compared value test.quantity) labels

-- where an error is set all pass
abbrev pub quantity_answer : QuantityTest → LabelSet → Bool × LabelSet
quantity_answer test labels = if has labels error_name then (true, labels) else value_answer test (label labels test.name) labels
