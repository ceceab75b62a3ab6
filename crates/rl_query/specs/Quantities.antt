-- Quantities of queries: read from the texts of their tokens, and printed.
use Rattle.std.specs.Prelude.{ℕ, Bool, false, List, Option, option_map, if◌then◌else◌}
use Rattle.std.specs.List.{list_any}
use Rattle.std.specs.Option.{option_or}
use Rattle.rl_labels.specs.Decimals.{decimal_of}
use Rattle.rl_labels.specs.Quantities.{is_byte_of, duration_of, size_of}
use Rattle.rl_labels.specs.QuantityTexts.{decimal_text, duration_text, size_text, is_decimal, is_duration, is_size}
use Rattle.rl_query.specs.declared.quantity_test.Quantity.{Quantity}
use Rattle.rl_query.specs.declared.quantity_test.Quantity.TheVariants as quantities

-- some byte is neither a digit nor a point
abbrev pub has_unit : List ℕ → Bool
has_unit text = list_any (is_byte_of false) text

-- without a unit a number, with one a duration or else a size
abbrev pub quantity_of : List ℕ → Option Quantity
quantity_of text = if has_unit text then option_or (option_map quantities.Duration (duration_of text)) (option_map quantities.Size (size_of text)) else option_map quantities.Number (decimal_of 15 text)

-- as it was written, with canonical units
abbrev pub quantity_text : Quantity → List ℕ
quantity_text (quantities.Number number) = decimal_text number
quantity_text (quantities.Duration parts) = duration_text parts
quantity_text (quantities.Size size) = size_text size

-- its decimals keep to their limits, and a duration to its number of parts
abbrev pub is_quantity : Quantity → Bool
is_quantity (quantities.Number number) = is_decimal number
is_quantity (quantities.Duration parts) = is_duration parts
is_quantity (quantities.Size size) = is_size size
