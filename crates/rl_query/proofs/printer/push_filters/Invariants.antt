-- The line filters so far stand at the end, each after a space.
use Rattle.std.proofs.Common.{◌≡◌, ◌++◌, ◌∷◌, take, map, string_bytes}
use Rattle.std.specs.List.{flat_map}
use Rattle.rl_query.specs.Form.{filter_form}
use Rattle.rl_query.specs.Printing.{filter_print}
use Rattle.rl_query.proofs.printer.push_filters.Given as goal

abbrev pub invariant-loop-filter : goal.invariant-loop-filter
invariant-loop-filter l = string_bytes l.text ≡ string_bytes l.fn.text ++ flat_map (λ filter. 32 ∷ filter_print filter) (map filter_form (take l.filter-index l.filters))
