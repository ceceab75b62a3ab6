-- What no line of today can show: an error in a line, computed at values that were worked out by hand.
use Rattle.std.specs.Prelude.{◌≡◌, Bool, true, false, cond, not, List, [], ◌∷◌, Some, None, codes}
use Rattle.std.specs.Option.{unwrap_or}
use Rattle.std.specs.FinMap.{from_entries}
use Rattle.std.specs.FinMap.Entries.{find}
use Rattle.std.proofs.Common.{ap}
use Rattle.rl_labels.specs.Name.{name_cmp}
use Rattle.rl_labels.specs.LabelSet.{Pair, is_empty, proper_set, labels_of-proper_set}
use Rattle.rl_aggregate.specs.InRange.{has_error, line_run}
use Rattle.rl_aggregate.specs.Partials.{partial_of}
use Rattle.rl_aggregate.specs.declared.run.Run.{Run}

-- {app="a"}, and {__error__="E",app="a"}
abbrev good_pairs : List Pair
good_pairs = (codes "app", codes "a") ∷ []

abbrev wrong_pairs : List Pair
wrong_pairs = (codes "__error__", codes "E") ∷ good_pairs

abbrev error_among : List Pair → Bool
error_among pairs = not (is_empty (unwrap_or (find name_cmp (codes "__error__") pairs) []))

no_error : has_error (proper_set good_pairs tt) ≡ false
no_error = ap error_among (labels_of-proper_set good_pairs tt)

error : has_error (proper_set wrong_pairs tt) ≡ true
error = ap error_among (labels_of-proper_set wrong_pairs tt)

-- a line of 5 bytes with an error is counted as one, and in no total
abbrev wrong : List Run
wrong = line_run (proper_set wrong_pairs tt) 5 ∷ []

counted_as_an_error : partial_of wrong ≡ record { errors = 1; totals = from_entries [] }
counted_as_an_error = λ i. partial_of (record { labels = cond (error i) None (Some (proper_set wrong_pairs tt)); volume = record { count = 1; bytes = 5 } } ∷ [])
