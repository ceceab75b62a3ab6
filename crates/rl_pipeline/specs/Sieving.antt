-- Which entries a sieve selects.
use Rattle.std.specs.Prelude.{ℕ, Bool, not, ◌&&◌, ◌||◌, List}
use Rattle.std.specs.List.{list_all, list_any}
use Rattle.rl_labels.specs.LabelSet.{LabelSet}
use Rattle.rl_labels.specs.Selects.{selects, are_by_text}
use Rattle.rl_labels.specs.declared.entry.Entry.{Entry}
use Rattle.rl_query.specs.declared.filter.LineFilter.{LineFilter}
use Rattle.rl_query.specs.declared.filter.Sieve.{Sieve}
use Rattle.rl_pipeline.specs.Building.{is_by_pattern}
use Rattle.rl_pipeline.specs.Filtering.{passes}

-- its selector selects the labels, and each line filter lets the line pass
abbrev pub selects_line : Sieve → LabelSet → List ℕ → Bool
selects_line sieve labels line = selects sieve.selector.matchers labels && list_all (λ filter. passes filter line) sieve.filters

-- the sieve selects the entry
abbrev pub sieve_selects : Sieve → Entry → Bool
sieve_selects sieve entry = selects_line sieve entry.labels entry.line

-- some line filter is by pattern
abbrev pub are_by_pattern : List LineFilter → Bool
are_by_pattern filters = list_any is_by_pattern filters

-- some matcher or line filter is by pattern
abbrev pub sieve_by_pattern : Sieve → Bool
sieve_by_pattern sieve = not (are_by_text sieve.selector.matchers) || are_by_pattern sieve.filters
