-- What a line filter looks for in a line, once it is built.
use Rattle.std.specs.Prelude.{◌≡◌, true, false}
use Rattle.rl_query.specs.declared.filter.LineFilter.{LineFilter}
use Rattle.rl_pipeline.specs.Building.{is_by_pattern}
use Rattle.rl_pipeline.specs.declared.filter.Sought as filter
use Rattle.rl_pipeline.specs.declared.filter.Sought.TheVariants as sought
use Rattle.rl_pipeline.specs.declared.search.Looking as search
use Rattle.rl_pipeline.specs.declared.search.Looking.TheVariants as looking

-- what the filter looks for: its text, or its pattern
abbrev pub IsSoughtBy : LineFilter → filter.Sought → Type 0
IsSoughtBy filter (sought.Text needle) = (is_by_pattern filter ≡ false) × (needle ≡ filter.text)
IsSoughtBy filter (sought.Pattern pattern) = (is_by_pattern filter ≡ true) × (pattern ≡ filter.text)

-- what looks for that
abbrev pub LooksBy : LineFilter → search.Looking → Type 0
LooksBy filter (looking.Text finder) = (is_by_pattern filter ≡ false) × (finder.now ≡ filter.text)
LooksBy filter (looking.Pattern searching) = (is_by_pattern filter ≡ true) × (searching.value ≡ filter.text)
