-- Which stages are by pattern, and why stages are not built.
use Rattle.std.specs.Prelude.{◌≡◌, Bool, true, false, List}
use Rattle.std.specs.List.{list_any}
use Rattle.rl_plain.specs.declared.refusal.OrMemory.{OrMemory}
use Rattle.rl_plain.specs.declared.refusal.OrMemory.TheVariants.{Fault, Memory}
use Rattle.rl_patterns.specs.declared.pattern.PatternFault.{PatternFault}
use Rattle.rl_patterns.specs.declared.pattern.PatternFault.TheVariants.{BadRegex, TooBig}
use Rattle.rl_query.specs.Limits.{is_line_pattern}
use Rattle.rl_query.specs.declared.filter.LineFilter.{LineFilter}
use Rattle.rl_query.specs.declared.stages.Stage.{Stage}
use Rattle.rl_query.specs.declared.stages.Stage.TheVariants.{Filter, Parser, Tests}
use Rattle.rl_pipeline.specs.LabelTests.{are_by_pattern}

-- the filter is by pattern
abbrev pub is_by_pattern : LineFilter → Bool
is_by_pattern filter = is_line_pattern filter.op

-- the stage is by pattern
abbrev pub has_pattern : Stage → Bool
has_pattern (Filter filter) = is_by_pattern filter
has_pattern (Parser parser) = false
has_pattern (Tests tests) = are_by_pattern tests

-- some stage is by pattern
abbrev pub have_pattern : List Stage → Bool
have_pattern stages = list_any has_pattern stages

-- Why stages are not built: for memory, and where one is by pattern also with BadRegex, for its program's size. Each pattern is one.
abbrev pub IsUnbuilt : (by_pattern : Bool) → OrMemory PatternFault → Type 0
IsUnbuilt by_pattern Memory = Unit {0}
IsUnbuilt by_pattern (Fault BadRegex) = by_pattern ≡ true
IsUnbuilt by_pattern (Fault TooBig) = ⊥
