-- The lines so far follow the others.
use Rattle.std.proofs.Common.{◌≡◌, ◌++◌, take}
use Rattle.std.specs.List.{flat_map}
use Rattle.rl_rule_tests.specs.Document.{repeated_lines}
use Rattle.rl_rule_tests.proofs.streams.push_repeats.Given as goal

abbrev pub invariant-loop-repeat : goal.invariant-loop-repeat
invariant-loop-repeat l = l.lines.items ≡ l.fn.lines.items ++ flat_map repeated_lines (take l.repeat-index l.repeats)
