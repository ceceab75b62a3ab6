-- The events so far, and those of the spans that are left.
use Rattle.std.proofs.Common.{◌≡◌, ◌++◌, drop}
use Rattle.std.specs.List.{flat_map}
use Rattle.rl_rule_tests.specs.Happening.{moments_of, steps_of}
use Rattle.rl_rule_tests.proofs.events.push_spans.Given as goal

abbrev pub invariant-loop-span : goal.invariant-loop-span
invariant-loop-span l = l.events.items ++ flat_map (λ span. moments_of l.number (steps_of l.name span)) (drop l.span-index l.spans) ≡ l.fn.events.items ++ flat_map (λ span. moments_of l.number (steps_of l.name span)) l.spans
