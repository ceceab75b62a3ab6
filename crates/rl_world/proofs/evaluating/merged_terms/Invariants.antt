-- The merges of the terms so far, and those of the terms that are left.
use Rattle.std.proofs.Common.{◌≡◌, ◌++◌, ◌-◌, flat_map, option_to_list}
use Rattle.rl_world.specs.Kept.{merged_terms}
use Rattle.rl_world.proofs.evaluating.merged_terms.Given as goal

abbrev pub invariant-loop-term : goal.invariant-loop-term
invariant-loop-term l = l.partials.items ++ merged_terms l.term (l.terms - l.term) (flat_map option_to_list l.answers) ≡ merged_terms 0 l.terms (flat_map option_to_list l.answers)
