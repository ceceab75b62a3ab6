-- The stages of the terms so far.
use Rattle.std.proofs.Common.{◌≡◌, map, take}
use Rattle.rl_aggregate.proofs.range.pipelines_of.Given as goal

abbrev pub invariant-loop-term : goal.invariant-loop-term
invariant-loop-term l = l.pipelines.items ≡ map (λ term. term.now.range.stages) (take l.term-index l.terms)
