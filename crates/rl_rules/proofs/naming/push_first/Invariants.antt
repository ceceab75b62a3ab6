-- What is known is final, and so is what was put after the others.
use Rattle.rl_rules.specs.Naming.{Naming, AreFinal}
use Rattle.rl_rules.proofs.naming.push_first.Given as goal

abbrev pub invariant-loop-pair : goal.invariant-loop-pair
invariant-loop-pair l = (naming : Naming) → AreFinal naming l.known → AreFinal naming l.initial.fresh.items → AreFinal naming l.fresh.items
