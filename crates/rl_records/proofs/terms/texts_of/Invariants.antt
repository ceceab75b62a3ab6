use Rattle.std.proofs.Common.{◌≡◌, map, take}
use Rattle.rl_records.specs.Prints.{term_print}
use Rattle.rl_records.proofs.terms.texts_of.Given as goal

-- the texts so far
abbrev pub invariant-loop-term : goal.invariant-loop-term
invariant-loop-term l = l.texts.items ≡ map term_print (take l.term-index l.terms)
