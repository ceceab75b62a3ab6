-- A window of each term's range so far.
use Rattle.std.proofs.Common.{◌≡◌, map, take}
use Rattle.rl_windows.specs.Filling.{nothing_in}
use Rattle.rl_windows.proofs.filling.Fillings.new.Given as goal

abbrev pub invariant-loop-index : goal.invariant-loop-index
invariant-loop-index l = l.each.items ≡ map (λ term. nothing_in l.moment l.most term.now) (take l.index l.terms)
