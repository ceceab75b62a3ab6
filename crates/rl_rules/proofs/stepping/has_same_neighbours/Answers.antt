-- At the end at most one sample is left.
use Rattle.std.proofs.Common.{◌-◌, sym, ◌∙◌, arith, drop, length-drop}
use Rattle.rl_rules.proofs.Recorded.{no_neighbours}
use Rattle.rl_rules.proofs.stepping.has_same_neighbours.Goals as goal

pub returns : goal.returns
returns c = sym (no_neighbours (drop (c.loop-index.index - 1) c.args.samples.now) (omega (arith, length-drop (c.loop-index.index - 1) c.args.samples.now))) ∙ c.loop-index.invariant
