-- At the end at most one pair is left.
use Rattle.std.proofs.Common.{◌-◌, sym, ◌∙◌, arith, drop, length-drop}
use Rattle.rl_labels.proofs.Steps.{rises_short}
use Rattle.rl_labels.proofs.labels.names_rise.Goals as goal

pub returns : goal.returns
returns c = sym (rises_short (drop (c.loop-index.index - 1) c.args.pairs.now) (omega (arith, length-drop (c.loop-index.index - 1) c.args.pairs.now))) ∙ c.loop-index.invariant
