-- The key is above the members so far.
use Rattle.rl_json.proofs.JsonData.{Above}
use Rattle.rl_json.proofs.members.span_of.Given as goal

abbrev pub invariant-loop-index : goal.invariant-loop-index
invariant-loop-index l = Above l.key l.found l.index
