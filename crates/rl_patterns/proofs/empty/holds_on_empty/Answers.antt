use Rattle.std.proofs.Common.{rules, arith}
use Rattle.regex_hir.specs.Looks.{holds_between}
use Rattle.rl_patterns.proofs.Emptiness.{holds_empty}
use Rattle.rl_patterns.proofs.empty.holds_on_empty.Goals as goal

pub returns-in-Start : goal.returns-in-Start
unfolding holds_between
returns-in-Start c = rw holds_empty (search rules)

pub returns-in-WordAscii : goal.returns-in-WordAscii
unfolding holds_between
returns-in-WordAscii c = rw holds_empty (grind arith)
