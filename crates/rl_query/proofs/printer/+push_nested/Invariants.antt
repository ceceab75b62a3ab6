-- Fewer aggregations are left.
use Rattle.std.proofs.Common.{length}
use Rattle.rl_query.proofs.printer.+push_nested.Given as goal

abbrev pub decreases-push_nested : goal.decreases-push_nested
decreases-push_nested l = length l.aggregations.now
