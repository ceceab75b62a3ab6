-- Each query within another takes a parenthesis.
use Rattle.std.proofs.Common.{◌+◌, ◌*◌}
use Rattle.rl_query_text.proofs.query_reading.+queries.Given as goal

abbrev pub decreases-inner_at : goal.decreases-inner_at
decreases-inner_at l = 4 * l.room.depth

abbrev pub decreases-operand_at : goal.decreases-operand_at
decreases-operand_at l = 4 * l.room.depth + 1

abbrev pub decreases-query_at : goal.decreases-query_at
decreases-query_at l = 4 * l.room.depth + 2
