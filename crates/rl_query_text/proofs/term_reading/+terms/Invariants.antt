-- Each term within another takes a parenthesis.
use Rattle.std.proofs.Common.{◌+◌, ◌*◌}
use Rattle.rl_query_text.proofs.term_reading.+terms.Given as goal

abbrev pub decreases-aggregated_at : goal.decreases-aggregated_at
decreases-aggregated_at l = 4 * l.room.depth

abbrev pub decreases-enclosed_at : goal.decreases-enclosed_at
decreases-enclosed_at l = 4 * l.room.depth

abbrev pub decreases-worded_at : goal.decreases-worded_at
decreases-worded_at l = 4 * l.room.depth + 1

abbrev pub decreases-term_in : goal.decreases-term_in
decreases-term_in l = 4 * l.room.depth + 2
