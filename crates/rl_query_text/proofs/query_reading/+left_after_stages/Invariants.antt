-- Each turn leaves out the first stage.
use Rattle.std.proofs.Common.{length}
use Rattle.rl_query_text.proofs.query_reading.+left_after_stages.Given as goal

abbrev pub decreases-left_after_stages : goal.decreases-left_after_stages
decreases-left_after_stages l = length l.stages.now
