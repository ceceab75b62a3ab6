-- Each turn leaves out the first stage.
use Rattle.std.proofs.Common.{length}
use Rattle.rl_selector_text.proofs.stage.+after_stages.Given as goal

abbrev pub decreases-after_stages : goal.decreases-after_stages
decreases-after_stages l = length l.stages.now
