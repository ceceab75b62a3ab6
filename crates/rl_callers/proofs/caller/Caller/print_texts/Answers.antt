-- A text more.
use Rattle.rl_callers.proofs.Texts.{some_more}
use Rattle.rl_callers.proofs.caller.Caller.print_texts.Goals as goal

pub loop-index-preserved : goal.loop-index-preserved
loop-index-preserved g c = some_more c.args.out.now c.loop-index.out c.text.new.self c.as_str.result.now c.loop-index.invariant c.text.ensures.prints
