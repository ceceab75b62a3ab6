-- The line filters in front have let the line pass.
use Rattle.std.proofs.Common.{◌≡◌, IfOk, sym, subst}
use Rattle.rl_pipeline.proofs.running.send.Goals as goal

pub returns-clause-sent : goal.returns-clause-sent
returns-clause-sent c = subst (λ s. IfOk c.send_after.result (λ found. found ≡ s)) (sym (c.filters_in_front-position.ensures.left c.args.line.now.text c.args.line.now.labels)) c.send_after.ensures.sent
