-- The first of the shards decided the step.
use Rattle.std.proofs.Common.{Err, ap, subst}
use Rattle.rl_callers.specs.Callers.{AreAsked, CallerView}
use Rattle.rl_callers.proofs.Passes.{asked_partly}
use Rattle.rl_callers.proofs.caller.CallerEngine.ask_all.Goals as goal

pub returns-clause-answer : goal.returns-clause-answer
returns-clause-answer g c =
    let shards = c.self.inside.ruler.now.shards in (
      subst (λ old. AreAsked shards old c.args.step (Err c.partly_of.result) c.ask_all.new.pass) (ap (λ (caller : CallerView). caller.pass) c.self.view_is)
          (asked_partly shards c.args.step c.self.inside.pass c.ask_all.new.pass c.in-Err.fault c.partly_of.result c.partly_of.ensures c.in-Err.ensures.decided),
      ap (λ (caller : CallerView). caller.shards) c.self.view_is,
    )
