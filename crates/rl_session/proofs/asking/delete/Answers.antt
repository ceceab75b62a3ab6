-- The step asked for is to receive the request with the sieve.
use Rattle.std.proofs.Common.{subst}
use Rattle.rl_records.specs.declared.step.ShardStep.TheVariants as shard_steps
use Rattle.rl_session.proofs.asking.delete.Goals as goal

pub returns-in-Ok : goal.returns-in-Ok
returns-in-Ok g c =
    let calls = g.E.Engine.calls in
    (c.in-Ok.selector, c.in-Ok.ensures, subst (λ deletion. calls.asks_all c.args.engine.now (shard_steps.Delete deletion) c.ask_all.result c.ask_all.new.self) c.with_selector.ensures c.ask_all.ensures.answer)
