-- What is built under a number is the received request there.
use Rattle.std.proofs.Common.{ap, ◌∙◌}
use Rattle.rl_deletes.specs.Deletes.{received_at}
use Rattle.rl_deletes.proofs.Received.{built_at}
use Rattle.rl_deletes.proofs.requests.Requests.received.Goals as goal

pub returns : goal.returns
returns c =
    let inside = c.self.inside in
    c.get.ensures.value ∙ built_at inside.cancel inside.latest inside.requests.entries inside.active.entries c.self.invariant c.args.id ∙ ap (λ all. received_at all c.args.id) c.self.view_is
