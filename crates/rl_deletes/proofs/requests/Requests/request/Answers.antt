-- The tree's look-up is that of the map.
use Rattle.std.proofs.Common.{ap, ◌∙◌}
use Rattle.std.specs.FinMap as map
use Rattle.rl_deletes.proofs.Received.{found_at}
use Rattle.rl_deletes.proofs.requests.Requests.request.Goals as goal

pub returns : goal.returns
returns c = c.get.ensures.value ∙ found_at c.self.inside.requests.entries c.args.id ∙ ap (λ all. map.get all.requests c.args.id) c.self.view_is
