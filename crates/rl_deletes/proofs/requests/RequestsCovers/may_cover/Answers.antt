-- Those that are built are those that are received, and one that cannot cover the entry does not.
use Rattle.std.proofs.Common.{ap, ◌∙◌}
use Rattle.std.specs.List.{list_any}
use Rattle.rl_deletes.specs.Deletes.{covered, covers_one}
use Rattle.rl_deletes.specs.declared.request.Request.{Request}
use Rattle.rl_deletes.proofs.Received.{any_built}
use Rattle.rl_deletes.proofs.requests.RequestsCovers.may_cover.Goals as goal

pub loop-active-init : goal.loop-active-init
loop-active-init c = λ entry of from to.
    let inside = c.self.inside in
    ap (list_any (λ (request : Request). covers_one request entry)) (c.into_iter-active-iterator.ensures.into_iter_gives ∙ c.values-active-items.ensures.rest)
    ∙ any_built inside.cancel inside.latest inside.requests.entries inside.active.entries c.self.invariant c.values-active-items.ensures.ordered (λ request. covers_one request entry)
    ∙ ap (λ all. covered all entry) c.self.view_is
