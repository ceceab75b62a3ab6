-- Those that are built are those that are received, and none of them covers what is later than all end.
use Rattle.std.proofs.Common.{ℕ, not, ◌&&◌, sym, ap, ◌∙◌, arith}
use Rattle.std.specs.Prelude.{◌==◌}
use Rattle.std.specs.List.{list_any}
use Rattle.rl_deletes.specs.Deletes.{covered_line, covers_line, without_request}
use Rattle.rl_deletes.specs.declared.request.Request.{Request}
use Rattle.rl_deletes.proofs.Ends.{none_later_beside}
use Rattle.rl_deletes.proofs.Received.{any_beside}
use Rattle.rl_deletes.proofs.requests.Requests.covers_line_beside.Goals as goal

pub returns-then-self-get : goal.returns-then-self-get
returns-then-self-get c =
    let inside = c.self.inside in
    sym (none_later_beside c.args.labels.now c.args.timestamp c.args.line.now inside.cancel inside.latest inside.requests.entries inside.active.entries c.self.invariant (omega (arith, c.if-self-get.true, c.get.ensures.value)) c.args.id)
    ∙ ap (λ all. covered_line (without_request all c.args.id) c.args.labels.now c.args.timestamp c.args.line.now) c.self.view_is

pub loop-number-init : goal.loop-number-init
loop-number-init c =
    let inside = c.self.inside in
    let covers = λ (request : Request). covers_line request c.args.labels.now c.args.timestamp c.args.line.now in
    ap (list_any (λ (built : ℕ × Request). not (built.0 == c.args.id) && covers built.1)) (c.into_iter-number-iterator.ensures.into_iter_gives ∙ c.iter-number-items.ensures.rest)
    ∙ any_beside inside.cancel inside.latest inside.requests.entries inside.active.entries c.self.invariant c.iter-number-items.ensures.ordered covers c.args.id
    ∙ ap (λ all. covered_line (without_request all c.args.id) c.args.labels.now c.args.timestamp c.args.line.now) c.self.view_is
