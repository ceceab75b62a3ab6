-- Those that are built are those that are received, and none of them covers what is later than all end.
use Rattle.std.proofs.Common.{◌≡◌, length, sym, ap, ◌∙◌, arith}
use Rattle.std.specs.List.{list_any}
use Rattle.rl_deletes.specs.Deletes.{covered_line, covers_line}
use Rattle.rl_deletes.specs.declared.request.Request.{Request}
use Rattle.rl_deletes.proofs.Ends.{none_later}
use Rattle.rl_deletes.proofs.Received.{any_built, none_pass}
use Rattle.rl_deletes.proofs.requests.RequestsCovers.covers_line.Goals as goal
use Rattle.rl_deletes.proofs.requests.RequestsCovers.covers_line.Goals.{then-len-eq0-via-then-len-eq0, then-len-eq0-via-else-len-eq0+then-self-get}

pub loop-active-init : goal.loop-active-init
loop-active-init c =
    let inside = c.self.inside in
    ap (list_any (λ (request : Request). covers_line request c.args.labels.now c.args.timestamp c.args.line.now)) (c.into_iter-active-iterator.ensures.into_iter_gives ∙ c.values-active-items.ensures.rest)
    ∙ any_built inside.cancel inside.latest inside.requests.entries inside.active.entries c.self.invariant c.values-active-items.ensures.ordered (λ request. covers_line request c.args.labels.now c.args.timestamp c.args.line.now)
    ∙ ap (λ all. covered_line all c.args.labels.now c.args.timestamp c.args.line.now) c.self.view_is

pub returns-then-len-eq0 : goal.returns-then-len-eq0
returns-then-len-eq0 c =
    let inside = c.self.inside in
    let covers = λ (request : Request). covers_line request c.args.labels.now c.args.timestamp c.args.line.now in
    elim c.then-len-eq0.branch [
      | then-len-eq0-via-then-len-eq0 w ↦
          let none : length inside.active.entries ≡ 0 = omega (arith, c.len.ensures.len, w.if-len-eq0.true) in
          sym (none_pass covers inside.active.entries none) ∙ any_built inside.cancel inside.latest inside.requests.entries inside.active.entries c.self.invariant c.len.ensures.ordered covers
      | then-len-eq0-via-else-len-eq0+then-self-get w ↦
          sym (none_later c.args.labels.now c.args.timestamp c.args.line.now inside.cancel inside.latest inside.requests.entries inside.active.entries c.self.invariant (omega (arith, w.if-self-get.true, w.get.ensures.value)))
    ]
    ∙ ap (λ all. covered_line all c.args.labels.now c.args.timestamp c.args.line.now) c.self.view_is
