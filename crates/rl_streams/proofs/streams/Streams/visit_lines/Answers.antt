-- One stream is asked.
use Rattle.std.proofs.Common.{◌≡◌, [], ◌∷◌, ◌++◌, ◌+◌, true, refl, ap, subst, ◌∙◌}
use Rattle.std.specs.Prelude.{OnOk}
use Rattle.std.specs.List.{fold}
use Rattle.rl_parts.specs.StoreUse.{Right}
use Rattle.rl_parts.specs.laws.VisitorLaws.{fold-pushed}
use Rattle.rl_parts.specs.laws.UseLaws.{Reads-none}
use Rattle.rl_parts.specs.laws.AnswerLaws.{right_then, on_ok_then}
use Rattle.rl_streams.specs.Asking.{visited_of, visited_at}
use Rattle.rl_streams.specs.CursorState.{AreAsked}
use Rattle.rl_streams.specs.StreamRows.{by_stream}
use Rattle.rl_streams.specs.StreamsState.{StreamsView, order_of}
use Rattle.rl_streams.proofs.Asked.{asked_one}
use Rattle.rl_streams.proofs.Visited.{visited_here, kept_there}
use Rattle.rl_streams.proofs.Whole.{looked_whole}
use Rattle.rl_streams.proofs.streams.Streams.visit_lines.Goals as goal

pub invariant_of-self : goal.invariant_of-self
invariant_of-self g c =
    let s = c.self.inside in
    (looked_whole s.limits s.streams.entries s.streams.entries s.chunks c.each_selected.new.chunks s.count c.self.invariant.0 c.each_selected.ensures.reads refl, c.self.invariant.1)

pub returns-clause-right : goal.returns-clause-right
returns-clause-right g c =
    let s = c.self.inside in
    let rows = s.streams.entries in
    let stream = c.index.result.now in
    let selector = c.args.selector.now in
    let before = c.args.lines.now in
    let after = c.each_selected.new.visitor in
    subst (λ (view : StreamsView). view.seen.honest ≡ true → Right c.each_selected.result (λ _. after ≡ before ++ visited_at selector c.args.range.from c.args.range.to (order_of view) c.args.position)) c.self.view_is
    (λ honest. right_then (λ _. after ≡ fold (λ lines line. lines ++ line ∷ []) before (visited_of selector c.args.range.from c.args.range.to stream.labels stream)) (λ _. after ≡ before ++ visited_at selector c.args.range.from c.args.range.to (by_stream rows) c.args.position)
    (λ _ is. is ∙ fold-pushed before (visited_of selector c.args.range.from c.args.range.to stream.labels stream) ∙ ap (λ l. before ++ l) (visited_here selector c.args.range.from c.args.range.to rows c.args.position stream c.self.invariant.0.streams.own c.index.ensures)) c.each_selected.result
    (c.each_selected.ensures.right (kept_there selector c.args.range.from c.args.range.to rows c.args.position stream s.chunks s.chunks c.self.invariant.0.streams (Reads-none s.chunks) c.index.ensures) honest))

pub returns-clause-asked : goal.returns-clause-asked
returns-clause-asked g c =
    let s = c.self.inside in
    let before = c.args.lines.now in
    let after = c.each_selected.new.visitor in
    subst (λ (view : StreamsView). OnOk c.each_selected.result (AreAsked view.rows c.args.selector.now c.args.range.from c.args.range.to c.args.position before (c.args.position + 1) after)) c.self.view_is
    (on_ok_then (asked_one s.streams.entries c.args.selector.now c.args.range.from c.args.range.to c.args.position c.index.result.now before after c.self.invariant.0.streams.own c.index.ensures) c.each_selected.result c.each_selected.ensures.lines)
