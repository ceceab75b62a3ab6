-- At first all is left.
use Rattle.std.proofs.Common.{◌≡◌, [], ◌∷◌, ◌++◌, true, sym, subst, ◌∙◌}
use Rattle.rl_streams.specs.Asking.{AreVisitedOnce, left}
use Rattle.rl_streams.specs.CursorState.{left_in}
use Rattle.rl_streams.specs.StreamsState.{StreamsView, order_of}
use Rattle.rl_streams.proofs.Visited.{left_once}
use Rattle.rl_streams.proofs.streams.Streams.cursor.Goals as goal

pub returns-clause-left : goal.returns-clause-left
returns-clause-left g c = λ honest.
    let selector = c.args.selector.now in
    let from = c.args.range.from in
    let to = c.args.range.to in
    let e = c.new.ensures in
    let none = e.lines ∙ c.new-lines.ensures in
    let same : left_in c.new.result ≡ left selector from to (order_of c.args.self.now) 0 [] = λ i. left (e.asks.0 i) (e.asks.1 i).from (e.asks.1 i).to (order_of (e.streams i)) (e.position i) (none i) in
    subst (AreVisitedOnce selector from to c.args.self.now.held (λ lines line. lines ++ line ∷ []) []) (sym same)
    (subst (λ (view : StreamsView). view.seen.honest ≡ true → AreVisitedOnce selector from to view.held (λ lines line. lines ++ line ∷ []) [] (left selector from to (order_of view) 0 [])) c.self.view_is
    (λ honest. left_once selector from to c.self.inside.streams.entries (c.self.invariant.0.streams.once honest)) honest)
