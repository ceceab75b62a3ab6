-- What is visited is the set in some order, where no entry is held twice.
use Rattle.std.proofs.Common.{◌≡◌, true, length, refl, sym, ap, subst, ◌∙◌}
use Rattle.std.specs.Prelude.{OnOk}
use Rattle.std.specs.List.{fold}
use Rattle.std.specs.Map.{keys_of}
use Rattle.std.proofs.lemmas.List.{length-map}
use Rattle.rl_parts.specs.StoreUse.{Right}
use Rattle.rl_parts.specs.laws.AnswerLaws.{right_then}
use Rattle.rl_streams.specs.Asking.{NoneSelected, AreVisited, AreVisitedOnce, visited_by}
use Rattle.rl_streams.specs.StreamsState.{StreamsView, view_of}
use Rattle.rl_streams.specs.HeldSet.{set_of}
use Rattle.rl_streams.specs.Selected.{SelectionView}
use Rattle.rl_streams.specs.StreamRows.{Row, joined, newest_in, newest_map}
use Rattle.rl_streams.proofs.Selecting.{all_positions, found_is, kept_there}
use Rattle.rl_streams.proofs.Visited.{visited_once, rows_not_selected}
use Rattle.rl_streams.proofs.Whole.{looked_whole}
use Rattle.rl_streams.proofs.streams.Streams.each.Goals as goal

pub invariant_of-self : goal.invariant_of-self
invariant_of-self g c = (c.self.invariant.0, c.select.ensures.kept)

pub each-requires-clause-positions : goal.each-requires-clause-positions
each-requires-clause-positions g c =
    let s = c.self.inside in
    let all = found_is (λ (one : SelectionView). one.asked) c.select.new.self c.in_ok-position.position c.at-selection.result.now (length s.streams.entries) c.at-selection.ensures c.in_ok-position.ensures.asked in
    all_positions (keys_of s.streams.entries) c.at-selection.result.now (kept_there (keys_of s.streams.entries) c.select.new.self c.in_ok-position.position c.at-selection.result.now c.select.ensures.kept c.at-selection.ensures) (all ∙ sym (length-map s.streams.entries (λ (row : Row). row.0)))

pub invariant_of-self-2 : goal.invariant_of-self-2
invariant_of-self-2 g c =
    let s = c.self.inside in
    (looked_whole s.limits s.streams.entries s.streams.entries s.chunks c.each.new.chunks s.count c.self.invariant.0 c.each.ensures.reads refl, c.select.ensures.kept)

pub returns-clause-unread : goal.returns-clause-unread
returns-clause-unread g c = λ none.
    let s = c.self.inside in
    let chosen = found_is (λ (one : SelectionView). one.selector) c.select.new.self c.in_ok-position.position c.at-selection.result.now c.args.selector.now c.at-selection.ensures c.in_ok-position.ensures.found in
    let same = c.each.ensures.unread (rows_not_selected c.at-selection.result.now.selector s.streams.entries (subst (λ matchers. NoneSelected matchers (newest_map (newest_in s.streams.entries))) (sym chosen) (subst (λ (view : StreamsView). NoneSelected c.args.selector.now view.newest) (sym c.self.view_is) none))) in
    ap (view_of s.limits s.streams.entries) same ∙ c.self.view_is

pub returns-clause-visited : goal.returns-clause-visited
returns-clause-visited g c =
    let chosen = found_is (λ (one : SelectionView). one.selector) c.select.new.self c.in_ok-position.position c.at-selection.result.now c.args.selector.now c.at-selection.ensures c.in_ok-position.ensures.found in
    subst (λ (view : StreamsView). OnOk c.each.result (AreVisited g.T.Visitor.visiting c.args.selector.now c.args.range.from c.args.range.to view.rows c.args.visitor.now c.each.new.visitor)) c.self.view_is
    (subst (λ matchers. OnOk c.each.result (AreVisited g.T.Visitor.visiting matchers c.args.range.from c.args.range.to c.self.inside.streams.entries c.args.visitor.now c.each.new.visitor)) chosen c.each.ensures.visited)

pub returns-clause-right : goal.returns-clause-right
returns-clause-right g c =
    let s = c.self.inside in
    let rows = s.streams.entries in
    let before = c.args.visitor.now in
    let after = c.each.new.visitor in
    let chosen = found_is (λ (one : SelectionView). one.selector) c.select.new.self c.in_ok-position.position c.at-selection.result.now c.args.selector.now c.at-selection.ensures c.in_ok-position.ensures.found in
    subst (λ (view : StreamsView). view.seen.honest ≡ true → Right c.each.result (λ _. AreVisitedOnce c.args.selector.now c.args.range.from c.args.range.to view.held g.T.Visitor.visiting before after)) c.self.view_is
    (subst (λ matchers. s.chunks.seen.honest ≡ true → Right c.each.result (λ _. AreVisitedOnce matchers c.args.range.from c.args.range.to (set_of (joined rows)) g.T.Visitor.visiting before after)) chosen
    (λ honest. right_then (λ _. after ≡ fold g.T.Visitor.visiting before (visited_by c.at-selection.result.now.selector c.args.range.from c.args.range.to rows)) (λ _. AreVisitedOnce c.at-selection.result.now.selector c.args.range.from c.args.range.to (set_of (joined rows)) g.T.Visitor.visiting before after)
    (λ _ is. visited_once g.T.Visitor.visiting c.at-selection.result.now.selector c.args.range.from c.args.range.to rows before after c.self.invariant.0.streams.own (c.self.invariant.0.streams.once honest) is) c.each.result (c.each.ensures.right c.self.invariant.0.streams honest)))
