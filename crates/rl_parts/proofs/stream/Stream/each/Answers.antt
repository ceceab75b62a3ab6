-- The parts, and then the head.
use Rattle.std.proofs.Common.{◌≡◌, List, map, sym, ap, subst, ◌∙◌}
use Rattle.std.specs.List.{AllByRecursion, flat_map, fold}
use Rattle.std.proofs.lemmas.Result.{err_from_is_err_and}
use Rattle.rl_labels.specs.declared.entry.Entry.{Entry}
use Rattle.rl_chunks.specs.EntryLines.{line_of}
use Rattle.rl_parts.specs.StreamParts.{PartView, StreamView, entries_of}
use Rattle.rl_parts.specs.StoreUse.{IsKept, AreKept}
use Rattle.rl_parts.specs.Reading.{IsOutside, IsVisited, NoneReaches, lines_in_range, visited_in_range}
use Rattle.rl_parts.proofs.Visits.{both_visited, lines_visited}
use Rattle.rl_parts.specs.laws.AnswerLaws.{right_on}
use Rattle.rl_parts.proofs.stream.Stream.each.Goals as goal

pub returns-in_err-visit_parts-clause-right : goal.returns-in_err-visit_parts-clause-right
returns-in_err-visit_parts-clause-right g c = λ kept honest.
    let p = err_from_is_err_and c.from_residual.result c.from_residual.ensures.1 in
    let chunks = c.args.chunks.now in
    let are : AllByRecursion (IsKept chunks c.self.inside.labels) c.self.inside.parts.items = subst (λ (s : StreamView). AreKept chunks s) (sym c.self.view_is) kept in
    let now : AllByRecursion (IsKept chunks c.self.inside.labels) c.deref.result.now = subst (λ (ps : List PartView). AllByRecursion (IsKept chunks c.self.inside.labels) ps) (sym c.deref.ensures.value) are in
    rw (p.1, p.2) (right_on c.in_err-visit_parts.field-0.0 _ _ (c.in_err-visit_parts.ensures.right now honest))

pub returns-clause-visited : goal.returns-clause-visited
returns-clause-visited g c = λ apart.
    let from = c.args.range.from in
    let to = c.args.range.to in
    let start = c.args.visitor.now in
    let mid = c.visit_parts.new.visitor in
    let out : AllByRecursion (IsOutside from to) c.self.inside.parts.items = subst (λ (s : StreamView). NoneReaches from to s) (sym c.self.view_is) apart in
    let now : AllByRecursion (IsOutside from to) c.deref.result.now = subst (λ (ps : List PartView). AllByRecursion (IsOutside from to) ps) (sym c.deref.ensures.value) out in
    let first : mid ≡ fold g.T.Visitor.visiting start (visited_in_range from to (flat_map (λ part. part.entries) c.self.inside.parts.items)) =
    c.in_ok-visit_parts.ensures.visited now ∙ ap (λ (ps : List PartView). fold g.T.Visitor.visiting start (visited_in_range from to (flat_map (λ part. part.entries) ps))) c.deref.ensures.value in
    let second : c.visit_all.new.visitor ≡ fold g.T.Visitor.visiting mid (lines_in_range c.self.inside.labels from to (map line_of c.self.inside.head.items)) =
    c.in_ok-visit_all.ensures ∙ ap (λ (es : List Entry). fold g.T.Visitor.visiting mid (lines_in_range c.self.inside.labels from to (map line_of es))) c.deref-2.ensures.value in
    both_visited g.T.Visitor.visiting c.self.inside.labels from to c.self.inside.parts.items c.self.inside.head.items start mid c.visit_all.new.visitor c.self.invariant.parts.growing.labels first second
    ∙ ap (λ (s : StreamView). fold g.T.Visitor.visiting start (visited_in_range from to (entries_of s))) c.self.view_is

pub returns-clause-right : goal.returns-clause-right
returns-clause-right g c = λ kept honest.
    let from = c.args.range.from in
    let to = c.args.range.to in
    let chunks = c.args.chunks.now in
    let start = c.args.visitor.now in
    let mid = c.visit_parts.new.visitor in
    let are : AllByRecursion (IsKept chunks c.self.inside.labels) c.self.inside.parts.items = subst (λ (s : StreamView). AreKept chunks s) (sym c.self.view_is) kept in
    let now : AllByRecursion (IsKept chunks c.self.inside.labels) c.deref.result.now = subst (λ (ps : List PartView). AllByRecursion (IsKept chunks c.self.inside.labels) ps) (sym c.deref.ensures.value) are in
    let first : mid ≡ fold g.T.Visitor.visiting start (visited_in_range from to (flat_map (λ part. part.entries) c.self.inside.parts.items)) =
    c.in_ok-visit_parts.ensures.right now honest ∙ ap (λ (ps : List PartView). fold g.T.Visitor.visiting start (visited_in_range from to (flat_map (λ part. part.entries) ps))) c.deref.ensures.value in
    let second : c.visit_all.new.visitor ≡ fold g.T.Visitor.visiting mid (lines_in_range c.self.inside.labels from to (map line_of c.self.inside.head.items)) =
    c.in_ok-visit_all.ensures ∙ ap (λ (es : List Entry). fold g.T.Visitor.visiting mid (lines_in_range c.self.inside.labels from to (map line_of es))) c.deref-2.ensures.value in
    both_visited g.T.Visitor.visiting c.self.inside.labels from to c.self.inside.parts.items c.self.inside.head.items start mid c.visit_all.new.visitor c.self.invariant.parts.growing.labels first second
    ∙ ap (λ (s : StreamView). fold g.T.Visitor.visiting start (visited_in_range from to (entries_of s))) c.self.view_is

pub returns-clause-pieces : goal.returns-clause-pieces
returns-clause-pieces g c =
    let from = c.args.range.from in
    let to = c.args.range.to in
    let start = c.args.visitor.now in
    let mid = c.visit_parts.new.visitor in
    let now = c.visit_all.new.visitor in
    let labels = c.self.inside.labels in
    let head = c.self.inside.head.items in
    let given : IsVisited g.T.Visitor.visiting labels from to c.self.inside.parts.items start mid = subst (λ (ps : List PartView). IsVisited g.T.Visitor.visiting labels from to ps start mid) c.deref.ensures.value c.in_ok-visit_parts.ensures.pieces in
    let visited : now ≡ fold g.T.Visitor.visiting mid (visited_in_range from to head) = c.in_ok-visit_all.ensures ∙ ap (fold g.T.Visitor.visiting mid) (ap (λ (es : List Entry). lines_in_range labels from to (map line_of es)) c.deref-2.ensures.value ∙ lines_visited labels from to head c.self.invariant.parts.growing.labels) in
    (mid, subst (λ (s : StreamView). IsVisited g.T.Visitor.visiting s.labels from to s.parts start mid) c.self.view_is given, visited ∙ ap (λ (s : StreamView). fold g.T.Visitor.visiting mid (visited_in_range from to s.head)) c.self.view_is)
