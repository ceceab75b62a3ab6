-- Entries in memory are their lines, and what is kept of others is a note of their chunk.
use Rattle.std.proofs.Common.{◌≡◌, List, [], ◌∷◌, map, refl, sym, ap, subst, ◌∙◌}
use Rattle.std.specs.List.{All, fold}
use Rattle.rl_labels.specs.declared.entry.Entry.{Entry}
use Rattle.rl_chunks.specs.EntryLines.{line_of}
use Rattle.rl_parts.specs.StreamParts.{PartView}
use Rattle.rl_parts.specs.PartState.{part_at}
use Rattle.rl_parts.specs.StoreUse.{IsKept, Right}
use Rattle.rl_parts.specs.Reading.{IsVisited, lines_in_range, visited_in_range}
use Rattle.rl_parts.specs.declared.part.Location.TheVariants.{Here, InStore}
use Rattle.rl_parts.proofs.Visits.{lines_visited, one_piece}
use Rattle.rl_parts.specs.laws.AnswerLaws.{on_ok_then}
use Rattle.rl_parts.proofs.part.Part.visit_lines.Goals as goal

pub returns-in-InStore-clause-right : goal.returns-in-InStore-clause-right
returns-in-InStore-clause-right g c = λ kept honest.
    let here : part_at (InStore c.in-InStore.written) ≡ c.args.self.now = ap part_at (sym c.in-InStore.is) ∙ c.self.view_is in
    subst (λ (p : PartView). Right c.visit_written.result (λ _. c.visit_written.new.visitor ≡ fold g.T.Visitor.visiting c.args.visitor.now (visited_in_range c.args.range.from c.args.range.to p.entries))) here
    (c.visit_written.ensures.right (subst (IsKept c.args.chunks.now c.args.labels.now) (sym here) kept) honest)

pub returns-clause-visited : goal.returns-clause-visited
returns-clause-visited g c = λ apart.
    let here : part_at (Here c.in-Here.entries) ≡ c.args.self.now = ap part_at (sym c.in-Here.is) ∙ c.self.view_is in
    let entries : c.as_slice.result.now ≡ c.args.self.now.entries = c.as_slice.ensures ∙ ap (λ (p : PartView). p.entries) here in
    c.in_ok-visit_all-in-Here.ensures ∙ ap (fold g.T.Visitor.visiting c.args.visitor.now)
    (ap (λ (es : List Entry). lines_in_range c.args.labels.now c.args.range.from c.args.range.to (map line_of es)) entries ∙ lines_visited c.args.labels.now c.args.range.from c.args.range.to c.args.self.now.entries c.requires.run.labels)

pub returns-clause-right : goal.returns-clause-right
returns-clause-right g c = λ kept honest.
    let here : part_at (Here c.in-Here.entries) ≡ c.args.self.now = ap part_at (sym c.in-Here.is) ∙ c.self.view_is in
    let entries : c.as_slice.result.now ≡ c.args.self.now.entries = c.as_slice.ensures ∙ ap (λ (p : PartView). p.entries) here in
    c.in_ok-visit_all-in-Here.ensures ∙ ap (fold g.T.Visitor.visiting c.args.visitor.now)
    (ap (λ (es : List Entry). lines_in_range c.args.labels.now c.args.range.from c.args.range.to (map line_of es)) entries ∙ lines_visited c.args.labels.now c.args.range.from c.args.range.to c.args.self.now.entries c.requires.run.labels)

pub returns-in-InStore-clause-piece : goal.returns-in-InStore-clause-piece
returns-in-InStore-clause-piece g c =
    let here : part_at (InStore c.in-InStore.written) ≡ c.args.self.now = ap part_at (sym c.in-InStore.is) ∙ c.self.view_is in
    on_ok_then (λ visited. subst (λ (p : PartView). IsVisited g.T.Visitor.visiting c.args.labels.now c.args.range.from c.args.range.to (p ∷ []) c.args.visitor.now c.visit_written.new.visitor) here
    (one_piece g.T.Visitor.visiting c.args.labels.now c.args.range.from c.args.range.to (part_at (InStore c.in-InStore.written)) visited.0 c.args.visitor.now c.visit_written.new.visitor visited.1 visited.2)) c.visit_written.result c.visit_written.ensures.piece

pub returns-clause-piece : goal.returns-clause-piece
returns-clause-piece g c =
    let here : part_at (Here c.in-Here.entries) ≡ c.args.self.now = ap part_at (sym c.in-Here.is) ∙ c.self.view_is in
    let entries : c.as_slice.result.now ≡ c.in-Here.entries = c.as_slice.ensures in
    let labels : All (λ entry. entry.labels ≡ c.args.labels.now) c.in-Here.entries = subst (λ (p : PartView). All (λ entry. entry.labels ≡ c.args.labels.now) p.entries) (sym here) c.requires.run.labels in
    let visited : c.visit_all.new.visitor ≡ fold g.T.Visitor.visiting c.args.visitor.now (visited_in_range c.args.range.from c.args.range.to c.in-Here.entries) = c.in_ok-visit_all-in-Here.ensures
    ∙ ap (fold g.T.Visitor.visiting c.args.visitor.now) (ap (λ (es : List Entry). lines_in_range c.args.labels.now c.args.range.from c.args.range.to (map line_of es)) entries ∙ lines_visited c.args.labels.now c.args.range.from c.args.range.to c.in-Here.entries labels) in
    subst (λ (p : PartView). IsVisited g.T.Visitor.visiting c.args.labels.now c.args.range.from c.args.range.to (p ∷ []) c.args.visitor.now c.visit_all.new.visitor) here
    (one_piece g.T.Visitor.visiting c.args.labels.now c.args.range.from c.args.range.to (part_at (Here c.in-Here.entries)) (visited_in_range c.args.range.from c.args.range.to c.in-Here.entries) c.args.visitor.now c.visit_all.new.visitor refl visited)
