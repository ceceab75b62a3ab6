-- The part has the next number by now.
use Rattle.std.proofs.Common.{◌≡◌, [], ◌∷◌, List, Some, sym, ap, subst, ◌∙◌}
use Rattle.rl_labels.specs.declared.entry.Entry.{Entry}
use Rattle.rl_parts.specs.StreamParts.{unwritten}
use Rattle.rl_parts.specs.PartState.{part_at}
use Rattle.rl_parts.specs.Changes.{AreNoted}
use Rattle.rl_parts.proofs.Writes.{one_noted}
use Rattle.rl_parts.proofs.part.Part.write.Goals as goal

pub returns-clause-noted : goal.returns-clause-noted
returns-clause-noted g c =
    let written = c.in_ok-written-in-Here.written in
    let is = c.in_ok-written-in-Here.ensures.written in
    let here : unwritten c.in-Here.entries ≡ c.args.self.now = ap part_at (sym c.in-Here.is) ∙ c.self.view_is in
    subst (λ (es : List Entry). AreNoted (c.args.self.now ∷ []) c.args.chunks.now.next (record { entries = es; note = Some (record { number = written.number; digest = written.digest }) } ∷ []) c.write_entries.new.chunks.next) (sym is.entries_are)
    (one_noted c.args.self.now c.in-Here.entries c.args.chunks.now.next c.write_entries.new.chunks.next (record { number = written.number; digest = written.digest }) here is.number_is c.in_ok-written-in-Here.ensures.next)
