-- The parts have notes by now, and all else is as it was.
use Rattle.std.proofs.Common.{◌≡◌, ◌++◌, List, length, sym, ap, subst, ◌∙◌, arith}
use Rattle.std.specs.List.{flat_map}
use Rattle.std.proofs.lemmas.List.{with_items_is}
use Rattle.rl_parts.specs.StreamParts.{PartView, entries_of}
use Rattle.rl_parts.specs.Changes.{AreNoted}
use Rattle.rl_parts.specs.StreamState.{IsInOrder}
use Rattle.rl_parts.specs.laws.NoteLaws.{entries-with_notes}
use Rattle.rl_parts.proofs.Writes.{in_order_noted}
use Rattle.rl_parts.proofs.stream.Stream.flush.Goals as goal

pub invariant_of-self : goal.invariant_of-self
invariant_of-self g c =
    let old = c.self.inside.parts.items in
    let new = c.write_parts.new.parts in
    let many : length new ≡ c.self.inside.parts.len = omega (arith, c.deref_mut.ensures.len, c.write_parts.auto.parts) in
    let noted : AreNoted old c.args.chunks.now.next new c.write_parts.new.chunks.next = subst (λ (ps : List PartView). AreNoted ps c.args.chunks.now.next new c.write_parts.new.chunks.next) c.deref_mut.ensures.value c.write_parts.ensures.noted in
    subst (λ (ps : List PartView). IsInOrder (record { labels = c.self.inside.labels; parts = ps; head = c.self.inside.head.items; newest = c.self.inside.newest }) c.self.inside.sealed_to) (sym (with_items_is c.self.inside.parts new many))
    (in_order_noted c.self.inside.labels old new c.self.inside.head.items c.self.inside.newest c.self.inside.sealed_to c.args.chunks.now.next c.write_parts.new.chunks.next noted c.self.invariant)

pub returns-clause-entries : goal.returns-clause-entries
returns-clause-entries g c =
    let old = c.self.inside.parts.items in
    let new = c.write_parts.new.parts in
    let many : length new ≡ c.self.inside.parts.len = omega (arith, c.deref_mut.ensures.len, c.write_parts.auto.parts) in
    let noted : AreNoted old c.args.chunks.now.next new c.write_parts.new.chunks.next = subst (λ (ps : List PartView). AreNoted ps c.args.chunks.now.next new c.write_parts.new.chunks.next) c.deref_mut.ensures.value c.write_parts.ensures.noted in
    let all = λ (ps : List PartView). flat_map (λ part. part.entries) ps in
    ap (λ es. es ++ c.self.inside.head.items) (ap all (with_items_is c.self.inside.parts new many ∙ noted.given) ∙ entries-with_notes old noted.notes) ∙ ap entries_of c.self.view_is
