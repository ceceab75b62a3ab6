-- The stream without its covered entries is in order.
use Rattle.std.proofs.Common.{◌≡◌, ◌≤◌, List, length, sym, ap, subst, ◌∙◌, arith}
use Rattle.std.specs.List.{All}
use Rattle.rl_labels.specs.declared.entry.Entry.{Entry}
use Rattle.rl_parts.specs.StreamParts.{PartView, StreamView, entries_of}
use Rattle.rl_parts.specs.StreamState.{IsInOrder}
use Rattle.rl_parts.specs.Rewriting.{AreRewritten, carried, planned, uncovered}
use Rattle.rl_parts.proofs.Leaving.{fewer_left, order_left, own_left}
use Rattle.rl_parts.proofs.stream.Stream.plan.Goals as goal

pub invariant_of-result : goal.invariant_of-result
invariant_of-result g c =
    let covers = g.C.Covers.covers c.args.covered.now in
    let self = c.self.inside in
    let changes = c.in_ok-changes.changes.of_parts.items in
    let head = c.in_ok-head.head.items in
    let view : c.of.result.value ≡ record { labels = self.labels; parts = self.parts.items; head = self.head.items; newest = self.newest } = c.of.ensures ∙ sym c.self.view_is in
    let rewritten = subst (λ (ps : List PartView). AreRewritten covers self.labels ps c.args.chunks.now (carried ps changes) c.in_ok-changes.changes.gone.items c.plan_parts.new.chunks) c.deref-2.ensures.value c.in_ok-changes.ensures.rewritten in
    let left : head ≡ uncovered covers self.head.items = c.in_ok-head.ensures ∙ ap (λ (es : List Entry). uncovered covers es) c.deref.ensures.value in (
      subst (λ (s : StreamView). IsInOrder (planned s changes head) self.sealed_to) (sym view)
          (order_left covers self.labels self.parts.items (carried self.parts.items changes) self.head.items head self.newest self.sealed_to c.self.invariant rewritten.sealed left (rewritten.up_to self.sealed_to c.self.invariant.up_to)),
      c.in_ok-room.ensures.items,
      omega (arith, ap (λ (s : StreamView). length s.parts) view, c.in_ok-room.ensures.capacity, c.len.ensures, self.parts.ok.0),
    )

pub returns-clause-own : goal.returns-clause-own
returns-clause-own g c =
    let covers = g.C.Covers.covers c.args.covered.now in
    let self = c.self.inside in
    let changes = c.in_ok-changes.changes.of_parts.items in
    let head = c.in_ok-head.head.items in
    let view : c.of.result.value ≡ record { labels = self.labels; parts = self.parts.items; head = self.head.items; newest = self.newest } = c.of.ensures ∙ sym c.self.view_is in
    let rewritten = subst (λ (ps : List PartView). AreRewritten covers self.labels ps c.args.chunks.now (carried ps changes) c.in_ok-changes.changes.gone.items c.plan_parts.new.chunks) c.deref-2.ensures.value c.in_ok-changes.ensures.rewritten in
    let left : head ≡ uncovered covers self.head.items = c.in_ok-head.ensures ∙ ap (λ (es : List Entry). uncovered covers es) c.deref.ensures.value in
    subst (λ (s : StreamView). All (λ entry. entry.labels ≡ s.labels) (entries_of (planned c.of.result.value changes head))) c.self.view_is
    (subst (λ (s : StreamView). All (λ entry. entry.labels ≡ self.labels) (entries_of (planned s changes head))) (sym view)
    (own_left covers self.labels self.parts.items (carried self.parts.items changes) self.head.items head self.newest self.sealed_to c.self.invariant rewritten.sealed left))

pub returns-clause-fewer : goal.returns-clause-fewer
returns-clause-fewer g c =
    let covers = g.C.Covers.covers c.args.covered.now in
    let self = c.self.inside in
    let changes = c.in_ok-changes.changes.of_parts.items in
    let head = c.in_ok-head.head.items in
    let view : c.of.result.value ≡ record { labels = self.labels; parts = self.parts.items; head = self.head.items; newest = self.newest } = c.of.ensures ∙ sym c.self.view_is in
    let rewritten = subst (λ (ps : List PartView). AreRewritten covers self.labels ps c.args.chunks.now (carried ps changes) c.in_ok-changes.changes.gone.items c.plan_parts.new.chunks) c.deref-2.ensures.value c.in_ok-changes.ensures.rewritten in
    let left : head ≡ uncovered covers self.head.items = c.in_ok-head.ensures ∙ ap (λ (es : List Entry). uncovered covers es) c.deref.ensures.value in
    subst (λ (s : StreamView). length (entries_of (planned c.of.result.value changes head)) ≤ length (entries_of s)) c.self.view_is
    (subst (λ (s : StreamView). length (entries_of (planned s changes head)) ≤ length (entries_of (record { labels = self.labels; parts = self.parts.items; head = self.head.items; newest = self.newest }))) (sym view)
    (fewer_left covers self.labels self.parts.items (carried self.parts.items changes) self.head.items head self.newest self.sealed_to c.self.invariant rewritten.sealed left rewritten.fewer))
