-- The head, the parts in memory and those in a store are all entries.
use Rattle.std.proofs.Common.{◌≡◌, List, Ok, true, false, inl, inr, sym, ap, subst, ◌∙◌}
use Rattle.std.specs.Prelude.{IsTrue, ◌↔◌, MatchResult}
use Rattle.std.specs.List.{AllByRecursion, Contains, flat_map}
use Rattle.std.proofs.lemmas.List.Elements.{Contains-append_left, Contains-append_right, Contains-append_cases}
use Rattle.rl_labels.specs.LabelSet.{LabelSet}
use Rattle.rl_labels.specs.declared.entry.Entry.{Entry}
use Rattle.rl_parts.specs.StreamParts.{PartView, StreamView, entries_of}
use Rattle.rl_parts.specs.StoreUse.{IsKept, AreKept}
use Rattle.rl_parts.specs.Reading.{IsFoundIn, IsMissingIn, IsOutside, IsWithout, NoneReaches, entries_here, in_memory, in_store}
use Rattle.rl_parts.proofs.Finding.{yes, no, not_both, above_all, without_above, of_memory, of_rest, not_here, none_there}
use Rattle.rl_parts.specs.laws.AnswerLaws.{right_then, ok_then}
use Rattle.rl_parts.proofs.stream.Stream.holds.Goals as goal

pub returns-then-has_entry-clause-right : goal.returns-then-has_entry-clause-right
returns-then-has_entry-clause-right g c = λ kept honest.
    let there : Contains c.self.inside.head.items c.args.entry.now = subst (λ (es : List Entry). Contains es c.args.entry.now) c.deref.ensures.value (c.has_entry.ensures.0 c.if-has_entry.true) in
    subst (λ (s : StreamView). IsTrue true ↔ Contains (entries_of s) c.args.entry.now) c.self.view_is (yes (Contains-append_right (flat_map (λ part. part.entries) c.self.inside.parts.items) c.self.inside.head.items c.args.entry.now there))

pub returns-then-is_above-clause-here : goal.returns-then-is_above-clause-here
returns-then-is_above-clause-here g c = λ there.
    let entry = c.args.entry.now in
    let no_head : Contains c.self.inside.head.items entry → ⊥ = λ h. not_both (c.has_entry.ensures.1 (subst (λ (es : List Entry). Contains es entry) (sym c.deref.ensures.value) h)) c.if-has_entry.false in
    elim (Contains-append_cases (flat_map in_memory c.self.inside.parts.items) c.self.inside.head.items entry (subst (λ (s : StreamView). Contains (entries_here s) entry) (sym c.self.view_is) there)) [
      | inl memory ↦ absurd (above_all c.self.inside.sealed_to c.self.inside.parts.items entry c.self.invariant.up_to (c.is_above.ensures c.if-is_above.true) (of_memory c.self.inside.parts.items entry memory))
      | inr head ↦ absurd (no_head head)
    ]

pub returns-then-is_above-clause-right : goal.returns-then-is_above-clause-right
returns-then-is_above-clause-right g c = λ kept honest.
    let entry = c.args.entry.now in
    let no_head : Contains c.self.inside.head.items entry → ⊥ = λ h. not_both (c.has_entry.ensures.1 (subst (λ (es : List Entry). Contains es entry) (sym c.deref.ensures.value) h)) c.if-has_entry.false in
    subst (λ (s : StreamView). IsTrue false ↔ Contains (entries_of s) entry) c.self.view_is
    (no (λ there. elim (Contains-append_cases (flat_map (λ part. part.entries) c.self.inside.parts.items) c.self.inside.head.items entry there) [
      | inl here ↦ above_all c.self.inside.sealed_to c.self.inside.parts.items entry c.self.invariant.up_to (c.is_above.ensures c.if-is_above.true) here
      | inr head ↦ no_head head
    ]))

pub returns-then-any_here-clause-right : goal.returns-then-any_here-clause-right
returns-then-any_here-clause-right g c = λ kept honest.
    let entry = c.args.entry.now in
    let there : Contains (flat_map in_memory c.self.inside.parts.items) entry = subst (λ (ps : List PartView). Contains (flat_map in_memory ps) entry) c.deref-2.ensures.value (c.any_here.ensures.0 c.if-any_here.true) in
    subst (λ (s : StreamView). IsTrue true ↔ Contains (entries_of s) entry) c.self.view_is
    (yes (Contains-append_left (flat_map (λ part. part.entries) c.self.inside.parts.items) c.self.inside.head.items entry (of_memory c.self.inside.parts.items entry there)))

pub returns-clause-here : goal.returns-clause-here
returns-clause-here g c = λ there.
    let entry = c.args.entry.now in
    let no_head : Contains c.self.inside.head.items entry → ⊥ = λ h. not_both (c.has_entry.ensures.1 (subst (λ (es : List Entry). Contains es entry) (sym c.deref.ensures.value) h)) c.if-has_entry.false in
    let no_memory : Contains (flat_map in_memory c.self.inside.parts.items) entry → ⊥ = λ h. not_both (c.any_here.ensures.1 (subst (λ (ps : List PartView). Contains (flat_map in_memory ps) entry) (sym c.deref-2.ensures.value) h)) c.if-any_here.false in
    elim (Contains-append_cases (flat_map in_memory c.self.inside.parts.items) c.self.inside.head.items entry (subst (λ (s : StreamView). Contains (entries_here s) entry) (sym c.self.view_is) there)) [
      | inl memory ↦ absurd (no_memory memory)
      | inr head ↦ absurd (no_head head)
    ]

pub returns-clause-right : goal.returns-clause-right
returns-clause-right g c = λ kept honest.
    let entry = c.args.entry.now in
    let chunks = c.args.chunks.now in
    let parts = c.self.inside.parts.items in
    let head = c.self.inside.head.items in
    let no_head : Contains head entry → ⊥ = λ h. not_both (c.has_entry.ensures.1 (subst (λ (es : List Entry). Contains es entry) (sym c.deref.ensures.value) h)) c.if-has_entry.false in
    let no_memory : Contains (flat_map in_memory parts) entry → ⊥ = λ h. not_both (c.any_here.ensures.1 (subst (λ (ps : List PartView). Contains (flat_map in_memory ps) entry) (sym c.deref-2.ensures.value) h)) c.if-any_here.false in
    let are : AllByRecursion (IsKept chunks c.self.inside.labels) parts = subst (λ (s : StreamView). AreKept chunks s) (sym c.self.view_is) kept in
    let of : c.self.inside.labels ≡ entry.labels = ap (λ (s : StreamView). s.labels) c.self.view_is ∙ sym c.requires in
    let now : AllByRecursion (IsKept chunks entry.labels) c.deref-3.result.now = subst (λ (ps : List PartView). AllByRecursion (IsKept chunks entry.labels) ps) (sym c.deref-3.ensures.value) (subst (λ (set : LabelSet). AllByRecursion (IsKept chunks set) parts) of are) in
    right_then (λ found. IsTrue found ↔ Contains (flat_map in_store c.deref-3.result.now) entry) (λ found. IsTrue found ↔ Contains (entries_of c.args.self.now) entry)
    (λ found visited. subst (λ (s : StreamView). IsTrue found ↔ Contains (entries_of s) entry) c.self.view_is
    (of_rest parts head entry no_head no_memory found (subst (λ (ps : List PartView). IsTrue found ↔ Contains (flat_map in_store ps) entry) c.deref-3.ensures.value visited)))
    c.any_there.result (c.any_there.ensures.right now honest)

pub returns-then-has_entry-clause-yes : goal.returns-then-has_entry-clause-yes
returns-then-has_entry-clause-yes g c = λ found.
    let there : Contains c.self.inside.head.items c.args.entry.now = subst (λ (es : List Entry). Contains es c.args.entry.now) c.deref.ensures.value (c.has_entry.ensures.0 c.if-has_entry.true) in
    inl (subst (λ (s : StreamView). Contains (entries_here s) c.args.entry.now) c.self.view_is (Contains-append_right (flat_map in_memory c.self.inside.parts.items) c.self.inside.head.items c.args.entry.now there))

pub returns-then-is_above-clause-no : goal.returns-then-is_above-clause-no
returns-then-is_above-clause-no g c = λ found.
    let entry = c.args.entry.now in
    let top = c.self.inside.sealed_to in
    let parts = c.self.inside.parts.items in
    let newer = c.is_above.ensures c.if-is_above.true in
    let no_head : Contains c.self.inside.head.items entry → ⊥ = λ h. not_both (c.has_entry.ensures.1 (subst (λ (es : List Entry). Contains es entry) (sym c.deref.ensures.value) h)) c.if-has_entry.false in
    let no_memory : Contains (flat_map in_memory parts) entry → ⊥ = λ h. above_all top parts entry c.self.invariant.up_to newer (of_memory parts entry h) in
    subst (λ (s : StreamView). IsMissingIn entry s) c.self.view_is (not_here parts c.self.inside.head.items entry no_head no_memory, without_above top parts entry c.self.invariant.up_to newer)

pub returns-then-any_here-clause-yes : goal.returns-then-any_here-clause-yes
returns-then-any_here-clause-yes g c = λ found.
    let entry = c.args.entry.now in
    let there : Contains (flat_map in_memory c.self.inside.parts.items) entry = subst (λ (ps : List PartView). Contains (flat_map in_memory ps) entry) c.deref-2.ensures.value (c.any_here.ensures.0 c.if-any_here.true) in
    inl (subst (λ (s : StreamView). Contains (entries_here s) entry) c.self.view_is (Contains-append_left (flat_map in_memory c.self.inside.parts.items) c.self.inside.head.items entry there))

pub returns-clause-yes : goal.returns-clause-yes
returns-clause-yes g c =
    let parts : c.deref-3.result.now ≡ c.args.self.now.parts = c.deref-3.ensures.value ∙ ap (λ (s : StreamView). s.parts) c.self.view_is in
    ok_then _ (λ found. found ≡ true → IsFoundIn c.args.entry.now c.args.self.now)
    (λ found visited t. let at = visited t in inr (at.0, subst (λ (ps : List PartView). Contains ps at.0) parts at.1, at.2)) c.any_there.result c.any_there.ensures.yes

pub returns-clause-no : goal.returns-clause-no
returns-clause-no g c =
    let entry = c.args.entry.now in
    let no_head : Contains c.self.inside.head.items entry → ⊥ = λ h. not_both (c.has_entry.ensures.1 (subst (λ (es : List Entry). Contains es entry) (sym c.deref.ensures.value) h)) c.if-has_entry.false in
    let no_memory : Contains (flat_map in_memory c.self.inside.parts.items) entry → ⊥ = λ h. not_both (c.any_here.ensures.1 (subst (λ (ps : List PartView). Contains (flat_map in_memory ps) entry) (sym c.deref-2.ensures.value) h)) c.if-any_here.false in
    ok_then _ (λ found. found ≡ false → IsMissingIn entry c.args.self.now)
    (λ found visited f. subst (λ (s : StreamView). IsMissingIn entry s) c.self.view_is (
      not_here c.self.inside.parts.items c.self.inside.head.items entry no_head no_memory,
      subst (λ (ps : List PartView). AllByRecursion (IsWithout entry) ps) c.deref-3.ensures.value (visited f),
    )) c.any_there.result c.any_there.ensures.no

pub returns-then-has_entry-clause-exact : goal.returns-then-has_entry-clause-exact
returns-then-has_entry-clause-exact g c = λ apart.
    let there : Contains c.self.inside.head.items c.args.entry.now = subst (λ (es : List Entry). Contains es c.args.entry.now) c.deref.ensures.value (c.has_entry.ensures.0 c.if-has_entry.true) in
    subst (λ (s : StreamView). IsTrue true ↔ Contains (entries_of s) c.args.entry.now) c.self.view_is (yes (Contains-append_right (flat_map (λ part. part.entries) c.self.inside.parts.items) c.self.inside.head.items c.args.entry.now there))

pub returns-then-is_above-clause-exact : goal.returns-then-is_above-clause-exact
returns-then-is_above-clause-exact g c = λ apart.
    let entry = c.args.entry.now in
    let no_head : Contains c.self.inside.head.items entry → ⊥ = λ h. not_both (c.has_entry.ensures.1 (subst (λ (es : List Entry). Contains es entry) (sym c.deref.ensures.value) h)) c.if-has_entry.false in
    subst (λ (s : StreamView). IsTrue false ↔ Contains (entries_of s) entry) c.self.view_is
    (no (λ there. elim (Contains-append_cases (flat_map (λ part. part.entries) c.self.inside.parts.items) c.self.inside.head.items entry there) [
      | inl here ↦ above_all c.self.inside.sealed_to c.self.inside.parts.items entry c.self.invariant.up_to (c.is_above.ensures c.if-is_above.true) here
      | inr head ↦ no_head head
    ]))

pub returns-then-any_here-clause-exact : goal.returns-then-any_here-clause-exact
returns-then-any_here-clause-exact g c = λ apart.
    let entry = c.args.entry.now in
    let there : Contains (flat_map in_memory c.self.inside.parts.items) entry = subst (λ (ps : List PartView). Contains (flat_map in_memory ps) entry) c.deref-2.ensures.value (c.any_here.ensures.0 c.if-any_here.true) in
    subst (λ (s : StreamView). IsTrue true ↔ Contains (entries_of s) entry) c.self.view_is
    (yes (Contains-append_left (flat_map (λ part. part.entries) c.self.inside.parts.items) c.self.inside.head.items entry (of_memory c.self.inside.parts.items entry there)))

pub returns-clause-exact : goal.returns-clause-exact
returns-clause-exact g c = λ apart.
    let entry = c.args.entry.now in
    let ts = entry.timestamp in
    let parts = c.self.inside.parts.items in
    let no_head : Contains c.self.inside.head.items entry → ⊥ = λ h. not_both (c.has_entry.ensures.1 (subst (λ (es : List Entry). Contains es entry) (sym c.deref.ensures.value) h)) c.if-has_entry.false in
    let no_memory : Contains (flat_map in_memory c.self.inside.parts.items) entry → ⊥ = λ h. not_both (c.any_here.ensures.1 (subst (λ (ps : List PartView). Contains (flat_map in_memory ps) entry) (sym c.deref-2.ensures.value) h)) c.if-any_here.false in
    let out : AllByRecursion (IsOutside ts ts) parts = subst (λ (s : StreamView). NoneReaches ts ts s) (sym c.self.view_is) apart in
    let answer : c.any_there.result ≡ Ok false = c.any_there.ensures.exact (subst (λ (ps : List PartView). AllByRecursion (IsOutside ts ts) ps) (sym c.deref-3.ensures.value) out) in
    subst (λ r. MatchResult r (λ found. IsTrue found ↔ Contains (entries_of c.args.self.now) entry) (λ _. ⊥)) (sym answer)
    (subst (λ (s : StreamView). IsTrue false ↔ Contains (entries_of s) entry) c.self.view_is (of_rest parts c.self.inside.head.items entry no_head no_memory false (no (none_there parts entry out))))
