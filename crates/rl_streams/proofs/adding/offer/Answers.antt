-- The search says whether the entry is held.
use Rattle.std.proofs.Common.{◌≡◌, Bool, true, false, Result, Ok, Err, ◌↔◌, IsTrue, Contains, not, refl, sym, ap, subst, ◌∙◌, inl, inr}
use Rattle.std.specs.List.{flat_map}
use Rattle.std.proofs.lemmas.Result.{err_from_is_err_and}
use Rattle.rl_labels.specs.declared.entry.Entry.{Entry}
use Rattle.rl_parts.specs.StreamParts.{entries_of}
use Rattle.rl_parts.specs.Reading.{NoneReaches, IsFoundIn, entries_here, in_memory}
use Rattle.rl_parts.specs.declared.fault.ReadFault.{ReadFault}
use Rattle.rl_streams.proofs.Held.{answer_is}
use Rattle.rl_streams.specs.StreamRows.{is_among}
use Rattle.rl_streams.proofs.Offered.{search_failed, not_in_head, unread_by}
use Rattle.rl_streams.proofs.adding.offer.Goals as goal

pub returns-in_err-holds-clause-right : goal.returns-in_err-holds-clause-right
returns-in_err-holds-clause-right g c = λ kept honest.
    let p = err_from_is_err_and c.from_residual.result c.from_residual.ensures.1 in
    rw (p.1, p.2) (search_failed _ c.in_err-holds.field-0.0 _ (c.in_err-holds.ensures.right kept honest))

pub returns-then-branch-clause-right : goal.returns-then-branch-clause-right
returns-then-branch-clause-right g c = λ kept honest.
    let entries = entries_of c.args.stream.now in
    ap not (sym c.if-branch.true ∙ answer_is c.args.entry c.in_ok-holds.field-0 entries (subst (λ (e : Entry). IsTrue c.in_ok-holds.field-0 ↔ Contains entries e) c.get.ensures (c.in_ok-holds.ensures.right kept honest)))

pub returns-then-room-clause-right : goal.returns-then-room-clause-right
returns-then-room-clause-right g c = λ kept honest.
    let entries = entries_of c.args.stream.now in
    sym (answer_is c.args.entry c.in_ok-holds.field-0 entries (subst (λ (e : Entry). IsTrue c.in_ok-holds.field-0 ↔ Contains entries e) c.get.ensures (c.in_ok-holds.ensures.right kept honest))) ∙ c.if-branch.false

pub returns-clause-right : goal.returns-clause-right
returns-clause-right g c = λ kept honest.
    let entries = entries_of c.args.stream.now in
    ap not (sym c.if-branch.false ∙ answer_is c.args.entry c.in_ok-holds.field-0 entries (subst (λ (e : Entry). IsTrue c.in_ok-holds.field-0 ↔ Contains entries e) c.get.ensures (c.in_ok-holds.ensures.right kept honest)))

pub hold-requires-clause-new : goal.hold-requires-clause-new
hold-requires-clause-new g c =
    let stream = c.args.stream.now in
    let here = subst (λ (e : Entry). Contains (entries_here stream) e → (◌≡◌ {A = Result Bool ReadFault} (Ok c.in_ok-holds.field-0) (Ok true)) × (c.holds.new.chunks ≡ c.args.chunks.now)) c.get.ensures c.in_ok-holds.ensures.here in
    not_in_head (flat_map in_memory stream.parts) stream.head c.args.entry c.in_ok-holds.field-0 _ c.if-branch.false here

pub returns-then-branch-clause-answers : goal.returns-then-branch-clause-answers
returns-then-branch-clause-answers g c = subst (λ (e : Entry). IsFoundIn e c.args.stream.now) c.get.ensures (c.in_ok-holds.ensures.yes c.if-branch.true)

pub returns-in_err-holds-clause-exact : goal.returns-in_err-holds-clause-exact
returns-in_err-holds-clause-exact g c = λ none. absurd (subst (λ (e : Entry). NoneReaches e.timestamp e.timestamp c.args.stream.now → ⊥) c.get.ensures c.in_err-holds.ensures.exact none)

pub returns-then-branch-clause-exact : goal.returns-then-branch-clause-exact
returns-then-branch-clause-exact g c = λ none.
    let entries = entries_of c.args.stream.now in
    let exact = subst (λ (e : Entry). NoneReaches e.timestamp e.timestamp c.args.stream.now → IsTrue c.in_ok-holds.field-0 ↔ Contains entries e) c.get.ensures c.in_ok-holds.ensures.exact none in
    (unread_by _ (is_among c.args.entry entries) c.args.room.is_full true c.args.room.is_full (sym (answer_is c.args.entry c.in_ok-holds.field-0 entries exact) ∙ c.if-branch.true) refl refl, subst (λ (e : Entry). NoneReaches e.timestamp e.timestamp c.args.stream.now → c.holds.new.chunks ≡ c.args.chunks.now) c.get.ensures c.in_ok-holds.ensures.unread none)

pub returns-then-room-clause-exact : goal.returns-then-room-clause-exact
returns-then-room-clause-exact g c = λ none.
    let entries = entries_of c.args.stream.now in
    let exact = subst (λ (e : Entry). NoneReaches e.timestamp e.timestamp c.args.stream.now → IsTrue c.in_ok-holds.field-0 ↔ Contains entries e) c.get.ensures c.in_ok-holds.ensures.exact none in
    (unread_by _ (is_among c.args.entry entries) c.args.room.is_full false true (sym (answer_is c.args.entry c.in_ok-holds.field-0 entries exact) ∙ c.if-branch.false) c.if-room.true refl, subst (λ (e : Entry). NoneReaches e.timestamp e.timestamp c.args.stream.now → c.holds.new.chunks ≡ c.args.chunks.now) c.get.ensures c.in_ok-holds.ensures.unread none)

pub returns-in_err-hold-clause-exact : goal.returns-in_err-hold-clause-exact
returns-in_err-hold-clause-exact g c = λ none.
    let entries = entries_of c.args.stream.now in
    let exact = subst (λ (e : Entry). NoneReaches e.timestamp e.timestamp c.args.stream.now → IsTrue c.in_ok-holds.field-0 ↔ Contains entries e) c.get.ensures c.in_ok-holds.ensures.exact none in
    let p = err_from_is_err_and c.from_residual-in_err-hold.result c.from_residual-in_err-hold.ensures.1 in
    (unread_by _ (is_among c.args.entry entries) c.args.room.is_full false false (sym (answer_is c.args.entry c.in_ok-holds.field-0 entries exact) ∙ c.if-branch.false) c.if-room.false (inr (p.1 ∙ ap Err p.2)), subst (λ (e : Entry). NoneReaches e.timestamp e.timestamp c.args.stream.now → c.holds.new.chunks ≡ c.args.chunks.now) c.get.ensures c.in_ok-holds.ensures.unread none)

pub returns-clause-exact : goal.returns-clause-exact
returns-clause-exact g c = λ none.
    let entries = entries_of c.args.stream.now in
    let exact = subst (λ (e : Entry). NoneReaches e.timestamp e.timestamp c.args.stream.now → IsTrue c.in_ok-holds.field-0 ↔ Contains entries e) c.get.ensures c.in_ok-holds.ensures.exact none in
    (unread_by _ (is_among c.args.entry entries) c.args.room.is_full false false (sym (answer_is c.args.entry c.in_ok-holds.field-0 entries exact) ∙ c.if-branch.false) c.if-room.false (inl refl), subst (λ (e : Entry). NoneReaches e.timestamp e.timestamp c.args.stream.now → c.holds.new.chunks ≡ c.args.chunks.now) c.get.ensures c.in_ok-holds.ensures.unread none)
