-- The stream at the index is offered the entry, or a new one begins.
use Rattle.std.proofs.Common.{false, not, refl, sym, ap, subst, rules, inl}
use Rattle.std.proofs.lemmas.Result.{err_from_is_err_and}
use Rattle.rl_streams.specs.RowSteps.{IsPositionOf}
use Rattle.rl_streams.proofs.Held.{not_held}
use Rattle.rl_streams.proofs.Offered.{answered_at, labels_at, not_begun, not_begun_any, not_begun_unread, offered_at, refused_at, right_at, unread_at, unread_by}
use Rattle.rl_streams.proofs.RowChanges.{within}
use Rattle.rl_streams.proofs.Visited.{stream_there}
use Rattle.rl_streams.specs.StreamRows.{joined, is_among}
use Rattle.rl_streams.proofs.adding.put.Goals as goal

pub returns-in_err-begin-in-None-clause-right : goal.returns-in_err-begin-in-None-clause-right
returns-in_err-begin-in-None-clause-right g c = λ are honest.
    let others = subst (IsPositionOf c.args.streams.now.entries c.args.entry.labels) c.in-None.is c.requires.position in
    let p = err_from_is_err_and c.from_residual.result c.from_residual.ensures.1 in
    rw (p.1, p.2) (not_begun c.in_err-begin-in-None.field-0.0 c.args.room.is_full _ (not_held c.args.entry c.args.streams.now.entries are.own others) c.in_err-begin-in-None.ensures.cause)

pub returns-in_ok-begin-in-None-clause-right : goal.returns-in_ok-begin-in-None-clause-right
returns-in_ok-begin-in-None-clause-right g c = λ are honest.
    let others = subst (IsPositionOf c.args.streams.now.entries c.args.entry.labels) c.in-None.is c.requires.position in
    ap not (sym (not_held c.args.entry c.args.streams.now.entries are.own others))

pub index_mut-requires : goal.index_mut-requires
index_mut-requires g c =
    let position = subst (IsPositionOf c.args.streams.now.entries c.args.entry.labels) c.in-Some.is c.requires.position in
    within c.args.streams.now.entries c.in-Some.position (c.args.entry.labels, position.0) position.1

pub offer-requires-clause-labels : goal.offer-requires-clause-labels
offer-requires-clause-labels g c =
    let position = subst (IsPositionOf c.args.streams.now.entries c.args.entry.labels) c.in-Some.is c.requires.position in
    let labels = labels_at c.args.streams.now.entries c.in-Some.position c.args.entry c.index_mut.result.now c.index_mut.result.now position c.index_mut.ensures.value c.requires.own in
    search (rules, labels)

pub returns-in-Some-clause-taken : goal.returns-in-Some-clause-taken
returns-in-Some-clause-taken g c =
    let position = subst (IsPositionOf c.args.streams.now.entries c.args.entry.labels) c.in-Some.is c.requires.position in
    offered_at c.args.streams.now.entries c.in-Some.position c.args.entry c.index_mut.result.now c.offer.new.stream position c.index_mut.ensures.value c.args.room.most c.offer.result c.requires.apart c.offer.ensures.taken

pub returns-in-Some-clause-refused : goal.returns-in-Some-clause-refused
returns-in-Some-clause-refused g c =
    let position = subst (IsPositionOf c.args.streams.now.entries c.args.entry.labels) c.in-Some.is c.requires.position in
    refused_at c.args.streams.now.entries c.in-Some.position c.args.entry c.index_mut.result.now c.offer.new.stream position c.index_mut.ensures.value c.offer.result c.offer.ensures.refused

pub returns-in-Some-clause-right : goal.returns-in-Some-clause-right
returns-in-Some-clause-right g c = λ are honest.
    let position = subst (IsPositionOf c.args.streams.now.entries c.args.entry.labels) c.in-Some.is c.requires.position in
    right_at c.args.streams.now.entries c.in-Some.position c.args.entry c.index_mut.result.now c.offer.new.stream position c.index_mut.ensures.value c.offer.result c.args.chunks.now are (λ kept. c.offer.ensures.right kept honest)

pub returns-in_err-begin-in-None-clause-answers : goal.returns-in_err-begin-in-None-clause-answers
returns-in_err-begin-in-None-clause-answers g c =
    let others = subst (IsPositionOf c.args.streams.now.entries c.args.entry.labels) c.in-None.is c.requires.position in
    let p = err_from_is_err_and c.from_residual.result c.from_residual.ensures.1 in
    rw (p.1, p.2) (not_begun_any c.in_err-begin-in-None.field-0.0 c.args.room.is_full _ _ (inl others) c.in_err-begin-in-None.ensures.cause)

pub returns-in_err-begin-in-None-clause-exact : goal.returns-in_err-begin-in-None-clause-exact
returns-in_err-begin-in-None-clause-exact g c = λ _.
    let others = subst (IsPositionOf c.args.streams.now.entries c.args.entry.labels) c.in-None.is c.requires.position in
    let p = err_from_is_err_and c.from_residual.result c.from_residual.ensures.1 in
    (rw (p.1, p.2) (not_begun_unread c.in_err-begin-in-None.field-0.0 c.args.room.is_full _ (not_held c.args.entry c.args.streams.now.entries c.requires.own others) c.in_err-begin-in-None.ensures.cause), refl)

pub returns-in_ok-begin-in-None-clause-answers : goal.returns-in_ok-begin-in-None-clause-answers
returns-in_ok-begin-in-None-clause-answers g c =
    let others = subst (IsPositionOf c.args.streams.now.entries c.args.entry.labels) c.in-None.is c.requires.position in
    (inl others, c.in_ok-begin-in-None.ensures.room)

pub returns-in_ok-begin-in-None-clause-exact : goal.returns-in_ok-begin-in-None-clause-exact
returns-in_ok-begin-in-None-clause-exact g c = λ _.
    let others = subst (IsPositionOf c.args.streams.now.entries c.args.entry.labels) c.in-None.is c.requires.position in
    (unread_by _ (is_among c.args.entry (joined c.args.streams.now.entries)) c.args.room.is_full false false (not_held c.args.entry c.args.streams.now.entries c.requires.own others) c.in_ok-begin-in-None.ensures.room (inl refl), refl)

pub returns-in-Some-clause-answers : goal.returns-in-Some-clause-answers
returns-in-Some-clause-answers g c =
    let position = subst (IsPositionOf c.args.streams.now.entries c.args.entry.labels) c.in-Some.is c.requires.position in
    answered_at c.args.streams.now.entries c.in-Some.position c.args.entry c.index_mut.result.now c.offer.new.stream position c.index_mut.ensures.value c.offer.result c.args.room.is_full c.offer.ensures.answers

pub returns-in-Some-clause-exact : goal.returns-in-Some-clause-exact
returns-in-Some-clause-exact g c = λ unreached.
    let position = subst (IsPositionOf c.args.streams.now.entries c.args.entry.labels) c.in-Some.is c.requires.position in
    let exact = c.offer.ensures.exact (unreached c.index_mut.result.now (stream_there c.args.streams.now.entries c.in-Some.position c.args.entry c.index_mut.result.now position c.index_mut.ensures.value)) in
    (unread_at c.args.streams.now.entries c.in-Some.position c.args.entry c.index_mut.result.now c.offer.new.stream position c.index_mut.ensures.value c.offer.result c.args.room.is_full c.requires.own c.requires.apart exact.0, exact.1)
