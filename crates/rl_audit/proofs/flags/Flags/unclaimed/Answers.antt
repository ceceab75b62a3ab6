-- The first place that is free, or none.
use Rattle.std.proofs.Common.{◌≡◌, ◌<◌, Bool, List, length, get_or, slice_get, [], sym, ap, ◌∙◌, arith}
use Rattle.std.proofs.lemmas.List.{get_or_read}
use Rattle.rl_audit.proofs.Flagging.{claimed_more, first_free, none_free}
use Rattle.rl_audit.proofs.flags.Flags.unclaimed.Goals as goal

pub returns-in-Some-clause-one : goal.returns-in-Some-clause-one
returns-in-Some-clause-one c =
    let flags = c.args.self.now.flags.items in
    let n = c.loop-column.column in
    let same = c.deref-flags-items.ensures.value in
    let less : n < length flags = omega arith in
    let own_is : c.flags-item.result ≡ get_or flags n [] = get_or_read flags n c.flags-item.result less (c.flags-item.is ∙ ap (λ (xs : List (List Bool)). get_or xs n c.flags-item.result) same) [] in
    ap (λ (xs : List Bool). slice_get xs c.in-Some.place) (sym own_is ∙ sym c.as_slice.ensures) ∙ first_free c.as_slice.result.now c.in-Some.place c.in-Some.ensures

pub loop-column-preserved : goal.loop-column-preserved
loop-column-preserved c =
    let flags = c.args.self.now.flags.items in
    let n = c.loop-column.column in
    let same = c.deref-flags-items.ensures.value in
    let less : n < length flags = omega arith in
    let own_is : c.flags-item.result ≡ get_or flags n [] = get_or_read flags n c.flags-item.result less (c.flags-item.is ∙ ap (λ (xs : List (List Bool)). get_or xs n c.flags-item.result) same) [] in
    claimed_more flags n c.as_slice.result.now (c.as_slice.ensures ∙ own_is) (none_free c.as_slice.result.now c.in_default.ensures) c.loop-column.invariant
