-- A claim flags the place.
use Rattle.std.proofs.Common.{◌≡◌, ◌+◌, ◌++◌, ℕ, ◌∷◌, [], Bool, List, length, get_or, slice_set, true, refl, sym, ap, subst, ◌∙◌}
use Rattle.std.proofs.lemmas.List.{get_or_read, length-set}
use Rattle.std.proofs.Math.Seq.{map-set_same}
use Rattle.rl_audit.specs.Flagged.{StandFor}
use Rattle.rl_audit.proofs.Flagging.{stand_claimed}
use Rattle.rl_audit.proofs.flags.Flags.claim.Goals as goal

pub returns-clause-sizes : goal.returns-clause-sizes
returns-clause-sizes c =
    let flags = c.args.self.now.flags.items in
    let own = c.index_mut.result.now in
    let own_is : own ≡ get_or flags c.args.column [] = get_or_read flags c.args.column own (c.if-not-is_free.ensures.column refl) c.index_mut.ensures.value [] in
    map-set_same (length {A = Bool}) flags c.args.column c.set.new.self [] (ap (length {A = Bool}) c.set.ensures ∙ length-set own c.args.place true ∙ ap (length {A = Bool}) own_is)

pub returns-clause-claimed : goal.returns-clause-claimed
returns-clause-claimed c _ before mine stand =
    let flags = c.args.self.now.flags.items in
    let nexts = c.args.self.now.nexts in
    let own = c.index_mut.result.now in
    let free = c.if-not-is_free.ensures in
    let there = free.column refl in
    let next = free.next refl in
    let own_is : own ≡ get_or flags c.args.column [] = get_or_read flags c.args.column own there c.index_mut.ensures.value [] in
    let claimed = stand_claimed flags own c.args.column c.args.place there own_is (free.flagged refl) nexts next.0 next.1 before mine stand in
    subst (λ (nexts : List ℕ). StandFor (slice_set flags c.args.column c.set.new.self) nexts before (mine ++ (c.args.column, c.args.place) ∷ [])) (sym c.set-2.ensures)
    (subst (λ (column : List Bool). StandFor (slice_set flags c.args.column column) (slice_set nexts c.args.column (c.args.place + 1)) before (mine ++ (c.args.column, c.args.place) ∷ [])) (sym c.set.ensures) claimed)
