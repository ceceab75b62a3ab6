-- The stream is found in the table from now on, unless there is no memory for it.
use Rattle.std.proofs.Common.{sym, subst}
use Rattle.rl_slots.specs.Slots.{AreSelecting, IsTable}
use Rattle.rl_slots.proofs.Tables.{kept}
use Rattle.rl_slots.proofs.table.keep.Goals as goal

pub returns-in_err-try_copy : goal.returns-in_err-try_copy
returns-in_err-try_copy c = λ slots table are. c.make_room.ensures slots table

pub returns-in_err-insert : goal.returns-in_err-insert
returns-in_err-insert c = λ slots table are. subst (IsTable slots) (sym c.in_err-insert.ensures.err) (c.make_room.ensures slots table)

pub returns : goal.returns
returns c = λ slots table are.
    let labels = c.in_ok-try_copy.field-0 in
    subst (IsTable slots) (sym c.in_ok-insert.ensures.entries)
    (kept slots labels c.make_room.new.table.entries c.args.indices (c.make_room.ensures slots table) (subst (λ l. AreSelecting slots l c.args.indices) (sym c.in_ok-try_copy.ensures) are))
