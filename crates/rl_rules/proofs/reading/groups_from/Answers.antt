-- Each turn reads the group of one table more, or passes over an item that is none.
use Rattle.std.proofs.Common.{◌≡◌, Ok, length, sym, ap, ◌∙◌, arith}
use Rattle.std.proofs.lemmas.Result.{err_from_is_err_and}
use Rattle.toml.specs.View.{table_view}
use Rattle.rl_rules.specs.Answering.{GroupLacksRoom}
use Rattle.rl_rules.specs.Forms.{group_form}
use Rattle.rl_rules.specs.Document.{group_at}
use Rattle.rl_rules.proofs.Walks.{one_more_read, one_passed, refused}
use Rattle.rl_rules.proofs.reading.groups_from.Goals as goal
use Rattle.rl_rules.proofs.reading.groups_from.Goals.{in-Some+in_ok-group+in_ok-push, in_default}

pub returns-in_err-group : goal.returns-in_err-group
returns-in_err-group c =
    let old = c.loop-item.groups.items in
    let error = err_from_is_err_and c.from_residual.result c.from_residual.ensures.1 in
    rw (error.1, error.2) (refused group_at group_form GroupLacksRoom c.in_err-group.field-0.0 old c.loop-item.item-index c.len.result c.args.items.now c.item-item.result (table_view c.in-Some.table.now) c.loop-item-test.true c.item-item.is c.in-Some.ensures (omega (arith, c.len.ensures, c.loop-item.groups.ok.0)) c.in_err-group.ensures c.loop-item.invariant)

pub loop-item-preserved : goal.loop-item-preserved
loop-item-preserved c =
    let old = c.loop-item.groups.items in
    elim c.match-as_table.branch [
      | in-Some+in_ok-group+in_ok-push w ↦
          let count : w.len.result ≡ length old = omega (arith, w.len.ensures, c.loop-item.groups.ok.0) in
          let here : group_at (length old) (table_view w.in-Some.table.now) ≡ Ok (group_form w.in_ok-group.group) = ap (λ n. group_at n (table_view w.in-Some.table.now)) (sym count) ∙ w.in_ok-group.ensures in
          one_more_read group_at group_form old _ w.in_ok-group.group c.loop-item.item-index c.args.items.now c.item-item.result _ c.loop-item-test.true c.item-item.is w.in-Some.ensures here (ap (λ v. v.items) w.groups-is ∙ w.in_ok-push.ensures.items) c.loop-item.invariant
      | in_default w ↦ one_passed group_at group_form old _ c.loop-item.item-index c.args.items.now c.item-item.result c.loop-item-test.true c.item-item.is w.in_default.ensures (ap (λ v. v.items) w.groups-is) c.loop-item.invariant
    ]
