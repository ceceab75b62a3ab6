-- All shards answered, or it is left as it came.
use Rattle.std.proofs.lemmas.Result.{err_from_is_err_and}
use Rattle.std.proofs.Common.{subst, sym}
use Rattle.rl_workers.specs.Seats.{IsLeftOpen}
use Rattle.rl_workers.proofs.Committing.{gathered_committed, gathered_left, gathered_may, left_of}
use Rattle.rl_workers.proofs.seat.finish.Goals as goal

pub returns-in_err-ask_each-clause-refused : goal.returns-in_err-ask_each-clause-refused
returns-in_err-ask_each-clause-refused g c =
    let error = err_from_is_err_and c.from_residual.result c.from_residual.ensures.1 in
    rw (error.1, error.2) (left_of _ c.args.t c.args.book.now c.ask_each.new.book c.args.pass.now c.ask_each.new.pass c.in_err-ask_each.ensures.refused)

pub commit_fault-requires : goal.commit_fault-requires
commit_fault-requires g c = gathered_may c.args.t c.args.book.now c.ask_each.new.book c.args.pass.now c.ask_each.new.pass c.in_ok-ask_each.ensures.gathered _ c.in-Err.error c.in-Err.ensures.answer

pub returns-in-Ok-clause-evaluated : goal.returns-in-Ok-clause-evaluated
returns-in-Ok-clause-evaluated g c =
    gathered_committed c.args.t c.args.book.now c.ask_each.new.book c.args.pass.now c.ask_each.new.pass c.in_ok-ask_each.ensures.gathered c.in-Ok.committed c.commit.new.self c.in-Ok.ensures.number c.in-Ok.ensures.evaluation c.in-Ok.ensures.history

pub returns-in-Err-clause-refused : goal.returns-in-Err-clause-refused
returns-in-Err-clause-refused g c =
    subst (λ fault. IsLeftOpen fault c.args.t c.args.book.now c.args.pass.now c.commit.new.self c.ask_each.new.pass) (sym c.commit_fault.ensures)
    (gathered_left c.args.t c.args.book.now c.ask_each.new.book c.args.pass.now c.ask_each.new.pass c.in_ok-ask_each.ensures.gathered _ c.in-Err.error c.commit.new.self c.in-Err.ensures.answer c.in-Err.ensures.err)
