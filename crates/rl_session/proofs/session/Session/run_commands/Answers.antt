-- All lines were executed, or a write failed before that or at the last line.
use Rattle.std.proofs.Common.{inl}
use Rattle.std.proofs.lemmas.Result.{err_from_is_err_and}
use Rattle.rl_session.proofs.Endings.{session_ended}
use Rattle.rl_session.proofs.Printers.{cut_printed}
use Rattle.rl_session.proofs.session.Session.run_commands.Goals as goal

pub returns-in_err-stopped : goal.returns-in_err-stopped
returns-in_err-stopped g c =
    let error = err_from_is_err_and c.from_residual.result c.from_residual.ensures.1 in
    let ended = c.in_err-stopped.ensures in
    let cut = cut_printed c.args.out.now ended.0 c.run_lines-stopped.new.out ended.2 ended.3 in
    rw error.1 (error.2, inl (ended.0, c.run_lines-stopped.new.engine, c.close-failed.result, ended.1, c.close-failed.ensures, cut))

pub returns : goal.returns
returns g c =
    session_ended g.E.Engine.calls g.E.Closes.closes c.args.self.now.engine c.run_lines-stopped.new.engine c.close-failed.new.self c.args.commands.now c.args.out.now c.run_lines-stopped.new.out c.end_closed.new.out c.in_ok-stopped.stopped c.close-failed.result c.requires
    c.in_ok-stopped.ensures c.close-failed.ensures c.end_closed.result c.end_closed.ensures
