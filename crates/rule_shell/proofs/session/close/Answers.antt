-- What the close of a ruler gives is printed, where the lines did not stop before.
use Rattle.std.proofs.Common.{◌≡◌, length, ap, sym, subst, inl, inr, ◌∙◌, arith}
use Rattle.std.below.core.specs.Result.{result_from_control_flow}
use Rattle.rl_session.specs.Printed.{not_closed_line}
use Rattle.rl_session.specs.Session.{IsEnded}
use Rattle.rl_session.specs.declared.session.Status.TheVariants as statuses
use Rattle.rule_shell.specs.Runs.{Ends, IsClosedWith}
use Rattle.rule_shell.proofs.session.close.Goals as goal

pub returns-in-Ok : goal.returns-in-Ok
returns-in-Ok g c =
    let ended = c.in-Ok.ended in
    let closed : IsClosedWith c.args.ran.passes.items c.len-failed.result = record {
      shards = ended.shards.items;
      books = ended.books.items;
      merged = c.in-Ok.ensures.merged;
      noted = c.in-Ok.ensures.noted;
      audited = c.in-Ok.ensures.audited;
      from_scratch = c.in-Ok.ensures.from_scratch;
      closed = c.in-Ok.ensures.closed;
      unclosed = omega (arith, c.len-failed.ensures, ended.unclosed.ok.0, ap length c.in-Ok.ensures.unclosed);
    } in
    subst (λ refused. Ends c.args.ran.passes.items refused c.args.out.now c.end_closed.result c.end_closed.new.out) (sym (c.branch-refused.ensures ∙ ap result_from_control_flow c.in_ok-refused-in-Ok.is)) (inl (c.len-failed.result, closed, c.end_closed.ensures))

pub returns : goal.returns
returns g c =
    let ended = subst (λ name. IsEnded (not_closed_line name) statuses.Refused c.args.out.now c.end_not_closed.result c.end_not_closed.new.out) c.close_fault_name-name.ensures c.end_not_closed.ensures in
    subst (λ refused. Ends c.args.ran.passes.items refused c.args.out.now c.end_not_closed.result c.end_not_closed.new.out) (sym (c.branch-refused-in-Err.ensures ∙ ap result_from_control_flow c.in_ok-refused-in-Err.is)) (inr (c.in-Err.left.fault, ended))
