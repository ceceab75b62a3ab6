-- A turn more: lines up to a block, and the block; or what ends a session.
use Rattle.std.proofs.Common.{map, length, get_or, ap, subst, arith}
use Rattle.std.specs.Option.{option_copied}
use Rattle.std.proofs.lemmas.Result.{err_from_is_err_and}
use Rattle.rl_session.specs.Front.{lines_of}
use Rattle.rl_session.specs.Session.{lines_left}
use Rattle.rl_callers.specs.declared.runner.Runner.{Runner}
use Rattle.rl_callers.proofs.BlocksSoFar.{ExecutedSoFar, none_executed, turn_executed}
use Rattle.rl_callers.proofs.BlockRun.{all_done, block_failed, flush_failed, line_failed, lines_ended, some_after, turn_of, turn_shorter}
use Rattle.rl_callers.proofs.running.run_callers.Goals as goal

pub loop-rest-init : goal.loop-rest-init
loop-rest-init g c = record {
  some = c.requires.some;
  so_far = none_executed g.E.Engine.calls (map (λ caller. caller.engine) c.args.callers.now) (lines_of c.args.commands.now) c.args.out.now;
}

pub returns-in_err-stopped : goal.returns-in_err-stopped
returns-in_err-stopped g c =
    let error = err_from_is_err_and c.from_residual.result c.from_residual.ensures.1 in
    let default = c.index-callers-0.result in
    let first = get_or c.loop-rest.callers 0 default in
    let changed : Runner g.row.E.Denot = record { engine = c.run_lines.new.engine; replies = first.replies; printed = first.printed; failed = first.failed } in
    let so_far = subst (λ rest. ExecutedSoFar g.E.Engine.calls (map (λ caller. caller.engine) c.args.callers.now) (lines_of c.args.commands.now) (lines_left (option_copied rest)) c.loop-rest.refused c.args.out.now c.loop-rest.out (map (λ caller. caller.engine) c.loop-rest.callers))
    c.in-Some.is c.loop-rest.invariant.so_far in
    rw error.1 (line_failed g.E.Engine.calls c.args.callers.now c.loop-rest.callers default changed c.args.commands.now c.in-Some.text.now c.loop-rest.refused error.0 c.args.out.now c.loop-rest.out c.run_lines.new.out
    c.loop-rest.invariant.some c.in_err-stopped.ensures so_far)

pub returns-in_default-at : goal.returns-in_default-at
returns-in_default-at g c =
    let default = c.index-callers-0.result in
    let first = get_or c.loop-rest.callers 0 default in
    let changed : Runner g.row.E.Denot = record { engine = c.run_lines.new.engine; replies = first.replies; printed = first.printed; failed = first.failed } in
    let so_far = subst (λ rest. ExecutedSoFar g.E.Engine.calls (map (λ caller. caller.engine) c.args.callers.now) (lines_of c.args.commands.now) (lines_left (option_copied rest)) c.loop-rest.refused c.args.out.now c.loop-rest.out (map (λ caller. caller.engine) c.loop-rest.callers))
    c.in-Some.is c.loop-rest.invariant.so_far in
    lines_ended g.E.Engine.calls c.args.callers.now c.loop-rest.callers default changed c.args.commands.now c.in-Some.text.now c.loop-rest.refused c.in_ok-stopped.stopped c.args.out.now c.loop-rest.out c.run_lines.new.out
    c.loop-rest.invariant.some c.in_ok-stopped.ensures c.in_default-at.is so_far

pub returns-then-has_failed : goal.returns-then-has_failed
returns-then-has_failed g c =
    let default = c.index-callers-0.result in
    let first = get_or c.loop-rest.callers 0 default in
    let changed : Runner g.row.E.Denot = record { engine = c.run_lines.new.engine; replies = first.replies; printed = first.printed; failed = first.failed } in
    let so_far = subst (λ rest. ExecutedSoFar g.E.Engine.calls (map (λ caller. caller.engine) c.args.callers.now) (lines_of c.args.commands.now) (lines_left (option_copied rest)) c.loop-rest.refused c.args.out.now c.loop-rest.out (map (λ caller. caller.engine) c.loop-rest.callers))
    c.in-Some.is c.loop-rest.invariant.so_far in
    block_failed g.E.Engine.calls c.args.callers.now c.loop-rest.callers default changed c.args.commands.now c.in-Some.text.now c.loop-rest.refused c.in_ok-stopped.stopped c.in-Block.block c.args.out.now c.loop-rest.out c.run_lines.new.out c.flush.new.self
    (map (λ caller. caller.engine) c.run_block.new.callers) c.loop-rest.invariant.some c.in_ok-stopped.ensures c.in-Block.is c.flush.ensures.same c.flush.ensures.front so_far

pub returns-in_err-flush : goal.returns-in_err-flush
returns-in_err-flush g c =
    let error = err_from_is_err_and c.from_residual-in_err-flush.result c.from_residual-in_err-flush.ensures.1 in
    let default = c.index-callers-0.result in
    let first = get_or c.loop-rest.callers 0 default in
    let changed : Runner g.row.E.Denot = record { engine = c.run_lines.new.engine; replies = first.replies; printed = first.printed; failed = first.failed } in
    let so_far = subst (λ rest. ExecutedSoFar g.E.Engine.calls (map (λ caller. caller.engine) c.args.callers.now) (lines_of c.args.commands.now) (lines_left (option_copied rest)) c.loop-rest.refused c.args.out.now c.loop-rest.out (map (λ caller. caller.engine) c.loop-rest.callers))
    c.in-Some.is c.loop-rest.invariant.so_far in
    let turn = turn_of g.E.Engine.calls c.loop-rest.callers c.run_block.new.callers c.print_block-some.new.callers default changed c.in-Some.text.now c.in_ok-stopped.stopped c.in-Block.block c.print_block-some.result.1 c.has_failed.result c.print_block-some.result.0
    c.loop-rest.out c.run_lines.new.out c.print_block-some.new.out c.flush-in-Some.new.self c.loop-rest.invariant.some c.in_ok-stopped.ensures c.in-Block.is c.run_block.ensures c.has_failed.ensures c.if-has_failed.false
    c.print_block-some.ensures.printed c.flush-in-Some.ensures.same in
    let more = turn_executed g.E.Engine.calls (map (λ caller. caller.engine) c.args.callers.now) (lines_of c.args.commands.now) (lines_of c.in-Some.text.now) c.loop-rest.refused c.in_ok-stopped.stopped.refused c.print_block-some.result.0
    c.args.out.now c.loop-rest.out c.flush-in-Some.new.self (map (λ caller. caller.engine) c.loop-rest.callers) (lines_left (option_copied c.print_block-some.result.1)) (map (λ caller. caller.engine) c.print_block-some.new.callers) turn so_far in
    let some = some_after g.E.Engine.calls c.loop-rest.callers c.run_block.new.callers c.print_block-some.new.callers changed (lines_left (option_copied c.in-Block.block)) c.loop-rest.invariant.some c.run_block.ensures c.print_block-some.ensures.engines in
    rw error.1 (flush_failed g.E.Engine.calls c.args.callers.now c.print_block-some.new.callers c.args.commands.now (lines_left (option_copied c.print_block-some.result.1)) _ error.0 c.args.out.now c.flush-in-Some.new.self some c.flush-in-Some.ensures.front more)

pub loop-rest-smaller : goal.loop-rest-smaller
loop-rest-smaller g c =
    let default = c.index-callers-0.result in
    let first = get_or c.loop-rest.callers 0 default in
    let changed : Runner g.row.E.Denot = record { engine = c.run_lines.new.engine; replies = first.replies; printed = first.printed; failed = first.failed } in
    let turn = turn_of g.E.Engine.calls c.loop-rest.callers c.run_block.new.callers c.print_block-some.new.callers default changed c.in-Some.text.now c.in_ok-stopped.stopped c.in-Block.block c.print_block-some.result.1 c.has_failed.result c.print_block-some.result.0
    c.loop-rest.out c.run_lines.new.out c.print_block-some.new.out c.flush-in-Some.new.self c.loop-rest.invariant.some c.in_ok-stopped.ensures c.in-Block.is c.run_block.ensures c.has_failed.ensures c.if-has_failed.false
    c.print_block-some.ensures.printed c.flush-in-Some.ensures.same in
    let shorter = turn_shorter g.E.Engine.calls (map (λ caller. caller.engine) c.loop-rest.callers) (lines_of c.in-Some.text.now) c.in_ok-stopped.stopped.refused c.print_block-some.result.0 c.loop-rest.out c.flush-in-Some.new.self
    (lines_left (option_copied c.print_block-some.result.1)) (map (λ caller. caller.engine) c.print_block-some.new.callers) turn in
    omega (arith, shorter, ap (λ rest. length (lines_left (option_copied rest))) c.in-Some.is)

pub loop-rest-preserved : goal.loop-rest-preserved
loop-rest-preserved g c =
    let default = c.index-callers-0.result in
    let first = get_or c.loop-rest.callers 0 default in
    let changed : Runner g.row.E.Denot = record { engine = c.run_lines.new.engine; replies = first.replies; printed = first.printed; failed = first.failed } in
    let so_far = subst (λ rest. ExecutedSoFar g.E.Engine.calls (map (λ caller. caller.engine) c.args.callers.now) (lines_of c.args.commands.now) (lines_left (option_copied rest)) c.loop-rest.refused c.args.out.now c.loop-rest.out (map (λ caller. caller.engine) c.loop-rest.callers))
    c.in-Some.is c.loop-rest.invariant.so_far in
    let turn = turn_of g.E.Engine.calls c.loop-rest.callers c.run_block.new.callers c.print_block-some.new.callers default changed c.in-Some.text.now c.in_ok-stopped.stopped c.in-Block.block c.print_block-some.result.1 c.has_failed.result c.print_block-some.result.0
    c.loop-rest.out c.run_lines.new.out c.print_block-some.new.out c.flush-in-Some.new.self c.loop-rest.invariant.some c.in_ok-stopped.ensures c.in-Block.is c.run_block.ensures c.has_failed.ensures c.if-has_failed.false
    c.print_block-some.ensures.printed c.flush-in-Some.ensures.same in
    let more = turn_executed g.E.Engine.calls (map (λ caller. caller.engine) c.args.callers.now) (lines_of c.args.commands.now) (lines_of c.in-Some.text.now) c.loop-rest.refused c.in_ok-stopped.stopped.refused c.print_block-some.result.0
    c.args.out.now c.loop-rest.out c.flush-in-Some.new.self (map (λ caller. caller.engine) c.loop-rest.callers) (lines_left (option_copied c.print_block-some.result.1)) (map (λ caller. caller.engine) c.print_block-some.new.callers) turn so_far in
    let some = some_after g.E.Engine.calls c.loop-rest.callers c.run_block.new.callers c.print_block-some.new.callers changed (lines_left (option_copied c.in-Block.block)) c.loop-rest.invariant.some c.run_block.ensures c.print_block-some.ensures.engines in
    record { some = some; so_far = more }

pub returns : goal.returns
returns g c =
    let so_far = subst (λ rest. ExecutedSoFar g.E.Engine.calls (map (λ caller. caller.engine) c.args.callers.now) (lines_of c.args.commands.now) (lines_left (option_copied rest)) c.loop-rest.refused c.args.out.now c.loop-rest.out (map (λ caller. caller.engine) c.loop-rest.callers))
    c.in_default.is c.loop-rest.invariant.so_far in
    all_done g.E.Engine.calls c.args.callers.now c.loop-rest.callers c.args.commands.now c.loop-rest.refused c.args.out.now c.loop-rest.out c.loop-rest.invariant.some so_far
