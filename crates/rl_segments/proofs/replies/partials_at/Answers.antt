-- Each turn reads the next partial.
use Rattle.std.proofs.Common.{◌+◌, ◌-◌, Ok, sym, ap, ◌∙◌}
use Rattle.rl_aggregate.specs.declared.partial.Partial.{Partial}
use Rattle.rl_segments.specs.RecordReading.{in_turn, partial_at}
use Rattle.rl_segments.proofs.Turns.{begins, itself, ends, following, goes_on, is_done}
use Rattle.rl_segments.proofs.replies.partials_at.Goals as goal

pub loop-init : goal.loop-init
loop-init c = begins partial_at itself c.new-partials.result.items c.args.count c.args.bytes.now c.new-partials.ensures.items

pub returns-in-Err : goal.returns-in-Err
returns-in-Err c = ends partial_at itself c.in-Err.error c.loop.partials.items c.args.count c.loop.counter c.loop.rest.now _ c.loop-test.true c.in-Err.ensures c.loop.invariant

pub loop-preserved : goal.loop-preserved
loop-preserved c =
    ap (λ xs. following (xs) (in_turn partial_at (c.args.count - (c.loop.counter + 1)) c.in-Ok.read.1.now)) c.in_ok-push.ensures.items
    ∙ goes_on partial_at itself c.loop.partials.items c.args.count c.loop.counter c.loop.rest.now c.in_ok-new.field-0 c.in-Ok.read.1.now _ c.loop-test.true (c.in-Ok.ensures ∙ ap (λ (partial : Partial). Ok (partial, c.in-Ok.read.1.now)) (sym c.in_ok-new.ensures)) c.loop.invariant

pub returns : goal.returns
returns c = is_done partial_at itself c.loop.partials.items c.args.count c.loop.counter c.loop.rest.now _ c.loop-test.false c.loop.invariant
