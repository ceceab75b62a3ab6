-- Each turn reads the next term.
use Rattle.std.proofs.Common.{◌+◌, ◌-◌, map, ap, ◌∙◌}
use Rattle.rl_query.specs.Form.{term_form}
use Rattle.rl_segments.specs.RecordReading.{in_turn, term_at}
use Rattle.rl_segments.proofs.Turns.{begins, by_view, ends, following, goes_on, is_done}
use Rattle.rl_segments.proofs.steps.terms_at.Goals as goal

pub loop-init : goal.loop-init
loop-init c = begins term_at (by_view term_form) c.new-terms.result.items c.args.count c.args.bytes.now c.new-terms.ensures.items

pub returns-in-Err : goal.returns-in-Err
returns-in-Err c = ends term_at (by_view term_form) c.in-Err.error c.loop.terms.items c.args.count c.loop.counter c.loop.rest.now _ c.loop-test.true c.in-Err.ensures c.loop.invariant

pub loop-preserved : goal.loop-preserved
loop-preserved c =
    ap (λ xs. following (map term_form xs) (in_turn term_at (c.args.count - (c.loop.counter + 1)) c.in-Ok.read.1.now)) c.in_ok-push.ensures.items
    ∙ goes_on term_at (by_view term_form) c.loop.terms.items c.args.count c.loop.counter c.loop.rest.now c.in-Ok.read.0 c.in-Ok.read.1.now _ c.loop-test.true c.in-Ok.ensures c.loop.invariant

pub returns : goal.returns
returns c = is_done term_at (by_view term_form) c.loop.terms.items c.args.count c.loop.counter c.loop.rest.now _ c.loop-test.false c.loop.invariant
