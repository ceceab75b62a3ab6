-- Each turn reads the next volume.
use Rattle.std.proofs.Common.{◌+◌, ◌-◌, ap, ◌∙◌}
use Rattle.rl_segments.specs.RecordReading.{in_turn, volume_at}
use Rattle.rl_segments.proofs.Turns.{begins, itself, ends, following, goes_on, is_done}
use Rattle.rl_segments.proofs.replies.volumes_at.Goals as goal

pub loop-init : goal.loop-init
loop-init c = begins volume_at itself c.new-volumes.result.items c.args.count c.args.bytes.now c.new-volumes.ensures.items

pub returns-in-Err : goal.returns-in-Err
returns-in-Err c = ends volume_at itself c.in-Err.error c.loop.volumes.items c.args.count c.loop.counter c.loop.rest.now _ c.loop-test.true c.in-Err.ensures c.loop.invariant

pub loop-preserved : goal.loop-preserved
loop-preserved c =
    ap (λ xs. following (xs) (in_turn volume_at (c.args.count - (c.loop.counter + 1)) c.in-Ok.read.1.now)) c.in_ok-push.ensures.items
    ∙ goes_on volume_at itself c.loop.volumes.items c.args.count c.loop.counter c.loop.rest.now c.in-Ok.read.0 c.in-Ok.read.1.now _ c.loop-test.true c.in-Ok.ensures c.loop.invariant

pub returns : goal.returns
returns c = is_done volume_at itself c.loop.volumes.items c.args.count c.loop.counter c.loop.rest.now _ c.loop-test.false c.loop.invariant
