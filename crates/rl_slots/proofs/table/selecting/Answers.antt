-- One slot more was gone through.
use Rattle.std.proofs.Common.{◌<◌, ◌++◌, length, sym, ap, ◌∙◌, arith}
use Rattle.rl_slots.specs.Slots.{selecting_in}
use Rattle.rl_slots.proofs.Listing.{count_more, one_slot}
use Rattle.rl_slots.proofs.table.selecting.Goals as goal

pub loop-index-preserved : goal.loop-index-preserved
loop-index-preserved c =
    let slots = c.args.slots.now in
    let labels = c.args.labels.now in
    let loop = c.loop-index in
    let less : loop.index < length slots = omega (arith, loop.auto.index-end, c.loop-index-test.true) in
    record {
      indices = c.in_ok-select.ensures.indices
          ∙ ap (λ indices. indices ++ selecting_in labels loop.index 0 c.index-slots-index.result.windows) loop.invariant.indices
          ∙ sym (one_slot labels loop.index slots c.index-slots-index.result less c.index-slots-index.is);
      few = omega (arith, c.in_ok-select.ensures.few, loop.invariant.few, count_more loop.index slots c.index-slots-index.result less c.index-slots-index.is);
    }
