-- Lines that wait have room, because what was found with them is within what may be counted.
use Rattle.std.proofs.Common.{subst}
use Rattle.rl_aggregate.specs.Accumulators.{with_waiting, HasRoom}
use Rattle.rl_aggregate.proofs.Accumulating.{room-fits}
use Rattle.rl_aggregate.proofs.accumulator.add_waiting.Goals as goal

pub add-requires : goal.add-requires
add-requires c = room-fits _ (subst (λ waiting. HasRoom 0 (with_waiting waiting c.args.found.now)) c.in-Some.is c.requires.room)
