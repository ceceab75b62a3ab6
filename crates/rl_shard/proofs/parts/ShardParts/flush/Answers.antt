-- What is held stays.
use Rattle.rl_shard.proofs.Right.{honest_written, right_same}
use Rattle.rl_shard.proofs.parts.ShardParts.flush.Goals as goal

pub invariant_of-self : goal.invariant_of-self
invariant_of-self g c =
    let same = c.flush.ensures.same in
    (c.flush.ensures.numbers, right_same _ _ _ _ same.limits (honest_written c.flush.result _ _ _ _ c.flush.ensures.grown) same.held c.self.invariant.1)
