-- No slot is there yet.
use Rattle.std.proofs.Common.{rules, ◌≤◌, sym, subst}
use Rattle.rl_chunks.specs.StoreState.{greatest}
use Rattle.rl_shard.specs.Live.{AreRight}
use Rattle.rl_shard.proofs.Right.{right_none}
use Rattle.rl_shard.proofs.parts.ShardParts.new.Goals as goal

pub invariant_of-result : goal.invariant_of-result
invariant_of-result g c =
    let next : c.new-2.result.next ≤ greatest = search rules in
    (next, subst (AreRight _ _) (sym c.new-3.ensures) (right_none _ _))
