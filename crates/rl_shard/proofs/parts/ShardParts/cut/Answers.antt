-- What is held stays.
use Rattle.std.proofs.Common.{◌≤◌, ap, sym, subst}
use Rattle.rl_chunks.specs.StoreState.{greatest, Seen}
use Rattle.rl_shard.proofs.Right.{right_same}
use Rattle.rl_shard.proofs.parts.ShardParts.cut.Goals as goal

pub invariant_of-self : goal.invariant_of-self
invariant_of-self g c =
    let same = c.cut.ensures.same in
    (subst (λ next. next ≤ greatest) (sym same.next) c.self.invariant.0, right_same _ _ _ _ same.limits (ap (λ (s : Seen). s.honest) same.seen) same.held c.self.invariant.1)
