-- A slot that was found answers.
use Rattle.std.proofs.Common.{sym, subst}
use Rattle.std.specs.Bool.{Decides}
use Rattle.rl_slots.specs.Slots.{IsLiveIn}
use Rattle.rl_shard.specs.ShardState.{PartsView}
use Rattle.rl_shard.proofs.Asked.{live_decides}
use Rattle.rl_shard.proofs.parts.ShardParts.is_live.Goals as goal

pub returns : goal.returns
returns g c =
    subst (λ (p : PartsView). Decides c.is_some.result (IsLiveIn c.args.slot c.args.terms.now c.args.t p.slots)) c.self.view_is
    (subst (λ b. Decides b (IsLiveIn c.args.slot c.args.terms.now c.args.t c.self.inside.slots)) (sym c.is_some.ensures)
    (live_decides c.args.slot c.args.terms.now c.args.t c.self.inside.slots c.live.result c.live.ensures.some c.live.ensures.none))
