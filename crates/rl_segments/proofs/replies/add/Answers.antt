-- Where nothing stands there is room.
use Rattle.std.proofs.Common.{sym, ap, ◌∙◌, arith}
use Rattle.std.specs.Option.{unwrap_or}
use Rattle.rl_aggregate.specs.TotalsMap.{no_total}
use Rattle.rl_segments.proofs.Totals.{nothing_there}
use Rattle.rl_segments.proofs.replies.add.Goals as goal

pub add-requires : goal.add-requires
add-requires c =
    let none = nothing_there c.args.totals.now c.args.labels.now c.get.result c.get.ensures (sym c.is_some.ensures ∙ c.if-is_some.false) in
    (omega (arith, ap (λ found. (unwrap_or found no_total).count) none, c.ranges.count.fits), omega (arith, ap (λ found. (unwrap_or found no_total).bytes) none, c.ranges.bytes.fits))
