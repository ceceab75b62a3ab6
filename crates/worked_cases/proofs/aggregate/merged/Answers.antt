-- Few entries fit.
use Rattle.std.proofs.Common.{arith}
use Rattle.rl_aggregate.specs.laws.Within.{merge_fits}
use Rattle.worked_cases.proofs.aggregate.merged.Goals as goal

pub merge-requires : goal.merge-requires
merge-requires c =
    merge_fits _ _ c.deref.result.now c.deref-2.result.now c.args.term.now c.args.moment c.in_ok-here.ensures.partial c.in_ok-there.ensures.partial (omega arith)
