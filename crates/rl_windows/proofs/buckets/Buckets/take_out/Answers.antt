-- The tree has at the stamp what is left there.
use Rattle.std.proofs.Common.{cond, sym, ap, ◌∙◌}
use Rattle.std.specs.FinMap.{get}
use Rattle.rl_plain.specs.laws.TreeMaps.{get-of_tree}
use Rattle.rl_aggregate.specs.TotalsMap.{taken}
use Rattle.rl_aggregate.specs.laws.Trees.{one_taken}
use Rattle.rl_windows.specs.Buckets.{may_go}
use Rattle.rl_windows.specs.laws.Stamps.{stamp_cmp_total, stamp_cmp-IsAntisymmetric}
use Rattle.rl_windows.proofs.buckets.Buckets.take_out.Goals as goal

pub returns-clause-there : goal.returns-clause-there
returns-clause-there c =
    c.take_at.ensures.there
    ∙ ap (λ there. may_go there c.args.volume) (sym (get-of_tree stamp_cmp_total c.self.inside.by_stamp.entries c.args.stamp.now) ∙ ap (λ b. get b c.args.stamp.now) c.self.view_is)

pub returns-clause-left : goal.returns-clause-left
returns-clause-left c =
    one_taken stamp_cmp_total stamp_cmp-IsAntisymmetric may_go c.self.inside.by_stamp.entries c.take_at.new.by_stamp.entries c.args.stamp.now c.args.volume c.take_at.result c.take_at.ensures.there c.take_at.ensures.left
    ∙ ap (λ b. cond (may_go (get b c.args.stamp.now) c.args.volume) (taken b c.args.stamp.now c.args.volume) b) c.self.view_is
