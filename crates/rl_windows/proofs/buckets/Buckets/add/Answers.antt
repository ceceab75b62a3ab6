-- The tree has at the stamp what it had there and the lines.
use Rattle.std.proofs.Common.{◌≡◌, sym, ap, ◌∙◌, arith}
use Rattle.std.proofs.lemmas.Result.{on_ok_weaker, on_err_weaker}
use Rattle.std.specs.BTreeMap.{is_at}
use Rattle.std.specs.Map.{lookup}
use Rattle.std.specs.Option.{unwrap_or}
use Rattle.rl_aggregate.specs.TotalsMap.{no_total, total_at}
use Rattle.rl_aggregate.specs.declared.volume.Volume.{Volume}
use Rattle.rl_aggregate.specs.laws.Trees.{one_added, total_at-of_tree}
use Rattle.rl_windows.specs.Buckets.{buckets_in, stamp_cmp}
use Rattle.rl_windows.specs.laws.Stamps.{stamp_cmp_total, stamp_cmp-IsAntisymmetric}
use Rattle.rl_windows.proofs.buckets.Buckets.add.Goals as goal

pub add_at-requires : goal.add_at-requires
add_at-requires c =
    let there : total_at c.args.self.now c.args.stamp ≡ unwrap_or (lookup (is_at (stamp_cmp c.args.stamp)) c.self.inside.by_stamp.entries) no_total = ap (λ m. total_at m c.args.stamp) (sym c.self.view_is) ∙ total_at-of_tree stamp_cmp_total c.self.inside.by_stamp.entries c.args.stamp in (
      omega (arith, c.requires.0, ap (λ (t : Volume). t.count) there),
      omega (arith, c.requires.1, ap (λ (t : Volume). t.bytes) there),
    )

pub returns-clause-ok : goal.returns-clause-ok
returns-clause-ok c = on_ok_weaker c.add_at.result (λ answers. one_added stamp_cmp_total stamp_cmp-IsAntisymmetric c.args.self.now c.self.inside.by_stamp.entries c.add_at.new.by_stamp.entries c.args.stamp c.args.volume c.self.view_is answers) c.add_at.ensures.ok

pub returns-clause-err : goal.returns-clause-err
returns-clause-err c = on_err_weaker c.add_at.result (λ same. ap buckets_in same ∙ c.self.view_is) c.add_at.ensures.err
