-- Where lines may not go, nothing changes.
use Rattle.std.proofs.Common.{sym, ap, ◌∙◌}
use Rattle.std.proofs.lemmas.Map.Steps.{set_value_same}
use Rattle.std.specs.BTreeMap.{is_at}
use Rattle.std.specs.Map.{lookup}
use Rattle.rl_windows.specs.Buckets.{stamp_cmp}
use Rattle.rl_windows.proofs.buckets.take_at.Goals as goal

pub returns-then-not-may_go-clause-left : goal.returns-then-not-may_go-clause-left
returns-then-not-may_go-clause-left c = λ q.
    ap (lookup (is_at (stamp_cmp q))) ((c.get_mut.follows.holds c.in-Some.there.now).0 ∙ set_value_same (is_at (stamp_cmp c.args.stamp.now)) c.args.by_stamp.now.entries c.in-Some.there.now (sym c.in-Some.ensures.value))
