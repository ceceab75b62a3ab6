use Rattle.std.proofs.Common.{ap, subst, ◌∙◌}
use Rattle.std.specs.FinMap.{entries}
use Rattle.std.specs.List.{flat_map}
use Rattle.rl_records.specs.RecordBytes.{volume_bytes}
use Rattle.rl_records.proofs.Put.{Puts, Puts-none, Puts-step, Puts-all}
use Rattle.rl_records.proofs.bytes.put_totals.Goals as goal

pub loop-labels-init : goal.loop-labels-init
loop-labels-init g c = Puts-none (g.T.ByteTarget.contents c.args.target.now) _ _ (ap (flat_map volume_bytes) (c.into_iter-labels-iterator.ensures.into_iter_gives ∙ c.iter-labels-items.ensures))

-- the entry that was put is the first of those that were left
pub loop-labels-preserved : goal.loop-labels-preserved
loop-labels-preserved g c =
    let contents = g.T.ByteTarget.contents in
    let all = flat_map volume_bytes (entries c.args.totals.now) in
    Puts-step (contents c.args.target.now) (contents c.loop-labels.target) (contents c.put_volume.new.target) all (volume_bytes (c.in-Some.labels.now, c.in-Some.volume.now)) (flat_map volume_bytes c.next.new.self)
    (subst (λ left. Puts (contents c.args.target.now) (contents c.loop-labels.target) all (flat_map volume_bytes left)) c.in-Some.ensures.steps c.loop-labels.invariant)
    c.in_ok-put_volume.ensures

pub returns : goal.returns
returns g c =
    let contents = g.T.ByteTarget.contents in
    let all = flat_map volume_bytes (entries c.args.totals.now) in
    Puts-all (contents c.args.target.now) (contents c.loop-labels.target) all
    (subst (λ left. Puts (contents c.args.target.now) (contents c.loop-labels.target) all (flat_map volume_bytes left)) c.in-None.ensures.steps.0 c.loop-labels.invariant)
