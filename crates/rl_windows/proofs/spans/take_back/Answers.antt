-- Those that are left go one by one.
use Rattle.std.proofs.Common.{◌≡◌, sym, ap, subst, ◌∙◌}
use Rattle.std.specs.BTreeMap.Range.{entries_between}
use Rattle.rl_windows.specs.Buckets.{stamp_cmp}
use Rattle.rl_windows.specs.Windows.{is_between, is_due}
use Rattle.rl_windows.specs.laws.Alike.{have-lines, short-filter, HaveLines}
use Rattle.rl_windows.proofs.Running.{between_is, due_at, left_end, left_less, left_start, span}
use Rattle.rl_aggregate.specs.declared.volume.Volume.{Volume}
use Rattle.rl_windows.specs.declared.element.Stamp.{Stamp}
use Rattle.rl_windows.proofs.spans.take_back.Goals as goal

pub loop-stamp-init : goal.loop-stamp-init
loop-stamp-init c =
    let es = c.args.by_stamp.now.entries in
    let lines = span c.args.from c.args.to es in
    let all : c.into_iter-stamp-iterator.result ≡ lines = c.into_iter-stamp-iterator.ensures.into_iter_gives ∙ c.range-stamp-items.ensures.between tt ∙ ap (λ r. entries_between stamp_cmp r.0 r.1 es) c.bounds-span.ensures ∙ between_is _ _ es in (
      left_start c.args.entered lines (due_at c.args.from es) c.into_iter-stamp-iterator.result c.args.found.now all c.requires.sum,
      subst HaveLines (sym all) (have-lines lines (short-filter (is_between _ _) es c.requires.short)),
    )

pub loop-stamp-preserved : goal.loop-stamp-preserved
loop-stamp-preserved c =
    let es = c.args.by_stamp.now.entries in
    let others = due_at c.args.from es in
    let line : Stamp × Volume = (c.in-Some.stamp.now, c.in-Some.volume.now) in (
      left_less c.loop-stamp.left others c.loop-stamp.stamp-iterator c.next.new.self line c.loop-stamp.found c.take_out.new.self c.loop-stamp.invariant.1 (have-lines others (short-filter (is_due c.args.from) es c.requires.short)) c.if-left-eq0.false c.in-Some.ensures.steps c.loop-stamp.invariant.0 c.take_out.ensures,
      (subst HaveLines c.in-Some.ensures.steps c.loop-stamp.invariant.1).1,
    )

pub returns : goal.returns
returns c = left_end c.loop-stamp.left (due_at c.args.from c.args.by_stamp.now.entries) c.loop-stamp.stamp-iterator c.loop-stamp.found c.in-None.ensures.steps.0 c.loop-stamp.invariant.0
