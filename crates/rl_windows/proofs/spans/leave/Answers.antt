-- The first line goes; what is left adds up, and where no early line is left, the others are all.
use Rattle.std.proofs.Common.{nat_le, sym, ap, ◌∙◌, arith}
use Rattle.std.specs.FinMap.{entries}
use Rattle.std.specs.List.{filter}
use Rattle.rl_windows.specs.Buckets.{buckets_in}
use Rattle.rl_windows.proofs.Running.{keeps_all, popped_count, popped_left, popped_sum, tree_entries}
use Rattle.rl_aggregate.specs.declared.volume.Volume.{Volume}
use Rattle.rl_windows.specs.declared.element.Stamp.{Stamp}
use Rattle.rl_windows.proofs.spans.leave.Goals as goal

pub overflow_add-gone : goal.overflow_add-gone
overflow_add-gone c =
    let line : Stamp × Volume = (c.in-Some.stamp, c.in-Some.volume) in
    let count = c.loop-stamp.invariant.count in
    let few = c.requires.few in
    omega (arith, count, few, popped_count c.args.high c.args.moment c.loop-stamp.by_stamp.entries c.pop_before.new.by_stamp.entries line c.in-Some.ensures.ordered c.in-Some.ensures.first)

pub loop-stamp-preserved-in-Some : goal.loop-stamp-preserved-in-Some
loop-stamp-preserved-in-Some c =
    let line : Stamp × Volume = (c.in-Some.stamp, c.in-Some.volume) in
    let es = c.loop-stamp.by_stamp.entries in
    let rest = c.pop_before.new.by_stamp.entries in
    let count = c.loop-stamp.invariant.count in
    record {
      sum = popped_sum c.args.high c.args.moment es rest line c.in-Some.ensures.ordered c.in-Some.ensures.first c.in-Some.ensures.before c.requires.due c.loop-stamp.found c.take_out.new.self c.loop-stamp.invariant.sum c.take_out.ensures;
      left = popped_left c.args.high c.args.moment es rest line c.in-Some.ensures.ordered c.in-Some.ensures.first c.in-Some.ensures.before ∙ c.loop-stamp.invariant.left;
      count = omega (arith, count, popped_count c.args.high c.args.moment es rest line c.in-Some.ensures.ordered c.in-Some.ensures.first);
    }

pub loop-stamp-preserved : goal.loop-stamp-preserved
loop-stamp-preserved c =
    let line : Stamp × Volume = (c.in-Some.stamp, c.in-Some.volume) in
    let es = c.loop-stamp.by_stamp.entries in
    let rest = c.pop_before.new.by_stamp.entries in
    let count = c.loop-stamp.invariant.count in
    record {
      sum = popped_sum c.args.high c.args.moment es rest line c.in-Some.ensures.ordered c.in-Some.ensures.first c.in-Some.ensures.before c.requires.due c.loop-stamp.found c.take_out.new.self c.loop-stamp.invariant.sum c.take_out.ensures;
      left = popped_left c.args.high c.args.moment es rest line c.in-Some.ensures.ordered c.in-Some.ensures.first c.in-Some.ensures.before ∙ c.loop-stamp.invariant.left;
      count = omega (arith, count, popped_count c.args.high c.args.moment es rest line c.in-Some.ensures.ordered c.in-Some.ensures.first);
    }

pub returns-clause-left : goal.returns-clause-left
returns-clause-left c =
    let es = c.loop-stamp.by_stamp.entries in
    let tree = tree_entries es c.in_default.ensures.ordered in
    ap (λ xs. entries (buckets_in xs)) c.in_default.ensures.none
    ∙ tree
    ∙ sym (keeps_all c.args.high es c.in_default.ensures.rest)
    ∙ ap (λ xs. filter (λ line. nat_le c.args.high line.0.timestamp) xs) (sym tree)
    ∙ c.loop-stamp.invariant.left
