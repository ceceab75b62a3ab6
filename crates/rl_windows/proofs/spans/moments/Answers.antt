-- A range has the lines between two moments, whose times rise.
use Rattle.std.proofs.Common.{◌≡◌, ◌+◌, true, None, length, sym, ap, ◌∙◌, add-zero, zero-add, arith}
use Rattle.std.specs.BTreeMap.Range.{entries_between}
use Rattle.std.specs.FinMap.Entries.{is_sorted}
use Rattle.std.specs.List.{filter}
use Rattle.rl_plain.specs.laws.Bools.{true_from}
use Rattle.rl_plain.specs.laws.TreeMaps.{sorted_entries}
use Rattle.rl_windows.specs.Buckets.{stamp_cmp}
use Rattle.rl_windows.specs.Windows.{is_between, moments}
use Rattle.rl_windows.proofs.Running.{between_is, changes, moments-le, moments_are, times, times_rise, tree_entries}
use Rattle.rl_windows.proofs.spans.moments.Goals as goal

pub loop-stamp-init : goal.loop-stamp-init
loop-stamp-init c =
    let es = c.args.by_stamp.now.entries in
    let sorted : is_sorted stamp_cmp es ≡ true = true_from _ (sorted_entries stamp_cmp es c.range-stamp-items.ensures.ordered) in
    let all : c.into_iter-stamp-iterator.result ≡ filter (λ line. is_between c.args.low c.args.high line.0) es = c.into_iter-stamp-iterator.ensures.into_iter_gives ∙ c.range-stamp-items.ensures.between tt ∙ ap (λ r. entries_between stamp_cmp r.0 r.1 es) c.bounds-span.ensures ∙ between_is c.args.low c.args.high es in
    zero-add _ ∙ ap (λ ls. changes None (times ls)) all ∙ moments_are _ (times_rise (is_between c.args.low c.args.high) es sorted)

pub overflow_add-count : goal.overflow_add-count
overflow_add-count c =
    let es = c.args.by_stamp.now.entries in
    let sorted : is_sorted stamp_cmp es ≡ true = true_from _ (sorted_entries stamp_cmp es c.range-stamp-items.ensures.ordered) in
    let all : c.range-stamp-items.result ≡ filter (λ line. is_between c.args.low c.args.high line.0) es = c.range-stamp-items.ensures.between tt ∙ ap (λ r. entries_between stamp_cmp r.0 r.1 es) c.bounds-span.ensures ∙ between_is c.args.low c.args.high es in
    let so_far : c.loop-stamp.count + changes c.loop-stamp.last (times c.loop-stamp.stamp-iterator) ≡ moments (filter (λ line. is_between c.args.low c.args.high line.0) es) = c.loop-stamp.invariant in
    omega (
      arith,
      so_far,
      ap (λ ls. changes c.loop-stamp.last (times ls)) c.in-Some.ensures.steps,
      c.one_if_new-count.ensures,
      moments-le (is_between c.args.low c.args.high) es sorted,
      c.range-stamp-items.ensures.fits,
      ap (λ ls. length ls) all,
    )

pub returns-clause-moments : goal.returns-clause-moments
returns-clause-moments c =
    let es = c.args.by_stamp.now.entries in
    sym (add-zero c.loop-stamp.count)
    ∙ ap (λ ls. c.loop-stamp.count + changes c.loop-stamp.last (times ls)) (sym c.in-None.ensures.steps.0)
    ∙ c.loop-stamp.invariant
    ∙ ap (λ ls. moments (filter (λ line. is_between c.args.low c.args.high line.0) ls)) (sym (tree_entries es c.range-stamp-items.ensures.ordered))

pub returns-clause-bound : goal.returns-clause-bound
returns-clause-bound c =
    let es = c.args.by_stamp.now.entries in
    let sorted : is_sorted stamp_cmp es ≡ true = true_from _ (sorted_entries stamp_cmp es c.range-stamp-items.ensures.ordered) in
    let all : c.range-stamp-items.result ≡ filter (λ line. is_between c.args.low c.args.high line.0) es = c.range-stamp-items.ensures.between tt ∙ ap (λ r. entries_between stamp_cmp r.0 r.1 es) c.bounds-span.ensures ∙ between_is c.args.low c.args.high es in
    let so_far : c.loop-stamp.count + changes c.loop-stamp.last (times c.loop-stamp.stamp-iterator) ≡ moments (filter (λ line. is_between c.args.low c.args.high line.0) es) = c.loop-stamp.invariant in
    omega (arith, so_far, moments-le (is_between c.args.low c.args.high) es sorted, c.range-stamp-items.ensures.fits, ap (λ ls. length ls) all)
