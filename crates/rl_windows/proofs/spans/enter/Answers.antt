-- Lines that come due fit, and come one by one; refused, those that came are taken back.
use Rattle.std.proofs.Common.{◌≡◌, ◌≤◌, true, length, sym, ap, subst, ◌∙◌, arith}
use Rattle.std.specs.BTreeMap.Range.{entries_between}
use Rattle.rl_aggregate.specs.Partials.{most_entries}
use Rattle.rl_windows.specs.Buckets.{buckets_in, stamp_cmp, volume_of, AreShort}
use Rattle.rl_windows.specs.Windows.{is_due, partial_in}
use Rattle.rl_windows.specs.laws.Alike.{short-entries}
use Rattle.rl_windows.proofs.Moving.{when_ok}
use Rattle.rl_windows.proofs.Running.{between_is, due_at, entered_all, entering_few, entering_fits, entering_more, entering_none, span, tree_entries, AreEntering}
use Rattle.rl_windows.proofs.spans.enter.Goals as goal

pub loop-stamp-init : goal.loop-stamp-init
loop-stamp-init c =
    let es = c.args.by_stamp.now.entries in
    let lines = span c.args.from c.args.to es in
    let all : c.into_iter-stamp-iterator.result ≡ lines = c.into_iter-stamp-iterator.ensures.into_iter_gives ∙ c.range-stamp-items.ensures.between tt ∙ ap (λ r. entries_between stamp_cmp r.0 r.1 es) c.bounds-span.ensures ∙ between_is _ _ es in
    let sum = c.requires.sum.1 ∙ ap (λ ls. partial_in (is_due c.args.from) ls) (tree_entries es c.range-stamp-items.ensures.ordered) in
    entering_none lines (due_at c.args.from es) c.into_iter-stamp-iterator.result c.args.found.now all sum

pub add-requires : goal.add-requires
add-requires c =
    let es = c.args.by_stamp.now.entries in
    let tree = tree_entries es c.range-stamp-items.ensures.ordered in
    let short = subst AreShort tree (short-entries (buckets_in es) c.requires.sum.0) in
    let few = subst (λ ls. (volume_of (λ _. true) ls).count ≤ most_entries) tree c.requires.few in
    let h = subst (λ r. AreEntering c.loop-stamp.entered (span c.args.from c.args.to es) (due_at c.args.from es) r c.loop-stamp.found) c.in-Some.ensures.steps c.loop-stamp.invariant in
    entering_fits c.loop-stamp.entered c.args.from c.args.to es short (c.in-Some.stamp.now, c.in-Some.volume.now) c.next.new.self c.loop-stamp.found h c.requires.later few

pub take_back-requires-clause-short : goal.take_back-requires-clause-short
take_back-requires-clause-short c =
    let es = c.args.by_stamp.now.entries in
    subst AreShort (tree_entries es c.range-stamp-items.ensures.ordered) (short-entries (buckets_in es) c.requires.sum.0)

pub returns-then-is_err-clause-err : goal.returns-then-is_err-clause-err
returns-then-is_err-clause-err c =
    let es = c.args.by_stamp.now.entries in
    c.take_back.ensures
    ∙ sym (c.requires.sum.1 ∙ ap (λ ls. partial_in (is_due c.args.from) ls) (tree_entries es c.range-stamp-items.ensures.ordered))

pub overflow_add-entered : goal.overflow_add-entered
overflow_add-entered c =
    let es = c.args.by_stamp.now.entries in
    let lines = span c.args.from c.args.to es in
    let all : c.range-stamp-items.result ≡ lines = c.range-stamp-items.ensures.between tt ∙ ap (λ r. entries_between stamp_cmp r.0 r.1 es) c.bounds-span.ensures ∙ between_is _ _ es in
    omega (
      arith,
      entering_few c.loop-stamp.entered lines (due_at c.args.from es) c.loop-stamp.stamp-iterator c.loop-stamp.found c.loop-stamp.invariant,
      c.range-stamp-items.ensures.fits,
      ap (λ ls. length ls) all,
    )

pub loop-stamp-preserved : goal.loop-stamp-preserved
loop-stamp-preserved c =
    let es = c.args.by_stamp.now.entries in
    let short = subst AreShort (tree_entries es c.range-stamp-items.ensures.ordered) (short-entries (buckets_in es) c.requires.sum.0) in
    let h = subst (λ r. AreEntering c.loop-stamp.entered (span c.args.from c.args.to es) (due_at c.args.from es) r c.loop-stamp.found) c.in-Some.ensures.steps c.loop-stamp.invariant in
    entering_more c.loop-stamp.entered c.args.from c.args.to es short (c.in-Some.stamp.now, c.in-Some.volume.now) c.next.new.self c.loop-stamp.found h c.add.new.self (when_ok c.add.result c.add.ensures.one_more (sym c.is_err.ensures.value ∙ c.if-is_err.false))

pub returns-clause-sum : goal.returns-clause-sum
returns-clause-sum c =
    let es = c.args.by_stamp.now.entries in
    let tree = tree_entries es c.range-stamp-items.ensures.ordered in
    let short = subst AreShort tree (short-entries (buckets_in es) c.requires.sum.0) in (
      c.requires.sum.0,
      entered_all c.loop-stamp.entered c.args.from c.args.to c.requires.later es c.loop-stamp.stamp-iterator c.loop-stamp.found short c.in-None.ensures.steps.0 c.loop-stamp.invariant
          ∙ ap (λ ls. partial_in (is_due c.args.to) ls) (sym tree),
    )
