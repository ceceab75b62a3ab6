-- Lines that come fit, and add up with those before. Where they are refused, what is due is what it was.
use Rattle.std.proofs.Common.{sym, ap, subst, ◌∙◌}
use Rattle.std.proofs.lemmas.Result.{on_ok_weaker}
use Rattle.rl_aggregate.specs.Partials.{Fits, VolumeFits}
use Rattle.rl_aggregate.specs.Runs.{with_volume}
use Rattle.rl_aggregate.specs.TotalsMap.{added, plus, total_at}
use Rattle.rl_windows.specs.Windows.{is_due, IsSumOf}
use Rattle.rl_windows.specs.laws.Alike.{bucket-fits, more-fits}
use Rattle.rl_windows.proofs.Moving.{back, due_more, later_more, when_err, when_ok}
use Rattle.rl_windows.proofs.window.add_to.Goals as goal

pub add-requires : goal.add-requires
add-requires c =
    let e = c.args.element.now in
    subst (λ s. VolumeFits (plus (total_at c.args.buckets.now s) e.volume)) (sym c.in_ok-stamp.ensures) (bucket-fits c.args.buckets.now e.stamp e.volume c.requires.sum.0 c.requires.short c.requires.few)

pub returns-then-not-is_due-clause-sum : goal.returns-then-not-is_due-clause-sum
returns-then-not-is_due-clause-sum c =
    let e = c.args.element.now in
    let late = sym c.is_due.ensures ∙ c.if-not-is_due.true in
    on_ok_weaker c.add.result (λ ok. subst (λ b. IsSumOf c.args.moment b c.args.found.now) (sym (ok ∙ ap (λ s. added c.args.buckets.now s e.volume) c.in_ok-stamp.ensures)) (later_more c.args.moment c.args.buckets.now e.stamp e.volume c.args.found.now c.requires.sum c.requires.short late)) c.add.ensures.ok

pub add-requires-2 : goal.add-requires-2
add-requires-2 c =
    let e = c.args.element.now in
    subst (λ found. Fits (with_volume e.stamp.labels e.volume found)) (sym c.requires.sum.1) (more-fits (is_due c.args.moment) c.args.buckets.now e.stamp e.volume c.requires.sum.0 c.requires.short c.requires.few)

pub add-requires-3 : goal.add-requires-3
add-requires-3 c =
    let e = c.args.element.now in
    subst (λ s. VolumeFits (plus (total_at c.args.buckets.now s) e.volume)) (sym c.in_ok-stamp.ensures) (bucket-fits c.args.buckets.now e.stamp e.volume c.requires.sum.0 c.requires.short c.requires.few)

pub returns-then-is_err-clause-err : goal.returns-then-is_err-clause-err
returns-then-is_err-clause-err c =
    let e = c.args.element.now in (
      when_err c.add-3.result c.add-3.ensures.err (sym c.is_err.ensures.value ∙ c.if-is_err.true),
      back c.args.moment c.args.buckets.now e.stamp e.volume c.args.found.now c.add-2.new.self c.take_out.new.self c.requires.sum c.in_ok-add.ensures.one_more c.take_out.ensures,
    )

pub returns-clause-sum : goal.returns-clause-sum
returns-clause-sum c =
    let e = c.args.element.now in
    let due = sym c.is_due.ensures ∙ c.if-not-is_due.false in
    let ok = when_ok c.add-3.result c.add-3.ensures.ok (sym c.is_err.ensures.value ∙ c.if-is_err.false) in
    subst (λ b. IsSumOf c.args.moment b c.add-2.new.self) (sym (ok ∙ ap (λ s. added c.args.buckets.now s e.volume) c.in_ok-stamp.ensures)) (due_more c.args.moment c.args.buckets.now e.stamp e.volume c.args.found.now c.requires.sum c.requires.short c.add-2.new.self due c.in_ok-add.ensures.one_more)
