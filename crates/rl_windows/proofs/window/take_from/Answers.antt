-- What is left adds up to what was found less the lines that go.
use Rattle.std.proofs.Common.{◌≡◌, cond, sym, ap, subst, ◌∙◌}
use Rattle.rl_aggregate.specs.TotalsMap.{taken}
use Rattle.rl_windows.specs.Windows.{IsSumOf}
use Rattle.rl_windows.proofs.Moving.{due_less, later_less}
use Rattle.rl_windows.proofs.window.take_from.Goals as goal

pub returns-then-not-is_due-clause-sum : goal.returns-then-not-is_due-clause-sum
returns-then-not-is_due-clause-sum c =
    let b = c.args.buckets.now in
    let k = c.args.element.now.stamp in
    let v = c.args.element.now.volume in
    let may = sym c.take_out.ensures.there ∙ c.if-not-take_out.false in
    let left : c.take_out.new.self ≡ taken b k v = c.take_out.ensures.left ∙ ap (λ t. cond t (taken b k v) b) may in
    let late = sym c.is_due.ensures ∙ c.if-not-is_due.true in
    subst (λ n. IsSumOf c.args.moment n c.args.found.now) (sym left) (later_less c.args.moment b k v c.args.found.now c.requires may late)

pub returns-clause-sum : goal.returns-clause-sum
returns-clause-sum c =
    let b = c.args.buckets.now in
    let k = c.args.element.now.stamp in
    let v = c.args.element.now.volume in
    let may = sym c.take_out.ensures.there ∙ c.if-not-take_out.false in
    let left : c.take_out.new.self ≡ taken b k v = c.take_out.ensures.left ∙ ap (λ t. cond t (taken b k v) b) may in
    let due = sym c.is_due.ensures ∙ c.if-not-is_due.false in
    subst (λ n. IsSumOf c.args.moment n c.take_out-2.new.self) (sym left) (due_less c.args.moment b k v c.args.found.now c.requires may c.take_out-2.new.self due c.take_out-2.ensures)
