-- An element that is there goes.
use Rattle.std.proofs.Common.{◌≡◌, cond, sym, ap, subst, ◌∙◌, ◌∷◌, arith}
use Rattle.std.proofs.lemmas.Bool.{true≢false}
use Rattle.rl_aggregate.specs.TotalsMap.{taken}
use Rattle.rl_windows.specs.Windows.{count_of, StandsFor}
use Rattle.rl_windows.proofs.Moving.{count_of-taken}
use Rattle.rl_windows.proofs.Standing.{goes, is_there, window_of}
use Rattle.rl_windows.proofs.window.Window.take_out.Goals as goal

pub returns-then-not-take_from-clause-stands : goal.returns-then-not-take_from-clause-stands
returns-then-not-take_from-clause-stands c = λ es stands.
    let w = c.self.inside in
    let e = c.args.element.now in
    absurd (true≢false (
    sym (is_there w.seconds w.moment w.most w.buckets e (sym c.is_needed.ensures ∙ c.if-not-is_needed.false) es (subst (λ view. StandsFor view (e ∷ es)) (sym c.self.view_is) stands))
    ∙ sym c.take_from.ensures.there
    ∙ c.if-not-take_from.true
    ))

pub overflow_sub-self : goal.overflow_sub-self
overflow_sub-self c =
    let e = c.args.element.now in
    let counted = c.self.invariant.counted in
    omega (arith, counted, count_of-taken c.self.inside.buckets e.stamp e.volume (sym c.take_from.ensures.there ∙ c.if-not-take_from.false))

pub invariant_of-self-2 : goal.invariant_of-self-2
invariant_of-self-2 c =
    let b = c.self.inside.buckets in
    let e = c.args.element.now in
    let may = sym c.take_from.ensures.there ∙ c.if-not-take_from.false in
    let left : c.take_from.new.buckets ≡ taken b e.stamp e.volume = c.take_from.ensures.left ∙ ap (λ t. cond t (taken b e.stamp e.volume) b) may in
    let counted = c.self.invariant.counted in
    let room = c.self.invariant.room in
    record {
      range = c.self.invariant.range;
      sum = c.take_from.ensures.sum;
      counted = omega (arith, counted, ap (λ n. count_of n) left, count_of-taken b e.stamp e.volume may);
      room = omega (arith, room);
      few = c.self.invariant.few;
    }

pub returns-clause-stands : goal.returns-clause-stands
returns-clause-stands c = λ es stands.
    let w = c.self.inside in
    let e = c.args.element.now in
    let may = sym c.take_from.ensures.there ∙ c.if-not-take_from.false in
    let left : c.take_from.new.buckets ≡ taken w.buckets e.stamp e.volume = c.take_from.ensures.left ∙ ap (λ t. cond t (taken w.buckets e.stamp e.volume) w.buckets) may in
    subst (λ b. StandsFor (window_of w.seconds w.moment w.most b) es) (sym left) (goes w.seconds w.moment w.most w.buckets e (sym c.is_needed.ensures ∙ c.if-not-is_needed.false) may es (subst (λ view. StandsFor view (e ∷ es)) (sym c.self.view_is) stands))
