-- An element that is needed comes.
use Rattle.std.proofs.Common.{◌+◌, ◌≤◌, cond, ◌∷◌, sym, ap, subst, ◌∙◌, arith}
use Rattle.rl_aggregate.specs.TotalsMap.{added}
use Rattle.rl_windows.specs.Windows.{count_of, with_element, StandsFor}
use Rattle.rl_windows.specs.laws.Alike.{count_of-added}
use Rattle.rl_windows.proofs.Standing.{comes, window_of}
use Rattle.rl_windows.proofs.window.Window.add.Goals as goal

pub invariant_of-self-2 : goal.invariant_of-self-2
invariant_of-self-2 c =
    let e = c.args.element.now in
    let counted = c.self.invariant.counted in
    let room = subst (λ w. count_of w.buckets + e.volume.count ≤ w.most) (sym c.self.view_is) c.requires.room in
    record {
      range = c.self.invariant.range;
      sum = c.in_ok-add_to.ensures.sum;
      counted = omega (arith, counted, ap (λ b. count_of b) c.in_ok-add_to.ensures.ok, count_of-added c.self.inside.buckets e.stamp e.volume);
      room = omega (arith, counted, room);
      few = c.self.invariant.few;
    }

pub returns-clause-ok : goal.returns-clause-ok
returns-clause-ok c =
    let w = c.self.inside in
    let e = c.args.element.now in
    let more = window_of w.seconds w.moment w.most (added w.buckets e.stamp e.volume) in
    (λ i. window_of w.seconds w.moment w.most (c.in_ok-add_to.ensures.ok i))
    ∙ sym (ap (λ b. cond b more (window_of w.seconds w.moment w.most w.buckets)) (sym c.is_needed.ensures ∙ c.if-not-is_needed.false))
    ∙ ap (with_element e) c.self.view_is

pub returns-clause-stands : goal.returns-clause-stands
returns-clause-stands c = λ es stands.
    let w = c.self.inside in
    let e = c.args.element.now in
    subst (λ b. StandsFor (window_of w.seconds w.moment w.most b) (e ∷ es)) (sym c.in_ok-add_to.ensures.ok) (comes w.seconds w.moment w.most w.buckets e (sym c.is_needed.ensures ∙ c.if-not-is_needed.false) c.requires.short es (subst (λ view. StandsFor view es) (sym c.self.view_is) stands))
