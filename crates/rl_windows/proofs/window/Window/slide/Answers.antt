-- The lines that are left are those that the later moment needs, and each timestamp that comes or goes is a visit.
use Rattle.std.proofs.Common.{◌≡◌, ◌+◌, ◌≤◌, nat_le, sym, ap, subst, ◌∙◌}
use Rattle.std.specs.FinMap.{entries}
use Rattle.std.specs.List.{filter}
use Rattle.rl_pipeline.specs.Metering.{with_visits}
use Rattle.rl_windows.specs.Buckets.{AreShort}
use Rattle.rl_windows.specs.Windows.{first_needed, is_between, moments, visits, StandsFor}
use Rattle.rl_windows.specs.laws.Alike.{short-entries}
use Rattle.rl_windows.proofs.Sliding.{slides}
use Rattle.rl_windows.proofs.window.Window.slide.Goals as goal

pub returns-clause-stands : goal.returns-clause-stands
returns-clause-stands c = λ es stands.
    let w = c.self.inside in
    let later = subst (λ view. view.moment ≤ c.args.moment) (sym c.self.view_is) c.requires in
    let left : entries c.leave.new.self ≡ filter (λ line. nat_le (first_needed w.seconds c.args.moment) line.0.timestamp) (entries w.buckets) = c.leave.ensures.left ∙ (λ i. filter (λ line. nat_le (c.first_needed-first.ensures i) line.0.timestamp) (entries w.buckets)) in
    slides w.seconds w.moment c.args.moment w.most later w.buckets c.leave.new.self left es (subst (λ view. StandsFor view es) (sym c.self.view_is) stands)

pub returns-clause-visits : goal.returns-clause-visits
returns-clause-visits c =
    let w = c.self.inside in
    let entered : c.moments-entered.result ≡ moments (filter (λ line. is_between (w.moment + 1) (c.args.moment + 1) line.0) (entries w.buckets)) = c.moments-entered.ensures.moments ∙ (λ i. moments (filter (λ line. is_between (c.get.ensures.value i + 1) (c.get-2.ensures.value i + 1) line.0) (entries w.buckets))) in
    let left : c.moments-left.result ≡ moments (filter (λ line. is_between 0 (first_needed w.seconds c.args.moment) line.0) (entries w.buckets)) = c.moments-left.ensures.moments ∙ (λ i. moments (filter (λ line. is_between 0 (c.first_needed-first.ensures i) line.0) (entries w.buckets))) in
    c.count_visits.ensures
    ∙ (λ i. with_visits (entered i + left i) c.args.meter.now)
    ∙ ap (λ view. with_visits (visits view c.args.moment) c.args.meter.now) c.self.view_is

pub returns-clause-lines : goal.returns-clause-lines
returns-clause-lines c = subst (λ view. AreShort (entries view.buckets)) c.self.view_is (short-entries c.self.inside.buckets c.self.invariant.sum.0)

pub returns-in_err-enter-clause-lines : goal.returns-in_err-enter-clause-lines
returns-in_err-enter-clause-lines c = subst (λ view. AreShort (entries view.buckets)) c.self.view_is (short-entries c.self.inside.buckets c.self.invariant.sum.0)
