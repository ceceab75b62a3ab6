-- What is due of the lines is what the range has of the elements.
use Rattle.std.proofs.Common.{◌≡◌, List, sym, ap, subst, ◌∙◌}
use Rattle.std.proofs.lemmas.Result.{IfOk-weaker}
use Rattle.rl_aggregate.specs.Limited.{IsWithin}
use Rattle.rl_windows.specs.Ranges.{code_of, elements_for}
use Rattle.rl_windows.specs.Windows.{in_range, StandsFor}
use Rattle.rl_windows.specs.laws.Ranges.{in_range-elements_for}
use Rattle.rl_windows.specs.declared.element.Element.{Element}
use Rattle.rl_windows.proofs.Standing.{shows, within}
use Rattle.rl_windows.proofs.window.Window.partial.Goals as goal

pub returns-clause-partial : goal.returns-clause-partial
returns-clause-partial c =
    let w = c.self.inside in
    let due = subst (λ view. (es : List Element) → StandsFor view es → w.found ≡ in_range view.seconds view.moment es) c.self.view_is (shows w.seconds w.moment w.most w.buckets w.found c.self.invariant.sum) in
    IfOk-weaker c.shared.result _ _ (λ partial is es stands. is ∙ due es stands) c.shared.ensures.shown

pub returns-clause-scratch : goal.returns-clause-scratch
returns-clause-scratch c =
    let w = c.self.inside in
    let view = c.args.self.now in
    let due = subst (λ view. (es : List Element) → StandsFor view es → w.found ≡ in_range view.seconds view.moment es) c.self.view_is (shows w.seconds w.moment w.most w.buckets w.found c.self.invariant.sum) in
    IfOk-weaker c.shared.result _ _ (λ found is term entries same stands.
    let elements = elements_for (code_of term) entries in
    is ∙ due elements stands ∙ ap (λ seconds. in_range seconds view.moment elements) (sym same) ∙ in_range-elements_for term view.moment entries) c.shared.ensures.shown

pub returns-clause-within : goal.returns-clause-within
returns-clause-within c =
    let w = c.self.inside in
    let most = subst (λ view. IsWithin view.most w.found) c.self.view_is (within w.seconds w.moment w.most w.buckets w.found w.lines c.self.invariant) in
    IfOk-weaker c.shared.result _ _ (λ partial is. subst (λ found. IsWithin c.args.self.now.most found) (sym is) most) c.shared.ensures.shown
