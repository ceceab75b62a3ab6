-- One window more moved on.
use Rattle.std.proofs.Common.{◌≡◌, ℕ, ◌<◌, ◌≤◌, ◌+◌, drop, length, slice_index_or, slice_set, take, Some, sym, ap, subst, ◌∙◌, arith}
use Rattle.std.specs.Prelude.{slice_get}
use Rattle.std.specs.List.{AllByRecursion}
use Rattle.std.proofs.lemmas.List.{drop-set-lt, length-map, take_more_set}
use Rattle.std.proofs.lemmas.List.Sums.{sum_by-drop_more}
use Rattle.std.proofs.lemmas.Option.{slice_get-get_or}
use Rattle.rl_windows.specs.Ranges.{elements_for}
use Rattle.rl_windows.specs.Windows.{visits}
use Rattle.rl_windows.specs.declared.range.RangeCode.{RangeCode}
use Rattle.rl_slots.specs.Slots.{key_of, visits_by, visits_of}
use Rattle.rl_slots.specs.laws.Alike.{at_index}
use Rattle.rl_slots.specs.declared.range_window.RangeWindow.{RangeWindow}
use Rattle.rl_slots.proofs.Setting.{all_one_more, kept_at, set_keeps, set_seen}
use Rattle.rl_slots.proofs.Visiting.{stands_at, visits-more}
use Rattle.rl_slots.proofs.slot.slide_each.Goals as goal

pub returns-in_err-slide-clause-stand : goal.returns-in_err-slide-clause-stand
returns-in_err-slide-clause-stand c =
    let windows = c.loop-index.windows in
    let k = c.loop-index.index in
    let x = slice_index_or windows k c.index-windows-index.result in
    let y = c.slide.new.self in
    let less : k < length windows = omega (arith, c.loop-index-test.true, c.loop-index.auto.index-end, length-map windows key_of, ap length c.loop-index.invariant.ranges, length-map c.args.windows.now key_of) in
    let there : slice_get windows k ≡ Some x = slice_get-get_or windows k c.index-windows-index.result less in
    λ contents before. kept_at windows k contents x y there (ap (λ (p : RangeCode × ℕ). p.0) c.slide.ensures.range) c.slide.ensures.stands (c.loop-index.invariant.stand contents before)

pub returns-in_err-slide-clause-ranges : goal.returns-in_err-slide-clause-ranges
returns-in_err-slide-clause-ranges c =
    let windows = c.loop-index.windows in
    let k = c.loop-index.index in
    let x = slice_index_or windows k c.index-windows-index.result in
    let y = c.slide.new.self in
    let less : k < length windows = omega (arith, c.loop-index-test.true, c.loop-index.auto.index-end, length-map windows key_of, ap length c.loop-index.invariant.ranges, length-map c.args.windows.now key_of) in
    let there : slice_get windows k ≡ Some x = slice_get-get_or windows k c.index-windows-index.result less in
    set_seen key_of windows k x y there c.slide.ensures.range ∙ c.loop-index.invariant.ranges

pub returns-in_err-slide-clause-most : goal.returns-in_err-slide-clause-most
returns-in_err-slide-clause-most c = λ most all.
    let windows = c.loop-index.windows in
    let k = c.loop-index.index in
    let x = slice_index_or windows k c.index-windows-index.result in
    let y = c.slide.new.self in
    let less : k < length windows = omega (arith, c.loop-index-test.true, c.loop-index.auto.index-end, length-map windows key_of, ap length c.loop-index.invariant.ranges, length-map c.args.windows.now key_of) in
    let there : slice_get windows k ≡ Some x = slice_get-get_or windows k c.index-windows-index.result less in
    set_keeps (λ it. it.window.most ≡ most) windows k x y there (λ is. c.slide.ensures.most ∙ is) (c.loop-index.invariant.most most all)

pub returns-in_err-slide-clause-visits : goal.returns-in_err-slide-clause-visits
returns-in_err-slide-clause-visits c =
    let windows = c.loop-index.windows in
    let k = c.loop-index.index in
    let x = slice_index_or windows k c.index-windows-index.result in
    let y = c.slide.new.self in
    let less : k < length windows = omega (arith, c.loop-index-test.true, c.loop-index.auto.index-end, length-map windows key_of, ap length c.loop-index.invariant.ranges, length-map c.args.windows.now key_of) in
    let there : slice_get windows k ≡ Some x = slice_get-get_or windows k c.index-windows-index.result less in
    let left = sum_by-drop_more (λ (it : RangeWindow). visits it.window c.args.t) windows k c.index-windows-index.result less in
    (c.slide.ensures.visits.0 ∙ c.loop-index.invariant.runs, omega (arith, c.slide.ensures.visits.1, c.loop-index.invariant.visits, left))

pub returns-in_err-slide-clause-moments : goal.returns-in_err-slide-clause-moments
returns-in_err-slide-clause-moments c =
    let windows = c.loop-index.windows in
    let k = c.loop-index.index in
    let x = slice_index_or windows k c.index-windows-index.result in
    let y = c.slide.new.self in
    let less : k < length windows = omega (arith, c.loop-index-test.true, c.loop-index.auto.index-end, length-map windows key_of, ap length c.loop-index.invariant.ranges, length-map c.args.windows.now key_of) in
    let there : slice_get windows k ≡ Some x = slice_get-get_or windows k c.index-windows-index.result less in
    set_keeps (λ it. it.window.moment ≤ c.args.t) windows k x y there (λ _. c.slide.ensures.moment.1) c.loop-index.invariant.moments

pub returns-in_err-slide-clause-since : goal.returns-in_err-slide-clause-since
returns-in_err-slide-clause-since c = λ since all.
    let windows = c.loop-index.windows in
    let k = c.loop-index.index in
    let x = slice_index_or windows k c.index-windows-index.result in
    let y = c.slide.new.self in
    let less : k < length windows = omega (arith, c.loop-index-test.true, c.loop-index.auto.index-end, length-map windows key_of, ap length c.loop-index.invariant.ranges, length-map c.args.windows.now key_of) in
    let there : slice_get windows k ≡ Some x = slice_get-get_or windows k c.index-windows-index.result less in
    set_keeps (λ it. since ≤ it.window.moment) windows k x y there (λ early. omega (arith, early, c.slide.ensures.moment.0)) (c.loop-index.invariant.since since all)

pub returns-in_err-slide-clause-few : goal.returns-in_err-slide-clause-few
returns-in_err-slide-clause-few c = λ entries since exact all.
    let windows = c.loop-index.windows in
    let k = c.loop-index.index in
    let x = slice_index_or windows k c.index-windows-index.result in
    let y = c.slide.new.self in
    let less : k < length windows = omega (arith, c.loop-index-test.true, c.loop-index.auto.index-end, length-map windows key_of, ap length c.loop-index.invariant.ranges, length-map c.args.windows.now key_of) in
    let there : slice_get windows k ≡ Some x = slice_get-get_or windows k c.index-windows-index.result less in (
      c.slide.ensures.visits.0 ∙ c.loop-index.invariant.runs,
      omega (
        arith,
        visits-more (visits_by entries since c.args.t) c.args.windows.now windows k x there c.loop-index.invariant.ranges (visits x.window c.args.t) c.args.meter.now.visits c.loop-index.meter.visits c.slide.new.meter.visits
            (c.slide.ensures.few entries since (at_index (λ it. since ≤ it.window.moment) windows k x there (c.loop-index.invariant.since since all)) (stands_at windows entries k x there (c.loop-index.invariant.stand (λ _ code. elements_for code entries) exact)))
            c.slide.ensures.visits.1 (c.loop-index.invariant.few entries since exact all),
      ),
    )

pub loop-index-preserved : goal.loop-index-preserved
loop-index-preserved c =
    let windows = c.loop-index.windows in
    let k = c.loop-index.index in
    let x = slice_index_or windows k c.index-windows-index.result in
    let y = c.slide.new.self in
    let less : k < length windows = omega (arith, c.loop-index-test.true, c.loop-index.auto.index-end, length-map windows key_of, ap length c.loop-index.invariant.ranges, length-map c.args.windows.now key_of) in
    let there : slice_get windows k ≡ Some x = slice_get-get_or windows k c.index-windows-index.result less in
    let left = sum_by-drop_more (λ (it : RangeWindow). visits it.window c.args.t) windows k c.index-windows-index.result less in
    let rest : visits_of (drop (k + 1) (slice_set windows k y)) c.args.t ≡ visits_of (drop (k + 1) windows) c.args.t = ap (λ ws. visits_of ws c.args.t) (drop-set-lt (k + 1) windows k y (omega arith)) in
    record {
      stand = λ contents before. kept_at windows k contents x y there (ap (λ (p : RangeCode × ℕ). p.0) c.slide.ensures.range) c.slide.ensures.stands (c.loop-index.invariant.stand contents before);
      ranges = set_seen key_of windows k x y there c.slide.ensures.range ∙ c.loop-index.invariant.ranges;
      most = λ most all. set_keeps (λ it. it.window.most ≡ most) windows k x y there (λ is. c.slide.ensures.most ∙ is) (c.loop-index.invariant.most most all);
      moments = set_keeps (λ it. it.window.moment ≤ c.args.t) windows k x y there (λ _. c.slide.ensures.moment.1) c.loop-index.invariant.moments;
      since = λ since all. set_keeps (λ it. since ≤ it.window.moment) windows k x y there (λ early. omega (arith, early, c.slide.ensures.moment.0)) (c.loop-index.invariant.since since all);
      moved = subst (AllByRecursion (λ it. it.window.moment ≡ c.args.t)) (sym (take_more_set windows k y less)) (all_one_more (λ it. it.window.moment ≡ c.args.t) (take k windows) y c.loop-index.invariant.moved c.in_ok-slide.ensures.moved);
      runs = c.slide.ensures.visits.0 ∙ c.loop-index.invariant.runs;
      visits = omega (arith, c.slide.ensures.visits.1, c.loop-index.invariant.visits, left, rest);
      few = λ entries since exact all. visits-more (visits_by entries since c.args.t) c.args.windows.now windows k x there c.loop-index.invariant.ranges (visits x.window c.args.t) c.args.meter.now.visits c.loop-index.meter.visits c.slide.new.meter.visits
          (c.slide.ensures.few entries since (at_index (λ it. since ≤ it.window.moment) windows k x there (c.loop-index.invariant.since since all)) (stands_at windows entries k x there (c.loop-index.invariant.stand (λ _ code. elements_for code entries) exact)))
          c.slide.ensures.visits.1 (c.loop-index.invariant.few entries since exact all);
    }
