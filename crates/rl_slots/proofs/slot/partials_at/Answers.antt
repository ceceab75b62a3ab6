-- One window more was asked.
use Rattle.std.proofs.Common.{◌≡◌, ◌<◌, ◌+◌, ◌∷◌, [], ◌++◌, length, map, slice_index_or, slice_set, take, sym, ap, subst, ◌∙◌, arith}
use Rattle.std.specs.List.{AllByRecursion, AllZip}
use Rattle.std.proofs.lemmas.List.{length-append, set-get_or, take_more}
use Rattle.rl_aggregate.specs.Limited.{IsWithin}
use Rattle.rl_aggregate.specs.Partials.{partial}
use Rattle.rl_windows.specs.Windows.{in_range}
use Rattle.rl_slots.specs.Slots.{key_of, AreExactIn, IsPartialAt, IsSumAt, StandIn}
use Rattle.rl_slots.specs.laws.Alike.{at_index}
use Rattle.rl_slots.specs.declared.range_window.RangeWindow.{RangeWindow}
use Rattle.rl_slots.proofs.Asking.{found, shows_at, sums_at}
use Rattle.rl_slots.proofs.Setting.{all_one_more, one_pair}
use Rattle.rl_slots.proofs.slot.partials_at.Goals as goal

pub loop-index-preserved : goal.loop-index-preserved
loop-index-preserved c =
    let old = c.args.windows.now in
    let indices = c.args.indices.now in
    let loop = c.loop-index in
    let windows = loop.windows in
    let k = slice_index_or indices loop.index-index 0 in
    let d = c.index-windows-index.result in
    let x = slice_index_or windows k d in
    let less : loop.index-index < length indices = omega (arith, c.loop-index-test.true, loop.auto.index-index-end) in
    let there = found old windows indices loop.index-index d less c.requires.there (ap (map key_of) loop.invariant.same) in
    let moment : x.window.moment ≡ c.args.t = at_index (λ (it : RangeWindow). it.window.moment ≡ c.args.t) windows k x there (subst (AllByRecursion (λ it. it.window.moment ≡ c.args.t)) (sym loop.invariant.same) c.requires.moments) in
    record {
      each = ap length c.in_ok-push.ensures.items ∙ length-append loop.partials.items (c.in_ok-partial.partial ∷ []) ∙ ap (λ n. n + 1) loop.invariant.each;
      partials = λ entries exact.
          let R = IsPartialAt old entries c.args.t in
          subst (λ is. AllZip R is c.push.new.self.items) (sym (take_more indices loop.index-index 0 less))
          (subst (AllZip R (take loop.index-index indices ++ k ∷ [])) (sym c.in_ok-push.ensures.items)
          (one_pair R (take loop.index-index indices) loop.partials.items k c.in_ok-partial.partial (loop.invariant.partials entries exact)
          (shows_at old windows entries c.args.t k x c.in_ok-partial.partial there (ap (map key_of) loop.invariant.same) (subst (λ ws. AreExactIn ws entries) (sym loop.invariant.same) exact)
          (λ term own seconds stands. c.in_ok-partial.ensures.partial term own seconds stands ∙ ap (partial own term) moment))));
      sums = λ contents stand.
          let R = IsSumAt old c.args.t contents in
          subst (λ is. AllZip R is c.push.new.self.items) (sym (take_more indices loop.index-index 0 less))
          (subst (AllZip R (take loop.index-index indices ++ k ∷ [])) (sym c.in_ok-push.ensures.items)
          (one_pair R (take loop.index-index indices) loop.partials.items k c.in_ok-partial.partial (loop.invariant.sums contents stand)
          (sums_at old windows contents c.args.t k x c.in_ok-partial.partial there (ap (map key_of) loop.invariant.same) (subst (λ ws. StandIn ws contents) (sym loop.invariant.same) stand)
          (λ es stands. c.in_ok-partial.ensures.sum es stands ∙ ap (λ m. in_range x.window.seconds m es) moment))));
      within = λ most all.
          let most_is : x.window.most ≡ most = at_index (λ (it : RangeWindow). it.window.most ≡ most) windows k x there (subst (AllByRecursion (λ it. it.window.most ≡ most)) (sym loop.invariant.same) all) in
          subst (AllByRecursion (IsWithin most)) (sym c.in_ok-push.ensures.items)
          (all_one_more (IsWithin most) loop.partials.items c.in_ok-partial.partial (loop.invariant.within most all) (subst (λ m. IsWithin m c.in_ok-partial.partial) most_is c.in_ok-partial.ensures.within));
      same = ap (slice_set windows k) c.partial.ensures.same ∙ set-get_or windows k d ∙ loop.invariant.same;
    }

pub returns-clause-each : goal.returns-clause-each
returns-clause-each c = let each = c.loop-index.invariant.each in omega (arith, each, c.loop-index-test.false, c.loop-index.auto.index-index-end)
