-- One change less is in.
use Rattle.std.proofs.Common.{◌≡◌, ◌+◌, ◌-◌, take, sym, ap, subst, ◌∙◌, arith}
use Rattle.rl_slots.specs.Slots.{with_changes, AllStand, Contents}
use Rattle.rl_windows.specs.Ranges.{elements_for}
use Rattle.rl_slots.specs.laws.Exact.{exact-changed}
use Rattle.rl_slots.proofs.Listing.{one_change}
use Rattle.rl_slots.proofs.slots.Slots.take_out.Goals as goal

pub loop-left-preserved : goal.loop-left-preserved
loop-left-preserved c =
    let changes = c.args.changes.now in
    let loop = c.loop-left in
    let left = loop.left - 1 in
    let again : left + 1 ≡ loop.left = omega (arith, c.loop-left-test.true) in
    record {
      stand = λ contents before. c.take_one.ensures.stand (with_changes (take left changes) contents)
          (subst (AllStand loop.self) (ap (λ n. with_changes (take n changes) contents) (sym again) ∙ one_change left changes c.index-changes-left.result contents (omega (arith, again, loop.invariant.within)) c.index-changes-left.is) (loop.invariant.stand contents before));
      outline = c.take_one.ensures.outline ∙ loop.invariant.outline;
      within = omega (arith, loop.invariant.within);
    }

pub returns-clause-stand : goal.returns-clause-stand
returns-clause-stand c = λ contents before.
    let none : c.loop-left.left ≡ 0 = omega (arith, c.loop-left-test.false) in
    subst (λ n. AllStand c.loop-left.self (with_changes (take n c.args.changes.now) contents)) none (c.loop-left.invariant.stand contents before)

pub returns-clause-exact : goal.returns-clause-exact
returns-clause-exact c = λ lost entries slots same is exact.
    let loop = c.loop-left in
    let before : Contents = λ _ _ code. elements_for code entries in
    let none : loop.left ≡ 0 = omega (arith, c.loop-left-test.false) in
    subst (λ n. AllStand loop.self (with_changes (take n c.args.changes.now) before)) none
    (loop.invariant.stand before (subst (λ cs. AllStand c.args.self.now (with_changes cs before)) (sym is) (exact-changed lost entries slots c.args.self.now (sym same) exact)))
