-- One change more is in.
use Rattle.std.proofs.Common.{◌≡◌, ◌<◌, slice_index_or, take, length, sym, subst, ◌∙◌, arith}
use Rattle.std.proofs.lemmas.List.{take_all}
use Rattle.rl_slots.specs.Slots.{with_changes, AllStand, Contents}
use Rattle.rl_windows.specs.Ranges.{elements_for}
use Rattle.rl_slots.specs.laws.Exact.{exact-added}
use Rattle.rl_slots.proofs.Full.{full-many}
use Rattle.rl_slots.proofs.Listing.{one_change}
use Rattle.rl_slots.proofs.slots.Slots.add.Goals as goal

pub loop-index-preserved : goal.loop-index-preserved
loop-index-preserved c =
    let changes = c.args.changes.now in
    let loop = c.loop-index in
    let less : loop.index < length changes = omega (arith, loop.auto.index-end, c.loop-index-test.true) in
    record {
      stand = λ contents before. subst (AllStand c.add_one.new.self) (sym (one_change loop.index changes c.index-changes-index.result contents less c.index-changes-index.is)) (c.in_default.ensures.stand (with_changes (take loop.index changes) contents) (loop.invariant.stand contents before));
      outline = c.add_one.ensures.outline ∙ loop.invariant.outline;
    }

pub returns-in-Err-clause-full : goal.returns-in-Err-clause-full
returns-in-Err-clause-full c = λ is_full most gained entries of_most is exact.
    let loop = c.loop-index in
    let before : Contents = λ _ _ code. elements_for code entries in
    let less : loop.index < length c.args.changes.now = omega (arith, loop.auto.index-end, c.loop-index-test.true) in
    full-many gained entries c.args.self.now loop.self loop.index c.index-changes-index.result most loop.invariant.outline of_most
    (subst (λ cs. loop.index < length cs) is less)
    (subst (λ cs. c.index-changes-index.result ≡ slice_index_or cs loop.index c.index-changes-index.result) is c.index-changes-index.is)
    (subst (λ cs. AllStand loop.self (with_changes (take loop.index cs) before)) is (loop.invariant.stand before exact))
    (c.in-Err.ensures.full is_full)

pub returns-clause-stand : goal.returns-clause-stand
returns-clause-stand c = λ contents before.
    let changes = c.args.changes.now in
    let loop = c.loop-index in
    subst (λ cs. AllStand loop.self (with_changes cs contents)) (take_all loop.index changes (omega (arith, c.loop-index-test.false, loop.auto.index-end))) (loop.invariant.stand contents before)

pub returns-clause-exact : goal.returns-clause-exact
returns-clause-exact c = λ gained entries is exact.
    let changes = c.args.changes.now in
    let loop = c.loop-index in
    let before : Contents = λ _ _ code. elements_for code entries in
    let in_order = take_all loop.index changes (omega (arith, c.loop-index-test.false, loop.auto.index-end)) ∙ is in
    exact-added gained entries c.args.self.now loop.self loop.invariant.outline (subst (λ cs. AllStand loop.self (with_changes cs before)) in_order (loop.invariant.stand before exact))
