-- The group has the name, or is one more that has another.
use Rattle.std.proofs.Common.{◌+◌, suc, ◌≡◌, true, false, map, take, None, sym, subst, arith}
use Rattle.rl_session.specs.Engine.{number_named}
use Rattle.rl_session.specs.WorldEngine.{listed}
use Rattle.rl_session.proofs.Worlds.{named_test, none_more, named_here}
use Rattle.rl_session.proofs.world_engine.group_named.Goals as goal

pub returns-then-eq : goal.returns-then-eq
returns-then-eq g c =
    let name = c.args.name.now in
    let test = named_test name c.as_str.result.now c.in_ok-book.book.now c.group.result.now true c.as_str.ensures c.group.ensures.now c.if-eq.ensures in
    named_here name c.args.world.now.books c.loop-number.number c.in_ok-book.book.now c.loop-number.invariant (sym c.in_ok-book.ensures) test

pub loop-number-preserved : goal.loop-number-preserved
loop-number-preserved g c =
    let name = c.args.name.now in
    let test = named_test name c.as_str.result.now c.in_ok-book.book.now c.group.result.now false c.as_str.ensures c.group.ensures.now c.if-eq.ensures in
    let next : suc c.loop-number.number ≡ c.loop-number.number + 1 = omega arith in
    subst (λ n. number_named name (map listed (take n c.args.world.now.books)) ≡ None) next
    (none_more name c.args.world.now.books c.loop-number.number c.in_ok-book.book.now c.loop-number.invariant (sym c.in_ok-book.ensures) test)
