-- One line takes the room of one.
use Rattle.std.proofs.Common.{◌-◌, ◌+◌, sym, subst, arith}
use Rattle.std.proofs.lemmas.List.{with_items_is}
use Rattle.rl_windows.specs.Filling.{HaveRoom}
use Rattle.rl_windows.proofs.Fillings.{one_of_some}
use Rattle.rl_windows.proofs.filling.Fillings.add.Goals as goal

pub invariant_of-self-2 : goal.invariant_of-self-2
invariant_of-self-2 c =
    let left = c.self.inside.left in
    let more = c.add_to_each.new.each in
    let room = subst (HaveRoom (left - 1 + 1)) (sym c.deref_mut.ensures.value) (subst (λ n. HaveRoom n c.self.inside.each.items) (one_of_some left c.if-self-eq0.false) c.self.invariant) in
    subst (HaveRoom (left - 1)) (sym (with_items_is c.self.inside.each more (omega (arith, c.self.inside.each.ok.0)))) (c.add_to_each.ensures.room (left - 1) room)
