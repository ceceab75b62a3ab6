-- Windows at one moment are before no earlier one, and past no later one.
use Rattle.rl_slots.proofs.Asking.{at_moment}
use Rattle.rl_slots.proofs.slot.Slot.new.Goals as goal

pub invariant_of-result : goal.invariant_of-result
invariant_of-result c =
    let at = at_moment c.args.windows.items c.args.t c.requires.moments in
    record { of_terms = c.requires.of_terms; picked = c.requires.picked; since = at.0; moments = at.1 }
