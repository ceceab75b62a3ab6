-- Windows without lines have room.
use Rattle.std.proofs.Common.{take, sym, subst}
use Rattle.rl_windows.specs.Filling.{HaveRoom}
use Rattle.rl_windows.proofs.Fillings.{none_have_room}
use Rattle.rl_windows.proofs.filling.Fillings.new.Goals as goal

pub invariant_of-result : goal.invariant_of-result
invariant_of-result c = subst (HaveRoom c.args.most) (sym c.loop-index.invariant) (none_have_room c.args.moment c.args.most (take c.loop-index.index c.args.terms.now))
