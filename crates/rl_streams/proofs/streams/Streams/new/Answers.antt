-- Streams that hold nothing.
use Rattle.std.proofs.Common.{sym, subst}
use Rattle.std.specs.Map.{keys_of}
use Rattle.rl_streams.specs.Selected.{AreSelections}
use Rattle.rl_streams.proofs.Whole.{none_whole}
use Rattle.rl_streams.proofs.streams.Streams.new.Goals as goal

pub invariant_of-result : goal.invariant_of-result
invariant_of-result g c = (none_whole c.args.limits c.new-2.result.entries c.new.result c.new-2.ensures.empty, subst (AreSelections (keys_of c.new-2.result.entries)) (sym c.new-3.ensures) tt)
