-- Those so far that are not covered.
use Rattle.std.proofs.Common.{◌≡◌, take}
use Rattle.rl_parts.specs.Rewriting.{uncovered}
use Rattle.rl_parts.proofs.rewriting.uncovered.Given as goal

abbrev pub invariant-loop-stored : goal.invariant-loop-stored
invariant-loop-stored g l = l.left.items ≡ uncovered (g.C.Covers.covers l.covered) (take l.stored-index l.entries)
