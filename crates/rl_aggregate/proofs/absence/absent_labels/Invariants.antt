-- The labels so far, with those of the matchers that are left, are all.
use Rattle.std.proofs.Common.{◌≡◌, length}
use Rattle.rl_aggregate.specs.Absence.{absent_labels}
use Rattle.rl_aggregate.proofs.Absences.{absent_onto}
use Rattle.rl_aggregate.proofs.absence.absent_labels.Given as goal

abbrev pub invariant-loop-matcher : goal.invariant-loop-matcher
invariant-loop-matcher l = absent_onto l.matchers l.rest l.labels ≡ absent_labels l.matchers

abbrev pub decreases-loop-matcher : goal.decreases-loop-matcher
decreases-loop-matcher l = length l.rest
