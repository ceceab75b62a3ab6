-- The fingerprints of the entries so far.
use Rattle.std.proofs.Common.{◌≡◌, take}
use Rattle.rl_parts.specs.Fingerprints.{fingerprints_of}
use Rattle.rl_parts.proofs.fingerprints.fingerprints_of.Given as goal

abbrev pub invariant-loop-entry : goal.invariant-loop-entry
invariant-loop-entry l = l.fingerprints.items ≡ fingerprints_of (take l.entry-index l.entries)
