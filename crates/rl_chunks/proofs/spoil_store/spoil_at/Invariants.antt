use Rattle.std.proofs.Common.{◌≡◌, drop}
use Rattle.rl_chunks.specs.Spoiling.{spoil_at}
use Rattle.rl_chunks.proofs.spoil_store.spoil_at.Given as goal

abbrev pub invariant-loop-planned : goal.invariant-loop-planned
invariant-loop-planned l = spoil_at (drop l.planned-index l.plan) l.read ≡ spoil_at l.plan l.read
