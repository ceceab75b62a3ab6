-- What is left is closed where the whole is.
use Rattle.std.proofs.Common.{◌≡◌, false, take, drop}
use Rattle.rl_plain.specs.Runs.{onto}
use Rattle.rl_pipeline.specs.LogfmtPairs.{closed_at}
use Rattle.rl_pipeline.proofs.logfmt.quote_at.Given as goal

abbrev pub invariant-loop-index : goal.invariant-loop-index
invariant-loop-index l = onto (take l.index l.bytes) (closed_at l.escaped (drop l.index l.bytes)) ≡ closed_at false l.bytes
