use Rattle.std.proofs.Common.{take}
use Rattle.std.specs.List.{flat_map}
use Rattle.std.specs.Io.KnownBytes.{Appends}
use Rattle.rl_sinks.specs.Texts.{tail_line}
use Rattle.rl_sinks.proofs.text.put_tail_samples.Given as goal

-- the lines so far
abbrev pub invariant-loop-sample : goal.invariant-loop-sample
invariant-loop-sample g l = Appends (g.T.TextTarget.contents l.fn.target) (g.T.TextTarget.contents l.target) (flat_map (λ sample. tail_line sample) (take l.sample-index l.samples))
