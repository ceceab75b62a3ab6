use Rattle.std.proofs.Common.{take}
use Rattle.std.specs.List.{flat_map}
use Rattle.std.specs.Io.KnownBytes.{Appends}
use Rattle.rl_sinks.specs.Texts.{tail_lines}
use Rattle.rl_sinks.proofs.text.put_tail.Given as goal

-- the lines of the rules so far
abbrev pub invariant-loop-rule : goal.invariant-loop-rule
invariant-loop-rule g l = Appends (g.T.TextTarget.contents l.initial.target) (g.T.TextTarget.contents l.target) (flat_map (λ rule. tail_lines rule.name rule.outcome) (take l.rule-index l.rule-items))
