use Rattle.std.proofs.Common.{take}
use Rattle.std.specs.List.{flat_map}
use Rattle.std.specs.Io.KnownBytes.{Appends}
use Rattle.rl_sinks.specs.Texts.{notified_lines}
use Rattle.rl_sinks.proofs.text.put_notified.Given as goal

-- the lines of the rules so far
abbrev pub invariant-loop-rule : goal.invariant-loop-rule
invariant-loop-rule g l = Appends (g.T.TextTarget.contents l.fn.target) (g.T.TextTarget.contents l.target) (flat_map (λ rule. notified_lines l.fn.evaluation.t rule.annotations rule.outcome) (take l.rule-index l.rule-items))
