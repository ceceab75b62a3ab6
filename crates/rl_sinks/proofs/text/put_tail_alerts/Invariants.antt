use Rattle.std.proofs.Common.{take}
use Rattle.std.specs.List.{flat_map}
use Rattle.std.specs.Io.KnownBytes.{Appends}
use Rattle.rl_sinks.specs.Texts.{alert_line}
use Rattle.rl_sinks.proofs.text.put_tail_alerts.Given as goal

-- the lines so far
abbrev pub invariant-loop-alert : goal.invariant-loop-alert
invariant-loop-alert g l = Appends (g.T.TextTarget.contents l.fn.target) (g.T.TextTarget.contents l.target) (flat_map (λ alert. alert_line alert) (take l.alert-index l.alerts))
