-- The line as an entry's parts.
use Rattle.std.proofs.Common.{sym}
use Rattle.rl_rule_tests.specs.Playing.{ruler_of}
use Rattle.rl_rule_tests.proofs.Handed.{line_handed}
use Rattle.rl_rule_tests.proofs.playing.push_line.Goals as goal

pub returns : goal.returns
returns g c = line_handed (ruler_of g.E.Engine.calls) _ _ c.args.stream.now c.args.line c.in_ok-labels.labels c.in-Some.moment c.in_ok-text.text _ (sym c.in-Some.ensures) c.in_ok-text.ensures c.in_ok-labels.ensures c.in_ok-why.ensures
