-- The entry of the parts.
use Rattle.std.proofs.Common.{ap, ◌∙◌}
use Rattle.rl_rule_tests.specs.Playing.{ruler_of}
use Rattle.rl_rule_tests.proofs.Handed.{parts_handed, some_reported}
use Rattle.rl_rule_tests.proofs.playing.push_parts.Goals as goal

pub returns-in-Ok : goal.returns-in-Ok
returns-in-Ok g c =
    let same = c.in_ok-entry-in-Ok.ensures in
    let parts = c.in-Ok.ensures.parts in
    parts_handed (ruler_of g.E.Engine.calls) _ _ _ _ _ c.in_ok-entry-in-Ok.entry c.push-answer.result _ c.in-Ok.ensures.fault (ap (λ entry. entry.labels) same ∙ parts.0) (ap (λ entry. entry.timestamp) same ∙ parts.1) (ap (λ entry. entry.line) same ∙ parts.2)
    c.push-answer.ensures.answer (some_reported _ c.push_refusal.result _ c.push_refusal.ensures)
