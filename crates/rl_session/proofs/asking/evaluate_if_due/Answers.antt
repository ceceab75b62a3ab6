-- A group that is due, or not.
use Rattle.std.proofs.Common.{[], ◌∷◌, true, false, refl, sym, subst}
use Rattle.std.proofs.lemmas.List.{append-nil}
use Rattle.rl_session.proofs.asking.evaluate_if_due.Goals as goal

pub returns-then-is_due-clause-turn : goal.returns-then-is_due-clause-turn
returns-then-is_due-clause-turn g c =
    let calls = g.E.Engine.calls in
    let due = subst (λ due. calls.is_due c.args.engine.now c.args.group c.args.now due) c.if-is_due.true c.is_due.ensures in
    (true, c.evaluate-answer.result ∷ [], due, (c.evaluate-answer.result, c.evaluate-answer.new.self, [], (c.evaluate-answer.ensures.answer, c.evaluate-answer.ensures.moment), refl, (refl, refl)), c.push_reserved.ensures.items)

pub returns-else-is_due-clause-turn : goal.returns-else-is_due-clause-turn
returns-else-is_due-clause-turn g c =
    let calls = g.E.Engine.calls in
    let due = subst (λ due. calls.is_due c.args.engine.now c.args.group c.args.now due) c.if-is_due.false c.is_due.ensures in
    (false, [], due, (refl, refl), sym (append-nil c.args.results.now.items))
