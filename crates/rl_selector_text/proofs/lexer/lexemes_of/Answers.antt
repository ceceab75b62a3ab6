-- Each turn reads a token after a gap.
use Rattle.std.proofs.Common.{rules, ◌≡◌, ◌∙◌, ◌++◌, ◌∷◌, [], ap, sym, subst, IfOk}
use Rattle.rl_selector_text.proofs.Lexemes.{turn, ended, all_turned}
use Rattle.rl_selector_text.proofs.lexer.lexemes_of.Goals as goal

pub returns-then-is_empty : goal.returns-then-is_empty
returns-then-is_empty c = subst (λ all. IfOk c.with_end.result (λ lexemes. lexemes.items ≡ all)) (ended c.args.text.now c.loop-turn.rest.now c.past_gap-start.result.now c.loop-turn._turn c.loop-turn.lexemes.items c.loop-turn.invariant.1 c.loop-turn-test.true c.past_gap-start.ensures (sym c.is_empty.ensures ∙ c.if-is_empty.true)) c.with_end.ensures

pub loop-turn-preserved : goal.loop-turn-preserved
loop-turn-preserved c = (
  search rules,
  turn c.args.text.now c.loop-turn.rest.now c.past_gap-start.result.now c.in_ok-token.following.now c.loop-turn._turn c.in_ok-token.token c.loop-turn.lexemes.items c.push.new.self.items c.loop-turn.invariant.1 c.loop-turn-test.true c.past_gap-start.ensures
      (sym c.is_empty.ensures ∙ c.if-is_empty.false) c.in_ok-token.ensures (c.in_ok-push.ensures.items ∙ ap (λ p. c.loop-turn.lexemes.items ++ record { token = c.in_ok-token.token; offset = p } ∷ []) c.saturating_sub-offset.ensures),
)

pub returns : goal.returns
returns c = subst (λ all. IfOk c.with_end-2.result (λ lexemes. lexemes.items ≡ all)) (all_turned c.args.text.now c.loop-turn.rest.now c.loop-turn._turn c.loop-turn.lexemes.items c.loop-turn.invariant.1 c.loop-turn-test.false) c.with_end-2.ensures
