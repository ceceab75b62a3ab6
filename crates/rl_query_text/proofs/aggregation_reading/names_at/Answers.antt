-- Each turn reads one name more.
use Rattle.std.proofs.Common.{◌-◌, ◌+◌, suc, length, Bool, Ok, refl, sym, ap, ◌∙◌, arith}
use Rattle.rl_query_text.specs.AggregationReading.{named_at}
use Rattle.rl_selector_text.specs.Parsing.{listed_at}
use Rattle.rl_selector_text.proofs.Items.{none_before, one_more}
use Rattle.rl_selector_text.proofs.Finding.{first_stops, fails_on}
use Rattle.rl_query_text.proofs.aggregation_reading.names_at.Goals as goal

pub loop-turn-init : goal.loop-turn-init
loop-turn-init c = λ n many. rw c.new-names.ensures.items (none_before (λ n. listed_at named_at n c.args.lexemes.now) n (length c.args.lexemes.now) (omega arith))

pub returns-in_err-name : goal.returns-in_err-name
unfolding listed_at
returns-in_err-name c =
    let so_far = c.loop-turn.invariant (suc (length c.args.lexemes.now - (c.loop-turn._turn + 1))) (omega arith) in
    fails_on _ _ _ _ c.from_residual.ensures.1 (rw (sym so_far) (first_stops _ _ _ (first_stops _ _ _ c.in_err-name.ensures)))

pub returns-then-not-more : goal.returns-then-not-more
unfolding listed_at
returns-then-not-more c =
    let last = c.in_ok-name.ensures ∙ ap (λ (b : Bool). Ok (c.in_ok-name.name, b, c.in_ok-name.following.now)) c.if-not-more.true in
    rw c.in_ok-push.ensures.items (sym (c.loop-turn.invariant (suc (length c.args.lexemes.now - (c.loop-turn._turn + 1))) (omega arith)) ∙ rw last refl)

pub loop-turn-preserved : goal.loop-turn-preserved
unfolding listed_at
loop-turn-preserved c =
    let more = c.in_ok-name.ensures ∙ ap (λ (b : Bool). Ok (c.in_ok-name.name, b, c.in_ok-name.following.now)) c.if-not-more.false in
    λ n many. rw c.in_ok-push.ensures.items (one_more _ (c.in_ok-name.name) _ _ (rw more at (c.loop-turn.invariant (suc n) (omega arith))))

pub returns : goal.returns
unfolding listed_at
returns c = rw c.syntax.ensures (sym (c.loop-turn.invariant 0 (omega arith)))
