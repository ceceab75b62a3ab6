-- Each turn reads one matcher more.
use Rattle.std.proofs.Common.{◌≡◌, ◌++◌, ◌∷◌, [], map, ◌-◌, ◌+◌, suc, length, Bool, Ok, refl, sym, ap, ◌∙◌, arith}
use Rattle.std.proofs.lemmas.List.{map_push}
use Rattle.rl_query.specs.Form.{matcher_form}
use Rattle.rl_selector_text.specs.Parsing.{matchers_at, listed_at}
use Rattle.rl_selector_text.proofs.Items.{none_before, one_more}
use Rattle.rl_selector_text.proofs.Finding.{first_stops, fails_on}
use Rattle.rl_selector_text.proofs.selector.matchers_at.Goals as goal

pub loop-turn-init : goal.loop-turn-init
loop-turn-init c = λ n many. rw c.new-matchers.ensures.items (none_before (λ n. matchers_at n c.args.lexemes.now) n (length c.args.lexemes.now) (omega arith))

pub returns-in_err-matcher : goal.returns-in_err-matcher
unfolding listed_at
returns-in_err-matcher c =
    let so_far = c.loop-turn.invariant (suc (length c.args.lexemes.now - (c.loop-turn._turn + 1))) (omega arith) in
    fails_on _ _ _ _ c.from_residual.ensures.1 (rw (sym so_far) (first_stops _ _ _ (first_stops _ _ _ c.in_err-matcher.ensures)))

pub returns-then-not-more : goal.returns-then-not-more
unfolding listed_at
returns-then-not-more c =
    let e : map matcher_form c.push.new.self.items ≡ map matcher_form c.loop-turn.matchers.items ++ matcher_form c.in_ok-matcher.matcher ∷ [] = rw c.in_ok-push.ensures.items (map_push _ c.loop-turn.matchers.items c.in_ok-matcher.matcher) in
    let last = c.in_ok-matcher.ensures ∙ ap (λ (b : Bool). Ok (matcher_form c.in_ok-matcher.matcher, b, c.in_ok-matcher.following.now)) c.if-not-more.true in
    rw e (sym (c.loop-turn.invariant (suc (length c.args.lexemes.now - (c.loop-turn._turn + 1))) (omega arith)) ∙ rw last refl)

pub loop-turn-preserved : goal.loop-turn-preserved
unfolding listed_at
loop-turn-preserved c =
    let e : map matcher_form c.push.new.self.items ≡ map matcher_form c.loop-turn.matchers.items ++ matcher_form c.in_ok-matcher.matcher ∷ [] = rw c.in_ok-push.ensures.items (map_push _ c.loop-turn.matchers.items c.in_ok-matcher.matcher) in
    let more = c.in_ok-matcher.ensures ∙ ap (λ (b : Bool). Ok (matcher_form c.in_ok-matcher.matcher, b, c.in_ok-matcher.following.now)) c.if-not-more.false in
    λ n many. rw e (one_more _ (matcher_form c.in_ok-matcher.matcher) _ _ (rw more at (c.loop-turn.invariant (suc n) (omega arith))))

pub returns : goal.returns
unfolding listed_at
returns c = rw c.syntax.ensures (sym (c.loop-turn.invariant 0 (omega arith)))
