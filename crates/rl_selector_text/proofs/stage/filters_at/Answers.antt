-- Each turn reads one line filter more.
use Rattle.std.proofs.Common.{◌≡◌, ◌++◌, ◌∷◌, [], ◌-◌, ◌+◌, suc, length, map, refl, sym, ◌∙◌, arith, append-nil}
use Rattle.std.proofs.lemmas.List.{map_push, length_push}
use Rattle.rl_query.specs.Form.{filter_form}
use Rattle.rl_query.specs.Limits.{most_stages}
use Rattle.rl_selector_text.specs.Parsing.{filters_at}
use Rattle.rl_selector_text.proofs.Items.{none_before, one_more}
use Rattle.rl_selector_text.proofs.FilterProductions.{filters_turn}
use Rattle.rl_selector_text.proofs.Finding.{first_stops, fails_on}
use Rattle.rl_selector_text.proofs.stage.filters_at.Goals as goal

pub loop-turn-init : goal.loop-turn-init
loop-turn-init c = ((λ n many. rw c.new-filters.ensures.items (none_before (λ n. filters_at n c.args.lexemes.now) n most_stages (omega arith))), omega arith)

pub returns-in_err-first-clause-read : goal.returns-in_err-first-clause-read
returns-in_err-first-clause-read c =
    fails_on _ _ _ _ c.from_residual.ensures.1 (sym (c.loop-turn.invariant.0 (suc (most_stages - (c.loop-turn._turn + 1))) (omega arith)) ∙ rw (filters_turn, c.in_err-first.ensures) refl)

pub returns-in_default-clause-read : goal.returns-in_default-clause-read
returns-in_default-clause-read c =
    sym (c.loop-turn.invariant.0 (suc (most_stages - (c.loop-turn._turn + 1))) (omega arith)) ∙ rw (filters_turn, c.in_ok-first.ensures, sym c.in_default.ensures) (simp append-nil)

pub returns-in_err-filter-clause-read : goal.returns-in_err-filter-clause-read
returns-in_err-filter-clause-read c =
    let so_far = c.loop-turn.invariant.0 (suc (most_stages - (c.loop-turn._turn + 1))) (omega arith) in
    fails_on _ _ _ _ c.from_residual-in_err-filter.ensures.1 (rw (sym so_far, filters_turn, c.in_ok-first.ensures, sym c.in-Some.ensures) (first_stops _ _ _ (first_stops _ _ _ c.in_err-filter.ensures)))

pub loop-turn-preserved : goal.loop-turn-preserved
loop-turn-preserved c =
    let f = c.in_ok-filter.filter in
    let e : map filter_form c.push.new.self.items ≡ map filter_form c.loop-turn.filters.items ++ filter_form f ∷ [] = rw c.in_ok-push.ensures.items (map_push _ c.loop-turn.filters.items f) in
    let longer : length c.push.new.self.items ≡ length c.loop-turn.filters.items + 1 = rw c.in_ok-push.ensures.items (length_push c.loop-turn.filters.items f) in (
      (λ n many. rw e (one_more _ (filter_form f) _ _ (rw (filters_turn, c.in_ok-first.ensures, sym c.in-Some.ensures, c.in_ok-filter.ensures) at (c.loop-turn.invariant.0 (suc n) (omega arith))))),
      omega (arith, longer, c.loop-turn.invariant.1),
    )
