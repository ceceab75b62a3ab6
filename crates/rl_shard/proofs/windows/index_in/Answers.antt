-- A term more is the last.
use Rattle.std.proofs.Common.{◌≡◌, ◌-◌, ◌∷◌, [], Bor, inr, length, map, slice_get, Some, ap, subst, ◌∙◌, arith}
use Rattle.std.proofs.lemmas.List.{length-append, length-map, map-append}
use Rattle.rl_query.specs.declared.query.Term.{Term}
use Rattle.rl_slots.specs.Slots.{term_key}
use Rattle.rl_shard.proofs.Ranges.{range_last}
use Rattle.rl_shard.proofs.windows.index_in.Goals as goal

pub returns-clause-found : goal.returns-clause-found
returns-clause-found c =
    let key = λ (one : Bor Term). term_key one.now in
    let terms = c.args.terms.now.items in
    let all = ap (map key) c.in_ok-push.ensures.items ∙ map-append key terms (c.args.term ∷ []) in
    let index : length (map key terms) ≡ c.len.result - 1 = omega (arith, length-map terms key, c.len.ensures, ap length c.in_ok-push.ensures.items, length-append terms (c.args.term ∷ []), c.push.new.self.ok.0) in
    subst (λ i. slice_get (map key c.push.new.self.items) i ≡ Some (term_key c.args.term.now)) index (ap (λ ranges. slice_get ranges (length (map key terms))) all ∙ range_last (map key terms) (term_key c.args.term.now))

pub returns-clause-more : goal.returns-clause-more
returns-clause-more c = inr c.in_ok-push.ensures.items
