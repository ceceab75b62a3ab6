-- The windows are of the ranges that the terms have.
use Rattle.std.proofs.Common.{Bor, map, sym, ap, subst, ◌∙◌}
use Rattle.std.specs.List.{AllZip}
use Rattle.rl_query.specs.declared.query.Term.{Term}
use Rattle.rl_slots.specs.Slots.{term_key, ArePicked}
use Rattle.rl_shard.specs.Live.{IsRangeAt}
use Rattle.rl_shard.proofs.windows.windows_of.Goals as goal

pub returns-clause-of_terms : goal.returns-clause-of_terms
returns-clause-of_terms g c =
    subst (λ ranges. AllZip (IsRangeAt ranges) c.args.terms.now c.in_ok-ranges.ranges.indices.items) (sym (c.in_ok-windows.ensures.keys ∙ ap (map (λ (one : Bor Term). term_key one.now)) c.deref.ensures.value)) c.in_ok-ranges.ensures.of_terms

pub returns-clause-picked : goal.returns-clause-picked
returns-clause-picked g c =
    subst (λ keys. ArePicked keys (map term_key c.args.terms.now)) (sym (c.in_ok-windows.ensures.keys ∙ ap (map (λ (one : Bor Term). term_key one.now)) c.deref.ensures.value)) c.in_ok-ranges.ensures.picked
