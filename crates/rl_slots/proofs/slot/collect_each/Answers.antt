-- Windows that moved on are of the ranges that they were of.
use Rattle.std.proofs.Common.{◌≡◌, ◌≤◌, ℕ, Some, sym, subst}
use Rattle.std.specs.Prelude.{slice_get}
use Rattle.std.specs.List.{AllByRecursion, AllZip}
use Rattle.std.proofs.lemmas.Result.{IfOk-weaker}
use Rattle.rl_query.specs.declared.query.Term.{Term}
use Rattle.rl_aggregate.specs.Partials.{partial}
use Rattle.rl_aggregate.specs.declared.partial.Partial.{Partial}
use Rattle.rl_windows.specs.Ranges.{code_of}
use Rattle.rl_windows.specs.Windows.{in_range}
use Rattle.rl_slots.specs.Slots.{term_key}
use Rattle.rl_slots.proofs.slot.collect_each.Goals as goal

pub returns-clause-partials : goal.returns-clause-partials
returns-clause-partials c = IfOk-weaker c.partials_at.result _ _ (λ partials given entries exact.
    subst (λ keys. AllZip (λ (index : ℕ) (found : Partial). (term : Term) → slice_get keys index ≡ Some (term_key term) → found ≡ partial entries term c.args.t) c.args.indices.now partials.items) c.slide_each.ensures.ranges
    (given entries (c.slide_each.ensures.stand _ exact))) c.partials_at.ensures.partials

pub returns-clause-sums : goal.returns-clause-sums
returns-clause-sums c = IfOk-weaker c.partials_at.result _ _ (λ partials given contents stand.
    subst (λ keys. AllZip (λ (index : ℕ) (found : Partial). (term : Term) → slice_get keys index ≡ Some (term_key term) → found ≡ in_range term.range.seconds c.args.t (contents index (code_of term))) c.args.indices.now partials.items) c.slide_each.ensures.ranges
    (given contents (c.slide_each.ensures.stand contents stand))) c.partials_at.ensures.sums

pub returns-clause-within : goal.returns-clause-within
returns-clause-within c = IfOk-weaker c.partials_at.result _ _ (λ partials given most all. given most (c.slide_each.ensures.most most all)) c.partials_at.ensures.within

pub returns-clause-most : goal.returns-clause-most
returns-clause-most c = λ most all. subst (AllByRecursion (λ it. it.window.most ≡ most)) (sym c.partials_at.ensures.same) (c.slide_each.ensures.most most all)

pub returns-clause-since : goal.returns-clause-since
returns-clause-since c = λ since all. subst (AllByRecursion (λ it. since ≤ it.window.moment)) (sym c.partials_at.ensures.same) (c.slide_each.ensures.since since all)
