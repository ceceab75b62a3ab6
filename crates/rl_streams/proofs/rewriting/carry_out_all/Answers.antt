-- One plan more.
use Rattle.std.proofs.Common.{◌≡◌, List, ◌∷◌, ◌++◌, [], refl, sym, ap, subst, ◌∙◌, append-nil, append_assoc, arith}
use Rattle.std.proofs.lemmas.List.{length-append, nil_from_length}
use Rattle.std.proofs.lemmas.List.Concat.{flat_map-append}
use Rattle.indexmap.specs.IndexMap.{set_value_at}
use Rattle.rl_parts.specs.Rewriting.{PlanView}
use Rattle.rl_streams.specs.Rewritten.{AreRemoved, numbers_gone, rewritten}
use Rattle.rl_streams.proofs.Plans.{at_next, below_next, of_split, rewritten_none, set_next}
use Rattle.rl_streams.proofs.Removed.{removed_none, removed_then}
use Rattle.rl_streams.proofs.rewriting.carry_out_all.Goals as goal

pub loop-plan-init : goal.loop-plan-init
loop-plan-init g c = record { split = c.into_iter-plan-iterator.ensures.into_iter_gives.0; many = refl; rows = sym (rewritten_none c.args.streams.now.entries); removed = removed_none c.args.chunks.now }

pub index_mut-requires : goal.index_mut-requires
index_mut-requires g c =
    let loop = c.loop-plan in
    let of = of_split c.args.streams.now.entries c.args.plans.items loop.yielded loop.plan-iterator.rest.items c.in-Some.plan c.next.new.self.rest.items loop.invariant.split c.in-Some.ensures.steps.0 c.requires in
    below_next c.args.streams.now.entries loop.yielded c.in-Some.plan c.next.new.self.rest.items of loop.streams.entries loop.position loop.invariant.rows loop.invariant.many

pub carry_out-gone-requires : goal.carry_out-gone-requires
carry_out-gone-requires g c =
    let loop = c.loop-plan in
    let of = of_split c.args.streams.now.entries c.args.plans.items loop.yielded loop.plan-iterator.rest.items c.in-Some.plan c.next.new.self.rest.items loop.invariant.split c.in-Some.ensures.steps.0 c.requires in
    at_next c.args.streams.now.entries loop.yielded c.in-Some.plan c.next.new.self.rest.items of loop.streams.entries loop.position c.index_mut.result.now loop.invariant.rows loop.invariant.many c.index_mut.ensures.value

pub loop-plan-preserved : goal.loop-plan-preserved
loop-plan-preserved g c =
    let loop = c.loop-plan in
    let before = loop.invariant in
    let rows = c.args.streams.now.entries in
    let plan = c.in-Some.plan in
    let rest = c.next.new.self.rest.items in
    let next : loop.plan-iterator.rest.items ≡ plan ∷ rest = c.in-Some.ensures.steps.0 in
    let of = of_split rows c.args.plans.items loop.yielded loop.plan-iterator.rest.items plan rest before.split next c.requires in
    let start = c.args.chunks.now in
    let seen = loop.chunks in
    let after = c.remove_all.new.chunks in
    let gone : c.deref.result.now ≡ plan.gone = c.deref.ensures.value ∙ c.carry_out-gone.ensures.gone in
    let numbers : numbers_gone (loop.yielded ++ plan ∷ []) ≡ numbers_gone loop.yielded ++ plan.gone = flat_map-append (λ (p : PlanView). p.gone) loop.yielded (plan ∷ []) ∙ ap (λ ns. numbers_gone loop.yielded ++ ns) (append-nil plan.gone) in
    record {
      split = append_assoc loop.yielded (plan ∷ []) rest ∙ ap (λ ps. loop.yielded ++ ps) (sym next) ∙ before.split;
      many = omega (arith, before.many, length-append loop.yielded (plan ∷ []));
      rows = (λ i. set_value_at (before.rows i) (before.many i) (c.carry_out-gone.ensures.stream i)) ∙ set_next rows loop.yielded plan rest of;
      removed = subst (λ ns. AreRemoved start ns after) (sym numbers) (removed_then start (numbers_gone loop.yielded) seen plan.gone after before.removed (subst (λ ns. AreRemoved seen ns after) gone c.remove_all.ensures));
    }

pub returns-clause-streams : goal.returns-clause-streams
returns-clause-streams g c =
    let loop = c.loop-plan in
    let none : loop.plan-iterator.rest.items ≡ [] = nil_from_length loop.plan-iterator.rest.items (omega (arith, c.in-None.ensures.steps.0, loop.plan-iterator.rest.ok.0)) in
    let all : loop.yielded ≡ c.args.plans.items = sym (append-nil loop.yielded) ∙ ap (λ ps. loop.yielded ++ ps) (sym none) ∙ loop.invariant.split in
    loop.invariant.rows ∙ ap (rewritten c.args.streams.now.entries) all

pub returns-clause-removed : goal.returns-clause-removed
returns-clause-removed g c =
    let loop = c.loop-plan in
    let none : loop.plan-iterator.rest.items ≡ [] = nil_from_length loop.plan-iterator.rest.items (omega (arith, c.in-None.ensures.steps.0, loop.plan-iterator.rest.ok.0)) in
    let all : loop.yielded ≡ c.args.plans.items = sym (append-nil loop.yielded) ∙ ap (λ ps. loop.yielded ++ ps) (sym none) ∙ loop.invariant.split in
    subst (λ (ps : List PlanView). AreRemoved c.args.chunks.now (numbers_gone ps) loop.chunks) all loop.invariant.removed
