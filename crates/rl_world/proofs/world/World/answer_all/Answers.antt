-- The replies to all steps are those of a run of them.
use Rattle.std.proofs.Common.{◌≡◌, ◌++◌, [], ◌∷◌, length, arith, sym, ap, subst, ◌∙◌}
use Rattle.std.proofs.lemmas.List.{append-nil, append_assoc, nil_from_length}
use Rattle.rl_world.specs.WorldRun.{Ran, gained}
use Rattle.rl_world.proofs.Running.{run_next, run_done}
use Rattle.rl_world.proofs.world.World.answer_all.Goals as goal

pub loop-step-preserved : goal.loop-step-preserved
loop-step-preserved g c =
    let loop = c.loop-step in
    let kept = loop.invariant in
    let next : loop.step-iterator.rest.items ≡ c.in-Some.step ∷ c.next.new.self.rest.items = c.in-Some.ensures.steps.0 in
    record {
      split = append_assoc loop.yielded (c.in-Some.step ∷ []) c.next.new.self.rest.items ∙ ap (λ rest. loop.yielded ++ rest) (sym next) ∙ kept.split;
      capacity = omega (arith, kept.capacity, c.push_reserved.ensures.capacity);
      room = omega (arith, kept.room, ap length next, c.push_reserved.ensures.len, c.push_reserved.ensures.capacity);
      so_far = run_next c.args.self.now c.args.out.now.items loop.yielded loop.self loop.out.items c.in-Some.step c.answer-reply.result c.answer-reply.new.self c.push_reserved.new.self.items kept.so_far c.answer-reply.ensures.turned c.push_reserved.ensures.items;
      prefixes = λ _. c.answer-reply.ensures.prefixes;
    }

pub returns-clause-turns : goal.returns-clause-turns
returns-clause-turns g c =
    let loop = c.loop-step in
    let none : loop.step-iterator.rest.items ≡ [] = nil_from_length loop.step-iterator.rest.items (omega (arith, c.in-None.ensures.steps.0, loop.step-iterator.rest.ok.0)) in
    let all : loop.yielded ≡ c.args.steps.items = sym (append-nil loop.yielded) ∙ ap (λ rest. loop.yielded ++ rest) (sym none) ∙ loop.invariant.split in
    subst (λ steps. Ran c.args.self.now steps (gained c.args.out.now.items loop.out.items) loop.self) all (run_done c.args.self.now c.args.out.now.items loop.yielded loop.self loop.out.items loop.invariant.so_far)
