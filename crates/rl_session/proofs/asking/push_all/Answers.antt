-- An entry more.
use Rattle.std.proofs.Common.{◌≡◌, ◌++◌, [], ◌∷◌, length, arith, sym, ap, subst, ◌∙◌}
use Rattle.std.proofs.lemmas.List.{append-nil, append_assoc, nil_from_length}
use Rattle.rl_session.specs.Asking.{PushesAll}
use Rattle.rl_session.proofs.Calling.{pushes_more}
use Rattle.rl_session.proofs.asking.push_all.Goals as goal

pub loop-entry-preserved : goal.loop-entry-preserved
loop-entry-preserved g c =
    let loop = c.loop-entry in
    let kept = loop.invariant in
    let next : loop.entry-iterator.rest.items ≡ c.in-Some.entry ∷ c.next.new.self.rest.items = c.in-Some.ensures.steps.0 in
    record {
      split = append_assoc loop.yielded (c.in-Some.entry ∷ []) c.next.new.self.rest.items ∙ ap (λ rest. loop.yielded ++ rest) (sym next) ∙ kept.split;
      room = omega (arith, kept.room, ap length next, c.push_reserved.ensures.len, c.push_reserved.ensures.capacity);
      so_far = rw c.push_reserved.ensures.items (pushes_more g.E.Engine.calls c.args.engine.now loop.yielded loop.answers.items loop.engine c.in-Some.entry c.push-answer.result c.push-answer.new.self kept.so_far c.push-answer.ensures.answer);
    }

pub returns-clause-each : goal.returns-clause-each
returns-clause-each g c =
    let loop = c.loop-entry in
    let none : loop.entry-iterator.rest.items ≡ [] = nil_from_length loop.entry-iterator.rest.items (omega (arith, c.in-None.ensures.steps.0, loop.entry-iterator.rest.ok.0)) in
    let all : loop.yielded ≡ c.args.entries.items = sym (append-nil loop.yielded) ∙ ap (λ rest. loop.yielded ++ rest) (sym none) ∙ loop.invariant.split in
    subst (λ entries. PushesAll g.E.Engine.calls c.args.engine.now entries loop.answers.items loop.engine) all loop.invariant.so_far
