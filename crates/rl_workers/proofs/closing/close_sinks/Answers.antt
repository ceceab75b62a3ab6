-- One sink more.
use Rattle.std.proofs.Common.{◌≡◌, ℕ, ◌++◌, [], ◌∷◌, cond, not, length, take, vec_capacity, refl, sym, ap, ◌∙◌, arith, length-append}
use Rattle.std.proofs.lemmas.List.{append-nil}
use Rattle.rl_world.specs.WorldState.{with_sinks}
use Rattle.rl_workers.specs.Closing.{unclosed_of}
use Rattle.rl_workers.proofs.Ending.{one_closed, then_more}
use Rattle.rl_workers.proofs.closing.close_sinks.Goals as goal
use Rattle.rl_workers.proofs.closing.close_sinks.Goals.{then-not-close_sink, else-not-close_sink}

pub loop-sink-init : goal.loop-sink-init
loop-sink-init g c = record { rest = refl; count = refl; closed = tt; unclosed = sym (append-nil c.args.unclosed.now.items); few = omega arith; capacity = refl }

pub loop-sink-preserved : goal.loop-sink-preserved
loop-sink-preserved g c =
    let loop = c.loop-sink in
    let so_far = loop.invariant in
    let failed = not c.close_sink.result in
    let one : ℕ × ℕ = (c.args.group, loop.sink) in
    let next = one_closed c.args.group loop.sink loop.book c.close_sink.new.self failed (omega arith) c.close_sink.ensures.closed so_far.closed in
    let more : c.if-not-close_sink.unclosed.items ≡ loop.unclosed.items ++ cond failed (one ∷ []) [] = elim c.if-not-close_sink.branch [
      | then-not-close_sink w ↦ ap (λ v. v.items) w.unclosed-is ∙ w.push_reserved.ensures.items ∙ ap (λ b. loop.unclosed.items ++ cond b (one ∷ []) []) (sym (ap not w.if-not-close_sink.true))
      | else-not-close_sink w ↦ ap (λ v. v.items) w.unclosed-is ∙ sym (append-nil loop.unclosed.items) ∙ ap (λ b. loop.unclosed.items ++ cond b (one ∷ []) []) (sym (ap not w.if-not-close_sink.false))
    ] in
    record {
      rest = next.3 ∙ ap (λ b. with_sinks b c.close_sink.new.self.sinks) so_far.rest;
      count = next.0 ∙ so_far.count;
      closed = next.1;
      unclosed = then_more c.args.unclosed.now.items loop.unclosed.items (unclosed_of c.args.group 0 (take loop.sink loop.book.sinks)) (cond failed (one ∷ []) []) c.if-not-close_sink.unclosed.items _ so_far.unclosed more next.2;
      few = elim c.if-not-close_sink.branch [
        | then-not-close_sink w ↦ omega (arith, so_far.few, ap (λ v. length v.items) w.unclosed-is, ap length w.push_reserved.ensures.items, length-append loop.unclosed.items (one ∷ []))
        | else-not-close_sink w ↦ omega (arith, so_far.few, ap (λ v. length v.items) w.unclosed-is)
      ];
      capacity = elim c.if-not-close_sink.branch [
        | then-not-close_sink w ↦ ap vec_capacity w.unclosed-is ∙ w.push_reserved.ensures.capacity ∙ so_far.capacity
        | else-not-close_sink w ↦ ap vec_capacity w.unclosed-is ∙ so_far.capacity
      ];
    }

pub returns-clause-rest : goal.returns-clause-rest
returns-clause-rest g c = c.loop-sink.invariant.rest
