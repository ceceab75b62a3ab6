-- A shard more decided it.
use Rattle.std.proofs.Common.{◌+◌, ◌∷◌, [], List, length, subst, sym, ap, arith}
use Rattle.std.proofs.lemmas.List.{length-append}
use Rattle.rl_records.specs.declared.step.ShardReply.{ShardReply}
use Rattle.rl_workers.specs.Rulers.{AreDecidedBy}
use Rattle.rl_workers.proofs.Asked.{decided_more}
use Rattle.rl_workers.proofs.ruler.Ruler.ask_all.Goals as goal

pub loop-number-preserved : goal.loop-number-preserved
loop-number-preserved g c =
    let loop = c.loop-number in
    let received = c.in_ok-reply.ensures.received in
    let decided = decided_more loop.number received.0 c.args.step.now c.in_ok-reply.reply loop.replies.items c.args.pass.now loop.pass c.ask_one.new.pass loop.invariant.decided received.1 in
    record {
      decided = subst (λ (replies : List ShardReply). AreDecidedBy (loop.number + 1) c.args.step.now c.args.pass.now replies c.ask_one.new.pass) (sym c.push_reserved.ensures.items) decided;
      room = omega (arith, loop.invariant.room, received.1.receipt_room);
      count = omega (arith, ap length c.push_reserved.ensures.items, length-append loop.replies.items (c.in_ok-reply.reply ∷ []), loop.invariant.count);
      capacity = omega (arith, loop.invariant.capacity, c.push_reserved.ensures.capacity);
    }
