-- One sink more.
use Rattle.std.proofs.Common.{true, false, ap, vec_len, vec_capacity, arith}
use Rattle.std.proofs.lemmas.List.{append-nil}
use Rattle.rl_world.specs.Offering.{Offered}
use Rattle.rl_world.proofs.Offers.{took_prefix-next, sinks-next, rest-next, behind-next}
use Rattle.rl_world.proofs.offering.offer_all.Goals as goal
use Rattle.rl_world.proofs.offering.offer_all.Goals.{then-offer, else-offer}

pub offer-requires-clause-prefix : goal.offer-requires-clause-prefix
offer-requires-clause-prefix g c =
    took_prefix-next g.S.Sink.state c.args.evaluations.now c.args.sinks.now c.loop-number.sinks c.loop-number.number c.index-sinks-number.result (omega arith) (omega arith) c.loop-number.invariant.rest c.requires.prefixes

pub loop-number-preserved : goal.loop-number-preserved
loop-number-preserved g c =
    let state = g.S.Sink.state in
    let olds = c.args.sinks.now in
    let nows = c.loop-number.sinks in
    let number = c.loop-number.number in
    let new = c.offer.new.sink in
    let evaluations = c.args.evaluations.now in
    let before = c.args.behind.now.items in
    let numbers = c.loop-number.behind.items in
    let more = c.if-offer.behind.items in
    let so_far = c.loop-number.invariant in
    record {
      offered = sinks-next (Offered evaluations) state olds nows number c.index-sinks-number.result new (omega arith) (omega arith) so_far.rest so_far.offered c.offer.ensures.offered;
      rest = rest-next state olds nows number new so_far.rest;
      behind = elim c.if-offer.branch [
        | then-offer w ↦ behind-next state evaluations nows number new true before numbers more (omega arith) (cc) so_far.behind (cc)
        | else-offer w ↦ behind-next state evaluations nows number new false before numbers more (omega arith) (cc) so_far.behind (cc (append-nil numbers))
      ];
      room = elim c.if-offer.branch [
        | then-offer w ↦ omega (arith, ap vec_len w.behind-is, ap vec_capacity w.behind-is)
        | else-offer w ↦ omega (arith, ap vec_len w.behind-is, ap vec_capacity w.behind-is)
      ];
    }
