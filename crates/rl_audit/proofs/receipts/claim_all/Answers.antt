-- One receipt more.
use Rattle.std.proofs.Common.{◌<◌, [], List, get_or, length, map, take, refl, sym, subst, ◌∙◌, arith}
use Rattle.std.specs.List.{AllByRecursion}
use Rattle.std.proofs.lemmas.List.{map_more, take_all, take_more}
use Rattle.rl_audit.specs.Claims.{IsRight, Place}
use Rattle.rl_audit.specs.Flagged.{StandFor}
use Rattle.rl_audit.specs.Merged.{place_of, IsOf}
use Rattle.rl_audit.specs.declared.receipt.Receipt.{Receipt}
use Rattle.rl_audit.proofs.Flagging.{all_more}
use Rattle.rl_audit.proofs.receipts.claim_all.Goals as goal

pub loop-receipt-preserved : goal.loop-receipt-preserved
loop-receipt-preserved c =
    let receipts = c.args.receipts.now in
    let i = c.loop-receipt.receipt-index in
    let none : Receipt = record { shard = 0; place = 0; digest = [] } in
    let receipt = get_or receipts i none in
    let met = c.loop-receipt.invariant in
    let less : i < length receipts = omega arith in
    record {
      sizes = c.claim.ensures.sizes ∙ met.sizes;
      claimed = λ before stand. subst (λ (places : List Place). StandFor c.claim.new.self.flags.items c.claim.new.self.nexts before places) (sym (map_more place_of receipts i none less))
          (c.if-not-claim.ensures.claimed refl before (map place_of (take i receipts)) (met.claimed before stand));
      right = subst (AllByRecursion (IsRight c.args.digests.now place_of IsOf)) (sym (take_more receipts i none less))
          (all_more (IsRight c.args.digests.now place_of IsOf) (take i receipts) receipt met.right (c.if-not-has_digest.ensures refl));
    }

pub returns-clause-claimed : goal.returns-clause-claimed
returns-clause-claimed c before stand =
    let receipts = c.args.receipts.now in
    let i = c.loop-receipt.receipt-index in
    subst (λ (receipts : List Receipt). StandFor c.loop-receipt.flags.flags.items c.loop-receipt.flags.nexts before (map place_of receipts)) (take_all i receipts (omega arith)) (c.loop-receipt.invariant.claimed before stand)
