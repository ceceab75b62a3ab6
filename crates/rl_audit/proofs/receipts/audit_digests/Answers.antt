-- One caller more, and all.
use Rattle.std.proofs.Common.{◌≡◌, ◌+◌, ◌<◌, ◌++◌, ◌∷◌, [], List, get_or, length, map, take, sym, ap, subst, ◌∙◌, arith}
use Rattle.std.proofs.lemmas.List.{map_more, take_all}
use Rattle.rl_audit.specs.Merged.{place_of, IsOf}
use Rattle.rl_audit.specs.declared.receipt.Receipt.{Receipt}
use Rattle.rl_audit.proofs.Claiming.{all_met, one_met, AreMet}
use Rattle.rl_audit.proofs.receipts.audit_digests.Goals as goal

pub loop-caller-preserved : goal.loop-caller-preserved
loop-caller-preserved g c =
    let digests = c.args.digests.now in
    let callers = c.args.callers.now in
    let receipts = g.C.Carrier.receipts in
    let i = c.loop-caller.caller-index in
    let claims = c.receipts.result.now in
    let less : i < length callers = omega arith in
    let is : claims ≡ receipts (get_or callers i c.caller-item.result) = c.receipts.ensures ∙ ap receipts c.caller-item.is in
    let whole : map receipts (take (i + 1) callers) ≡ map receipts (take i callers) ++ claims ∷ [] = map_more receipts callers i c.caller-item.result less ∙ ap (λ (claims : List Receipt). map receipts (take i callers) ++ claims ∷ []) (sym is) in
    let claim = c.in_ok-claim_all.ensures in
    let before = c.loop-caller.flags in
    let between = c.claim_all.new.flags in
    let after = c.next_caller.new.self in
    subst (AreMet digests place_of IsOf after.flags.items after.nexts) (sym whole)
    (one_met digests place_of IsOf before.flags.items between.flags.items after.flags.items before.nexts between.nexts after.nexts (map receipts (take i callers)) claims c.loop-caller.invariant claim.claimed c.next_caller.ensures.begun (c.next_caller.ensures.sizes ∙ claim.sizes) claim.right)

pub returns : goal.returns
returns g c =
    let callers = c.args.callers.now in
    let flags = c.loop-caller.flags in
    let all : take c.loop-caller.caller-index callers ≡ callers = take_all c.loop-caller.caller-index callers (omega arith) in
    let met = subst (λ callers. AreMet c.args.digests.now place_of IsOf flags.flags.items flags.nexts (map g.C.Carrier.receipts callers)) all c.loop-caller.invariant in
    all_met c.args.digests.now place_of IsOf flags.flags.items flags.nexts (map g.C.Carrier.receipts callers) met c.in-None.ensures.all
