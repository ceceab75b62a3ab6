-- No place is claimed yet.
use Rattle.std.proofs.Common.{◌≡◌, [], Bool, List, length, map, take, sym, ap, subst, ◌∙◌, arith}
use Rattle.std.proofs.lemmas.List.{take_all}
use Rattle.rl_audit.specs.Flagged.{StandFor}
use Rattle.rl_audit.proofs.Flagging.{sizes_unclaimed, stand_fresh, unclaimed_of}
use Rattle.rl_audit.proofs.flags.Flags.new.Goals as goal

pub returns-clause-sizes : goal.returns-clause-sizes
returns-clause-sizes c =
    let sizes = c.args.sizes.now in
    let all : take c.loop-size.size-index sizes ≡ sizes = take_all c.loop-size.size-index sizes (omega arith) in
    ap (map (length {A = Bool})) (c.loop-size.invariant ∙ ap unclaimed_of all) ∙ sizes_unclaimed sizes

pub returns-clause-fresh : goal.returns-clause-fresh
returns-clause-fresh c =
    let sizes = c.args.sizes.now in
    let all : take c.loop-size.size-index sizes ≡ sizes = take_all c.loop-size.size-index sizes (omega arith) in
    subst (λ (flags : List (List Bool)). StandFor flags c.in_ok-nexts.nexts [] []) (sym (c.loop-size.invariant ∙ ap unclaimed_of all)) (stand_fresh sizes c.in_ok-nexts.nexts)
