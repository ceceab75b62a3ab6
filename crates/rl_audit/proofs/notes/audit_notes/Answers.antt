-- No caller, one more, and all.
use Rattle.std.proofs.Common.{◌≡◌, ◌+◌, ◌<◌, ◌++◌, ◌∷◌, [], List, get_or, length, map, take, sym, ap, subst, ◌∙◌, arith}
use Rattle.std.proofs.lemmas.List.{map_more, take_all}
use Rattle.rl_world.specs.declared.item.Item.{Item}
use Rattle.rl_audit.specs.Merged.{item_of, Describes}
use Rattle.rl_audit.specs.declared.notes.Index.{Index}
use Rattle.rl_audit.specs.declared.receipt.Note.{Note}
use Rattle.rl_audit.proofs.Claiming.{all_met, none_met, one_met, AreMet}
use Rattle.rl_audit.proofs.Noting.{sizes_there}
use Rattle.rl_audit.proofs.notes.audit_notes.Goals as goal

pub loop-caller-init : goal.loop-caller-init
loop-caller-init g c =
    let books = c.args.books.now in
    let histories : List (List Item) = map (λ book. book.history.items) books in
    let flags = c.in_ok-flags.flags in
    let made = c.in_ok-flags.ensures in
    let many = c.deref-2.ensures.value ∙ c.in_ok-sizes_of.ensures ∙ ap (map (λ (own : Index). own.items)) c.deref.ensures.value ∙ c.in_ok-indices.ensures.items in
    none_met histories (item_of histories) Describes flags.flags.items flags.nexts (made.sizes ∙ many ∙ sizes_there (λ book. book.history.items) books) made.fresh

pub loop-caller-preserved : goal.loop-caller-preserved
loop-caller-preserved g c =
    let histories : List (List Item) = map (λ book. book.history.items) c.args.books.now in
    let callers = c.args.callers.now in
    let notes = g.C.Carrier.notes in
    let i = c.loop-caller.caller-index in
    let claims = c.notes.result.now in
    let less : i < length callers = omega arith in
    let is : claims ≡ notes (get_or callers i c.caller-item.result) = c.notes.ensures ∙ ap notes c.caller-item.is in
    let whole : map notes (take (i + 1) callers) ≡ map notes (take i callers) ++ claims ∷ [] = map_more notes callers i c.caller-item.result less ∙ ap (λ (claims : List Note). map notes (take i callers) ++ claims ∷ []) (sym is) in
    let claim = c.in_ok-claim_all.ensures in
    let before = c.loop-caller.flags in
    let between = c.claim_all.new.flags in
    let after = c.next_caller.new.self in
    subst (AreMet histories (item_of histories) Describes after.flags.items after.nexts) (sym whole)
    (one_met histories (item_of histories) Describes before.flags.items between.flags.items after.flags.items before.nexts between.nexts after.nexts (map notes (take i callers)) claims c.loop-caller.invariant claim.claimed c.next_caller.ensures.begun (c.next_caller.ensures.sizes ∙ claim.sizes) claim.right)

pub returns : goal.returns
returns g c =
    let histories : List (List Item) = map (λ book. book.history.items) c.args.books.now in
    let callers = c.args.callers.now in
    let flags = c.loop-caller.flags in
    let all : take c.loop-caller.caller-index callers ≡ callers = take_all c.loop-caller.caller-index callers (omega arith) in
    let met = subst (λ callers. AreMet histories (item_of histories) Describes flags.flags.items flags.nexts (map g.C.Carrier.notes callers)) all c.loop-caller.invariant in
    all_met histories (item_of histories) Describes flags.flags.items flags.nexts (map g.C.Carrier.notes callers) met c.in-None.ensures.all
