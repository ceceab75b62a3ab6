-- One note more.
use Rattle.std.proofs.Common.{◌≡◌, ◌+◌, ◌<◌, ◌++◌, ◌∷◌, [], List, length, map, take, refl, sym, ap, subst, ◌∙◌, arith}
use Rattle.std.specs.List.{AllByRecursion}
use Rattle.std.proofs.lemmas.List.{map_more, take_all, take_more}
use Rattle.rl_world.specs.declared.item.Item.{Item}
use Rattle.rl_audit.specs.Claims.{IsRight, Place}
use Rattle.rl_audit.specs.Flagged.{StandFor}
use Rattle.rl_audit.specs.Merged.{item_of, Describes}
use Rattle.rl_audit.specs.declared.receipt.Note.{Note}
use Rattle.rl_audit.proofs.Flagging.{all_more}
use Rattle.rl_audit.proofs.notes.claim_all.Goals as goal

pub loop-note-preserved : goal.loop-note-preserved
loop-note-preserved g c =
    let histories : List (List Item) = map (λ book. book.history.items) c.args.books.now in
    let notes = c.args.notes.now in
    let i = c.loop-note.note-index in
    let note = c.note-item.result in
    let met = c.loop-note.invariant in
    let less : i < length notes = omega arith in
    let after = c.claim.new.self in
    let named = map (item_of histories) (take i notes) in
    let one : map (item_of histories) (take (i + 1) notes) ≡ named ++ (c.in-Some.group, c.in-Some.index) ∷ [] =
    map_more (item_of histories) notes i note less
    ∙ ap (λ (note : Note). named ++ item_of histories note ∷ []) (sym c.note-item.is)
    ∙ ap (λ (place : Place). named ++ place ∷ []) (sym c.in-Some.ensures.named) in
    let more : take (i + 1) notes ≡ take i notes ++ note ∷ [] = take_more notes i note less ∙ ap (λ (note : Note). take i notes ++ note ∷ []) (sym c.note-item.is) in
    record {
      sizes = c.claim.ensures.sizes ∙ met.sizes;
      claimed = λ before stand. subst (λ (places : List Place). StandFor after.flags.items after.nexts before places) (sym one)
          (c.if-not-claim.ensures.claimed refl before named (met.claimed before stand));
      right = subst (AllByRecursion (IsRight histories (item_of histories) Describes)) (sym more)
          (all_more (IsRight histories (item_of histories) Describes) (take i notes) note met.right (c.in-Some.ensures.right refl));
    }

pub returns-clause-claimed : goal.returns-clause-claimed
returns-clause-claimed g c before stand =
    let histories : List (List Item) = map (λ book. book.history.items) c.args.books.now in
    let notes = c.args.notes.now in
    let flags = c.loop-note.flags in
    subst (λ (notes : List Note). StandFor flags.flags.items flags.nexts before (map (item_of histories) notes)) (take_all c.loop-note.note-index notes (omega arith)) (c.loop-note.invariant.claimed before stand)
