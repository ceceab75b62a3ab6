-- The notes so far claimed their items, and are right.
use Rattle.std.proofs.Common.{◌≡◌, [], List, length, map, take}
use Rattle.std.specs.List.{AllByRecursion}
use Rattle.rl_audit.specs.Claims.{IsRight, Place}
use Rattle.rl_audit.specs.Flagged.{StandFor}
use Rattle.rl_audit.specs.Merged.{item_of, Describes}
use Rattle.rl_audit.proofs.notes.claim_all.Given as goal

abbrev pub invariant-loop-note : goal.invariant-loop-note
invariant-loop-note g l =
    let histories = map (λ book. book.history.items) l.books in
    record {
      sizes : map length l.flags.flags.items ≡ map length l.fn.flags.flags.items;
      claimed : (before : List Place) → StandFor l.fn.flags.flags.items l.fn.flags.nexts before [] → StandFor l.flags.flags.items l.flags.nexts before (map (item_of histories) (take l.note-index l.notes));
      right : AllByRecursion (IsRight histories (item_of histories) Describes) (take l.note-index l.notes);
    }
