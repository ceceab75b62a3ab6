-- The callers so far were met.
use Rattle.std.proofs.Common.{map, take}
use Rattle.rl_audit.specs.Merged.{item_of, Describes}
use Rattle.rl_audit.proofs.Claiming.{AreMet}
use Rattle.rl_audit.proofs.notes.audit_notes.Given as goal

abbrev pub invariant-loop-caller : goal.invariant-loop-caller
invariant-loop-caller g l =
    let histories = map (λ book. book.history.items) l.books in
    AreMet histories (item_of histories) Describes l.flags.flags.items l.flags.nexts (map g.C.Carrier.notes (take l.caller-index l.callers))
