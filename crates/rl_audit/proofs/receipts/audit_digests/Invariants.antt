-- The callers so far were met.
use Rattle.std.proofs.Common.{map, take}
use Rattle.rl_audit.specs.Merged.{place_of, IsOf}
use Rattle.rl_audit.proofs.Claiming.{AreMet}
use Rattle.rl_audit.proofs.receipts.audit_digests.Given as goal

abbrev pub invariant-loop-caller : goal.invariant-loop-caller
invariant-loop-caller g l = AreMet l.digests place_of IsOf l.flags.flags.items l.flags.nexts (map g.C.Carrier.receipts (take l.caller-index l.callers))
