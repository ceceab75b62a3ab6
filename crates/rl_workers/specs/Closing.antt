-- What is left of a ruler that is closed.
use Rattle.std.specs.Prelude.{◌≡◌, ℕ, suc, true, false, List, [], ◌∷◌, ◌++◌, is_some, if◌then◌else◌}
use Rattle.std.specs.List.{AllByRecursion}
use Rattle.rl_sinks.specs.SinkState.{SinkState}
use Rattle.rl_world.specs.WorldState.{BookState, with_sinks}
use Rattle.rl_audit.specs.declared.fault.AuditFault.{AuditFault}
use Rattle.rl_audit.specs.declared.fault.AuditFault.TheVariants as audits
use Rattle.rl_workers.specs.declared.fault.CloseFault.{CloseFault}
use Rattle.rl_workers.specs.declared.fault.CloseFault.TheVariants as faults

-- the sinks of a group, from one on, that could not write all
abbrev pub unclosed_of : (group first : ℕ) → List SinkState → List (ℕ × ℕ)
unclosed_of group first [] = []
unclosed_of group first (sink ∷ sinks) = if sink.failed then (group, first) ∷ unclosed_of group (suc first) sinks else unclosed_of group (suc first) sinks

-- and those of all groups, from one on
abbrev pub unclosed_in : (first : ℕ) → List BookState → List (ℕ × ℕ)
unclosed_in first [] = []
unclosed_in first (book ∷ books) = unclosed_of first 0 book.sinks ++ unclosed_in (suc first) books

-- every sink of each book is closed
abbrev pub AreClosed : List BookState → Type 0
AreClosed books = AllByRecursion (λ book. AllByRecursion (λ sink. sink.closed ≡ true) book.sinks) books

-- a book without its sinks
abbrev pub without_sinks : BookState → BookState
without_sinks book = with_sinks book []

-- why a ruler is not closed, where the audit refuses
abbrev pub close_fault : AuditFault → CloseFault
close_fault (audits.Mismatch shard place) = faults.Mismatch shard place
close_fault audits.Fault = faults.Fault
close_fault audits.Damaged = faults.Damaged
close_fault audits.Memory = faults.Memory

abbrev pub IsOfAudit : CloseFault → Type 0
IsOfAudit fault = (why : AuditFault) × (fault ≡ close_fault why)

-- a book asks so many shards, and has no evaluation open
abbrev pub IsSeated : (shards : ℕ) → BookState → Type 0
IsSeated shards book = (is_some book.history.opened ≡ false) × (book.shards ≡ shards)
