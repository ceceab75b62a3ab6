-- What the refusals of reads and of writes are where a stream is rewritten.
use Rattle.rl_parts.specs.declared.fault.ReadFault.{ReadFault}
use Rattle.rl_parts.specs.declared.fault.ReadFault.TheVariants as reads
use Rattle.rl_parts.specs.declared.fault.FlushFault.{FlushFault}
use Rattle.rl_parts.specs.declared.fault.FlushFault.TheVariants as flushes
use Rattle.rl_parts.specs.declared.fault.RewriteFault.{RewriteFault}
use Rattle.rl_parts.specs.declared.fault.RewriteFault.TheVariants as rewrites

abbrev pub unread : ReadFault → RewriteFault
unread reads.Fault = rewrites.Fault
unread reads.Damaged = rewrites.Damaged
unread reads.Memory = rewrites.Memory

abbrev pub unput : FlushFault → RewriteFault
unput flushes.Fault = rewrites.Fault
unput flushes.NumbersSpent = rewrites.NumbersSpent
unput flushes.Memory = rewrites.Memory
