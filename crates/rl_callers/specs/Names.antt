-- Names of the faults of a close.
use Rattle.std.specs.Prelude.{ℕ, List, codes}
use Rattle.rl_workers.specs.declared.fault.CloseFault.{CloseFault}
use Rattle.rl_workers.specs.declared.fault.CloseFault.TheVariants as faults

abbrev pub close_fault_name : CloseFault → List ℕ
close_fault_name faults.PassMissing = codes "PassMissing"
close_fault_name (faults.Mismatch shard place) = codes "Mismatch"
close_fault_name faults.Fault = codes "Fault"
close_fault_name faults.Damaged = codes "Damaged"
close_fault_name faults.Memory = codes "Memory"
