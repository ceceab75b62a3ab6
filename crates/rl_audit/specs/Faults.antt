-- Faults of a shard, as an audit meets them.
use Rattle.rl_audit.specs.declared.fault.AuditFault.{AuditFault}
use Rattle.rl_audit.specs.declared.fault.AuditFault.TheVariants as faults
use Rattle.rl_shard.specs.declared.step.ShardFault.{ShardFault}
use Rattle.rl_shard.specs.declared.step.ShardFault.TheVariants as shard_faults

abbrev pub fault_of : ShardFault → AuditFault
fault_of shard_faults.Fault = faults.Fault
fault_of shard_faults.Damaged = faults.Damaged
fault_of _ = faults.Memory
