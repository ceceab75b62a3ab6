-- The status of the process, by how the program ended.
use Rattle.std.specs.Prelude.{ℕ, Result, Ok, Err}
use Rattle.rule_shell.specs.declared.Stop.{Stop}
use Rattle.rule_shell.specs.declared.Stop.TheVariants.{BadOptions, BadFolder, BadInput, Failed}
use Rattle.rl_plain.specs.declared.refusal.OrMemory.{OrMemory}
use Rattle.rl_plain.specs.declared.refusal.OrMemory.TheVariants as errors
use Rattle.rl_session.specs.declared.front.fault.FrontFault.{FrontFault}
use Rattle.rl_session.specs.declared.front.fault.FrontFault.TheVariants as faults
use Rattle.rl_session.specs.declared.session.Status.{Status}
use Rattle.rl_session.specs.declared.session.Status.TheVariants.{Taken, Refused, Unwritten}

-- what an input that gave no commands stops the program with
abbrev pub stop_at : OrMemory FrontFault → Stop
stop_at (errors.Fault faults.ReadFault) = Failed
stop_at (errors.Fault fault) = BadInput fault
stop_at errors.Memory = Failed

abbrev pub status_number : Result Status Stop → ℕ
status_number (Ok Taken) = 0
status_number (Ok Refused) = 1
status_number (Ok Unwritten) = 3
status_number (Err BadOptions) = 2
status_number (Err (BadFolder fault)) = 2
status_number (Err (BadInput fault)) = 2
status_number (Err Failed) = 3
