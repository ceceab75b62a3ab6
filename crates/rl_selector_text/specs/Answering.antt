-- What a reader may answer. When a pattern takes too much room no definition says, so BadRegex may come for that too.
use Rattle.std.specs.Prelude.{◌≡◌, ◌⊎◌, Bool, true, Result, Ok, Err}
use Rattle.rl_plain.specs.declared.refusal.OrMemory.{OrMemory}
use Rattle.rl_plain.specs.declared.refusal.OrMemory.TheVariants.{Fault, Memory}
use Rattle.rl_query.specs.declared.fault.QueryFault.{QueryFault}
use Rattle.rl_query.specs.declared.fault.QueryFault.TheVariants as faults

-- What is answered is what is read as if each pattern had room; or nothing for lack of memory; or, where that reading meets a pattern, BadRegex.
abbrev pub Reads : {X Y : Type 0} → (X → Y) → Result X (OrMemory QueryFault) → Result Y QueryFault → (meets_pattern : Bool) → Type 0
Reads view (Ok x) read meets_pattern = read ≡ Ok (view x)
Reads view (Err Memory) read meets_pattern = Unit {0}
Reads view (Err (Fault fault)) read meets_pattern = (read ≡ Err fault) ⊎ ((fault ≡ faults.BadRegex) × (meets_pattern ≡ true))

-- why a text is refused that is a query: for memory, or, where it has a pattern, for that
abbrev pub IsForRoom : (has_pattern : Bool) → OrMemory QueryFault → Type 0
IsForRoom has_pattern Memory = Unit {0}
IsForRoom has_pattern (Fault faults.BadRegex) = has_pattern ≡ true
IsForRoom has_pattern (Fault _) = ⊥
