-- What follows from answers of calls.
use Rattle.std.specs.Prelude.{Result, Ok, Err, IfOk, OnOk}
use Rattle.rl_parts.specs.StoreUse.{Right}
use Rattle.rl_parts.specs.declared.fault.ReadFault.{ReadFault}
use Rattle.rl_parts.specs.declared.fault.ReadFault.TheVariants as reads

-- a fault that was right to answer of one thing is right to answer of another
pub right_on : {A B : Type 0} (fault : ReadFault) (P : A → Type 0) (Q : B → Type 0) → Right {A = A} (Err fault) P → Right {A = B} (Err fault) Q
right_on reads.Fault P Q h = tt
right_on reads.Damaged P Q h = h
right_on reads.Memory P Q h = tt

-- what follows from the answer
pub right_then : {A : Type 0} (P Q : A → Type 0) → ((answer : A) → P answer → Q answer) → (result : Result A ReadFault) → Right result P → Right result Q
right_then P Q f (Ok answer) h = f answer h
right_then P Q f (Err fault) h = right_on fault P Q h

-- what follows where the call was not refused
pub ok_then : {A E : Type 0} (P Q : A → Type 0) → ((answer : A) → P answer → Q answer) → (result : Result A E) → IfOk result P → IfOk result Q
ok_then P Q f (Ok answer) h = f answer h
ok_then P Q f (Err fault) h = tt

pub on_ok_then : {A E P Q : Type 0} → (P → Q) → (result : Result A E) → OnOk result P → OnOk result Q
on_ok_then f (Ok answer) h = f h
on_ok_then f (Err fault) h = tt
