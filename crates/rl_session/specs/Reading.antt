-- Reading to the end, with a limit for the bytes and for the turns.
use Rattle.std.specs.Prelude.{◌≡◌, ℕ, ◌<◌, ◌≤◌, ◌⊎◌, List, length, Option, Result, Ok, Err}
use Rattle.std.specs.List.{concat}
use Rattle.std.specs.Io.KnownBytes.{Consumes, IsAtEnd}
use Rattle.rl_plain.specs.declared.refusal.OrMemory.{OrMemory}
use Rattle.rl_plain.specs.declared.refusal.OrMemory.TheVariants.{Fault, Memory}
use Rattle.rl_session.specs.Front.{FrontForm, Says}
use Rattle.rl_session.specs.declared.front.fault.FrontFault.{FrontFault}
use Rattle.rl_session.specs.declared.front.fault.FrontFault.TheVariants as faults

-- how reading ended, where its turns gave these pieces
abbrev pub Ends : ℕ → Option (List ℕ) → List (List ℕ) → Result (List ℕ) FrontFault → Type 0
Ends most new pieces (Ok bytes) = (bytes ≡ concat pieces) × (length bytes ≤ most) × IsAtEnd new
Ends most new pieces (Err faults.ReadFault) = length (concat pieces) ≤ most
Ends most new pieces (Err faults.TooLong) = (most < length (concat pieces)) ⊎ (length pieces ≡ most)
Ends most new pieces (Err _) = ⊥

-- each turn took a piece off the reader, an empty one where it was interrupted, failed or at the end, and then reading ended
abbrev pub Reads : ℕ → Option (List ℕ) → Option (List ℕ) → Result (List ℕ) FrontFault → Type 0
Reads most old new answer = (pieces : List (List ℕ)) × (length pieces ≤ most) × Consumes old new (concat pieces) × Ends most new pieces answer

-- what the bytes that were read are answered to say, or why reading them failed
abbrev pub SaysRead : Result (List ℕ) FrontFault → Result FrontForm FrontFault → Type 0
SaysRead (Ok bytes) answer = Says bytes answer
SaysRead (Err fault) answer = answer ≡ Err fault

-- reading ended, and this is answered of what was read
abbrev pub ReadsFront : ℕ → Option (List ℕ) → Option (List ℕ) → Result FrontForm FrontFault → Type 0
ReadsFront most old new answer = (read : Result (List ℕ) FrontFault) × Reads most old new read × SaysRead read answer

-- what is answered where all bytes of the reader are known: what they say, unless reading them failed
abbrev pub ReadsAll : ℕ → List ℕ → Result FrontForm FrontFault → Type 0
ReadsAll most all (Err faults.ReadFault) = Unit {0}
ReadsAll most all (Err faults.TooLong) = Unit {0}
ReadsAll most all answer = (length all ≤ most) × Says all answer

-- what a function returned, seen by view, is an answer of this kind, unless memory ran out
abbrev pub GivesOne : {X Y : Type 0} → (X → Y) → (Result Y FrontFault → Type 0) → Result X (OrMemory FrontFault) → Type 0
GivesOne view IsAnswer (Ok x) = IsAnswer (Ok (view x))
GivesOne view IsAnswer (Err (Fault fault)) = IsAnswer (Err fault)
GivesOne view IsAnswer (Err Memory) = Unit {0}
