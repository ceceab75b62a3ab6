-- Where reading stops, and why.
use Rattle.std.specs.Prelude.{ℕ, List, [], ◌∷◌, Result, Ok, Err}
use Rattle.rl_query.specs.declared.fault.QueryFault.{QueryFault}
use Rattle.rl_query.specs.declared.fault.QueryFault.TheVariants as faults
use Rattle.rl_query.specs.declared.token.Lexeme.{Lexeme}
use Rattle.rl_selector_text.specs.declared.stop.Stop.{Stop}

abbrev pub stop : QueryFault → ℕ → Stop
stop fault offset = record { fault = fault; offset = offset }

abbrev pub syntax : ℕ → Stop
syntax offset = stop (faults.Syntax offset) offset

abbrev pub unsupported : ℕ → Stop
unsupported offset = stop (faults.Unsupported offset) offset

-- the offset at which tokens begin
abbrev pub offset_of : List Lexeme → ℕ
offset_of [] = 0
offset_of (lexeme ∷ lexemes) = lexeme.offset

-- what was read, or why reading stopped
abbrev pub fault_of : {A : Type 0} → Result A Stop → Result A QueryFault
fault_of (Ok read) = Ok read
fault_of (Err stopped) = Err stopped.fault
