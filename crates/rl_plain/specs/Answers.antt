-- What a reader answers: a value or the first fault, or, where it needs memory, that memory ran out.
use Rattle.std.specs.Prelude.{◌≡◌, List, ◌++◌, Result, Ok, Err}
use Rattle.rl_plain.specs.declared.refusal.OrMemory.{OrMemory}
use Rattle.rl_plain.specs.declared.refusal.OrMemory.TheVariants.{Fault, Memory}

-- what follows a value; a fault stays
infixl 10 ◌>>=◌
abbrev pub ◌>>=◌ : {A B F : Type 0} → Result A F → (A → Result B F) → Result B F
(Ok x) >>= f = f x
(Err e) >>= f = Err e

-- an error is the fault of the reading, unless memory ran out
abbrev pub Fails : {Y F : Type 0} → OrMemory F → Result Y F → Type 0
Fails Memory read = Unit {0}
Fails (Fault fault) read = read ≡ Err fault

-- what a function returned, seen by view, is what reading gives, unless memory ran out
abbrev pub Gives : {X Y F : Type 0} → (X → Y) → Result X (OrMemory F) → Result Y F → Type 0
Gives view (Ok x) read = read ≡ Ok (view x)
Gives view (Err e) read = Fails e read

-- as `Gives`, of a function that needs no memory
abbrev pub Answers : {X Y F : Type 0} → (X → Y) → Result X F → Result Y F → Type 0
Answers view (Ok x) read = read ≡ Ok (view x)
Answers view (Err fault) read = read ≡ Err fault

-- what was read before, and what is still read
abbrev pub with_front : {A F : Type 0} → List A → Result (List A) F → Result (List A) F
with_front front read = read >>= λ xs. Ok (front ++ xs)
