-- What a reader answers, computed at values.
use Rattle.std.specs.Prelude.{ℕ, Bool, true, false, Ok, Err}
use Rattle.rl_plain.specs.Answers.{Gives, Answers}
use Rattle.rl_plain.specs.declared.refusal.OrMemory.TheVariants.{Fault, Memory}

-- an answer is what was read, its fault, or lack of memory
no_other_answer : Gives {X = Bool} {F = ℕ} (λ b. b) (Ok true) (Ok false) → ⊥
no_other_answer e = cc

no_other_fault : Gives {X = Bool} {Y = Bool} {F = ℕ} (λ b. b) (Err (Fault 1)) (Err 2) → ⊥
no_other_fault e = cc

out_of_memory : Gives {X = Bool} {Y = Bool} {F = ℕ} (λ b. b) (Err Memory) (Ok true)
out_of_memory = tt

no_other_answer_without_memory : Answers {X = Bool} {F = ℕ} (λ b. b) (Ok true) (Ok false) → ⊥
no_other_answer_without_memory e = cc
