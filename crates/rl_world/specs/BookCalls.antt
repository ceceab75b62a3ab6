-- What the calls of a book answer, and what they leave.
use Rattle.std.specs.Prelude.{◌≡◌, ℕ, suc, List, [], ◌∷◌, Option, None, Some, Result, Ok, Err, option_map}
use Rattle.rl_aggregate.specs.declared.partial.Partial.{Partial}
use Rattle.rl_rules.specs.declared.rule.Group.{Group}
use Rattle.rl_sinks.specs.SinkState.{SinkState}
use Rattle.rl_world.specs.History.{History}
use Rattle.rl_world.specs.WorldState.{BookState}
use Rattle.rl_world.specs.declared.fault.BookFault.{BookFault}
use Rattle.rl_plain.specs.declared.refusal.OrMemory.{OrMemory}
use Rattle.rl_plain.specs.declared.refusal.OrMemory.TheVariants as errors

-- a sink that has taken nothing
abbrev pub IsFresh : SinkState → Type 0
IsFresh sink = (sink.count ≡ 0) × (sink.kept ≡ [])

abbrev pub new_history : ℕ → Group → History (List Partial)
new_history records group = record { first = group; records = records; items = []; group = group; evaluations = []; opened = None }

abbrev pub new_book : ℕ → ℕ → ℕ → Group → List SinkState → BookState
new_book slot records shards group sinks = record { history = new_history records group; shards = shards; slot = slot; sinks = sinks }

-- a book for each group with its sinks, under the numbers from one on
abbrev pub books_from : ℕ → ℕ → ℕ → List Group → List (List SinkState) → List BookState
books_from slot records shards (group ∷ groups) (own ∷ sinks) = new_book slot records shards group own ∷ books_from (suc slot) records shards groups sinks
books_from slot records shards groups sinks = []

abbrev pub with_history : BookState → History (List Partial) → BookState
with_history book history = record { history = history; shards = book.shards; slot = book.slot; sinks = book.sinks }

-- the moment of the evaluation that is open
abbrev pub moment_of : History (List Partial) → Option ℕ
moment_of history = option_map (λ opened. opened.t) history.opened

-- a call that takes no memory is refused exactly for the fault, where there is one
abbrev pub Refuses : {A : Type 0} → Option BookFault → Result A BookFault → Type 0
Refuses (Some fault) result = result ≡ Err fault
Refuses None (Ok answer) = Unit {0}
Refuses None (Err fault) = ⊥

-- a call that takes memory is refused exactly for the fault, where there is one, and else may lack memory
abbrev pub Answers : {A : Type 0} → Option BookFault → Result A (OrMemory BookFault) → Type 0
Answers (Some fault) result = result ≡ Err (errors.Fault fault)
Answers None (Ok answer) = Unit {0}
Answers None (Err error) = error ≡ errors.Memory
