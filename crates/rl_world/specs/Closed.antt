-- How sinks are pumped or closed, and how many of them could not write all.
use Rattle.std.specs.Prelude.{◌≡◌, ℕ, ⊤, List, count_by, Result, is_err}
use Rattle.std.specs.List.{AllZip, flat_map}
use Rattle.rl_sinks.specs.SinkState.{SinkState, pumped, closed}
use Rattle.rl_sinks.specs.declared.sink.SinkFault.{SinkFault}
use Rattle.rl_world.specs.WorldState.{BookState, with_sinks}

-- a sink was pumped, or closed: what it is seen with after says whether it could write all
abbrev pub IsPumped : SinkState → SinkState → Type 0
IsPumped old new = new ≡ pumped old new.failed

abbrev pub IsClosed : SinkState → SinkState → Type 0
IsClosed old new = new ≡ closed old new.failed

-- a sink that is seen so stands for the answer of its last pump or close: an error where it could not write all
abbrev pub HasAnswered : {S : Type 0} → (S → SinkState) → (S → Result ⊤ SinkFault → Type 0) → SinkState → Type 0
HasAnswered {S} state Says sink = (own : S) × (answer : Result ⊤ SinkFault) × (state own ≡ sink) × Says own answer × (sink.failed ≡ is_err answer)

-- how many sinks could not write all
abbrev pub failures : List SinkState → ℕ
failures sinks = count_by (λ sink. sink.failed) sinks

-- a book whose sinks were closed, and that is else as it was
abbrev pub IsBookClosed : BookState → BookState → Type 0
IsBookClosed old new = (new ≡ with_sinks old new.sinks) × AllZip IsClosed old.sinks new.sinks

-- the sinks of books, those of one book after those of the other
abbrev pub sinks_of : List BookState → List SinkState
sinks_of books = flat_map (λ book. book.sinks) books
