-- How a sink is seen that keeps every text and writes them: a recorder or a notifier.
use Rattle.std.specs.Prelude.{◌≡◌, ◌≢◌, ◌⊎◌, ℕ, ◌+◌, ◌-◌, ◌%◌, ◌^◌, ◌≤◌, nat_le, ⊤, Bool, true, false, not, ◌&&◌, IsTrue, List, [], ◌∷◌, ◌++◌, length, None, Result, Err, IsOk, OnOk, OnErr, refl}
use Rattle.std.specs.Coded.{Coded, code_by, coded×, coded_list, coded_ℕ, coded_bool}
use Rattle.rl_sinks.specs.SinkState.{SinkState}
use Rattle.rl_sinks.specs.Pieces.{IsPosition, pieces, rest_of}
use Rattle.rl_sinks.specs.declared.sink.SinkKind.{SinkKind}
use Rattle.rl_sinks.specs.declared.sink.SinkFault.{SinkFault}
use Rattle.rl_sinks.specs.declared.sink.SinkFault.TheVariants as faults

-- texts over a writer
pub record Logged (W : Type 0) : Type 0 where
  pub writer : W
  -- how many texts may wait to be written
  pub room : ℕ
  -- every text that was taken, oldest first
  pub texts : List (List ℕ)
  -- how many pieces are wholly written, texts and then the parts of the last line, and how many bytes of the next one
  pub next : ℕ
  pub part : ℕ
  pub closed : Bool
  -- how often a text was refused, and how often texts were pumped, modulo 2 to the power 64
  pub refusals : ℕ
  pub pumps : ℕ
  -- whether the last pump or close could not write all
  pub failed : Bool

-- such texts as numbers, for a store
abbrev pub logged_code : {W : Type 0} → Coded W → Coded (Logged W)
logged_code {W} writer = code_by (W × (ℕ × (List (List ℕ) × (ℕ × (ℕ × (Bool × (ℕ × (ℕ × Bool))))))))
    (coded× writer (coded× coded_ℕ (coded× (coded_list (coded_list coded_ℕ)) (coded× coded_ℕ (coded× coded_ℕ (coded× coded_bool (coded× coded_ℕ (coded× coded_ℕ coded_bool))))))))
    (λ r. (r.writer, (r.room, (r.texts, (r.next, (r.part, (r.closed, (r.refusals, (r.pumps, r.failed)))))))))
    (λ p. record { writer = p.0; room = p.1.0; texts = p.1.1.0; next = p.1.1.1.0; part = p.1.1.1.1.0; closed = p.1.1.1.1.1.0; refusals = p.1.1.1.1.1.1.0; pumps = p.1.1.1.1.1.1.1.0; failed = p.1.1.1.1.1.1.1.1 })
    (λ _. refl)

-- what is written ends in the pieces, and in the texts until the last line is wanted
pub record IsLogged (texts : List (List ℕ)) (next part : ℕ) (closed : Bool) : Type 0 where
  pub position : IsPosition (pieces true texts (length texts)) next part
  pub open_in_texts : IsTrue (not closed) → IsPosition texts next part

module _ {W : Type 0} where
  -- with nothing taken, and nothing written
  abbrev pub new_log : W → ℕ → Logged W
  new_log writer room = record { writer = writer; room = room; texts = []; next = 0; part = 0; closed = false; refusals = 0; pumps = 0; failed = false }

  -- with one text more
  abbrev pub with_text : Logged W → List ℕ → Logged W
  with_text log text = record { writer = log.writer; room = log.room; texts = log.texts ++ text ∷ []; next = log.next; part = log.part; closed = log.closed; refusals = log.refusals; pumps = log.pumps; failed = log.failed }

  -- with a text refused
  abbrev pub with_refusal : Logged W → Logged W
  with_refusal log = record { writer = log.writer; room = log.room; texts = log.texts; next = log.next; part = log.part; closed = log.closed; refusals = (log.refusals + 1) % 2 ^ 64; pumps = log.pumps; failed = log.failed }

  -- where the other stands with its writer, once pumped or closed, which failed or did not
  abbrev pub pumped_as : Logged W → Logged W → Bool → Logged W
  pumped_as log other failed = record { writer = other.writer; room = log.room; texts = log.texts; next = other.next; part = other.part; closed = log.closed; refusals = log.refusals; pumps = (log.pumps + 1) % 2 ^ 64; failed = failed }

  abbrev pub closed_as : Logged W → Logged W → Bool → Logged W
  closed_as log other failed = record { writer = other.writer; room = log.room; texts = log.texts; next = other.next; part = other.part; closed = true; refusals = log.refusals; pumps = log.pumps; failed = failed }

  -- every text is kept
  abbrev pub log_state : SinkKind → Logged W → SinkState
  log_state kind log = record { kind = kind; limit = None; count = length log.texts; kept = log.texts; closed = log.closed; refusals = log.refusals; pumps = log.pumps; failed = log.failed }

  -- what a pump writes: the rest of the texts
  abbrev pub unwritten_texts : Logged W → List ℕ
  unwritten_texts log = rest_of log.texts log.next log.part

  -- what a close writes: the last line too
  abbrev pub unwritten : Logged W → List ℕ
  unwritten log = rest_of (pieces true log.texts (length log.texts)) log.next log.part

  -- the texts that wait to be written fill the room
  abbrev pub is_full : Logged W → Bool
  is_full log = nat_le log.room (length log.texts - log.next)

  -- a text is refused where the sink is closed, for reason 1, and where it is full; else it is taken, unless memory runs out
  abbrev pub TakeAnswers : Logged W → Result ⊤ SinkFault → Type 0
  TakeAnswers log answer =
      (IsTrue log.closed → answer ≡ Err (faults.Refused 1))
      × (IsTrue (not log.closed && is_full log) → answer ≡ Err faults.Full)
      × (IsTrue (not log.closed && not (is_full log)) → IsOk answer ⊎ (answer ≡ Err faults.Memory))

  -- it is pumped well exactly where no text waits any more
  abbrev pub PumpAnswers : Logged W → Result ⊤ SinkFault → Type 0
  PumpAnswers log answer = OnOk answer (length log.texts ≤ log.next) × OnErr answer (unwritten_texts log ≢ [])

  -- it closes well exactly where nothing is left to write
  abbrev pub CloseAnswers : Logged W → Result ⊤ SinkFault → Type 0
  CloseAnswers log answer = OnOk answer (unwritten log ≡ []) × OnErr answer (unwritten log ≢ [])
