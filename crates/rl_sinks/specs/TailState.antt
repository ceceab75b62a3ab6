-- How a sink is seen that keeps the last texts.
use Rattle.std.specs.Prelude.{◌≡◌, ◌≢◌, ◌⊎◌, ℕ, ◌+◌, ◌%◌, ◌^◌, ⊤, Bool, true, false, not, IsTrue, List, [], ◌∷◌, ◌++◌, Some, Result, Err, IsOk, OnOk, OnErr, refl}
use Rattle.std.specs.Coded.{Coded, code_by, coded×, coded_list, coded_ℕ, coded_bool}
use Rattle.rl_sinks.specs.SinkState.{SinkState, within}
use Rattle.rl_sinks.specs.Pieces.{IsPosition, pieces, rest_of}
use Rattle.rl_sinks.specs.declared.sink.SinkKind.TheVariants as kinds
use Rattle.rl_sinks.specs.declared.sink.SinkFault.{SinkFault}
use Rattle.rl_sinks.specs.declared.sink.SinkFault.TheVariants as faults

-- the last texts, over a writer
pub record Tailed (W : Type 0) : Type 0 where
  pub writer : W
  -- how many texts are kept
  pub limit : ℕ
  -- those that are, oldest first
  pub kept : List (List ℕ)
  -- how many were taken
  pub count : ℕ
  -- how many pieces are wholly written, kept texts and then the parts of the last line, and how many bytes of the next one
  pub next : ℕ
  pub part : ℕ
  pub closed : Bool
  -- how often a text was refused, and how often it was pumped, modulo 2 to the power 64
  pub refusals : ℕ
  pub pumps : ℕ
  -- whether the last pump or close could not write all
  pub failed : Bool

-- such texts as numbers, for a store
abbrev pub tailed_code : {W : Type 0} → Coded W → Coded (Tailed W)
tailed_code {W} writer = code_by (W × (ℕ × (List (List ℕ) × (ℕ × (ℕ × (ℕ × (Bool × (ℕ × (ℕ × Bool)))))))))
    (coded× writer (coded× coded_ℕ (coded× (coded_list (coded_list coded_ℕ)) (coded× coded_ℕ (coded× coded_ℕ (coded× coded_ℕ (coded× coded_bool (coded× coded_ℕ (coded× coded_ℕ coded_bool)))))))))
    (λ r. (r.writer, (r.limit, (r.kept, (r.count, (r.next, (r.part, (r.closed, (r.refusals, (r.pumps, r.failed))))))))))
    (λ p. record { writer = p.0; limit = p.1.0; kept = p.1.1.0; count = p.1.1.1.0; next = p.1.1.1.1.0; part = p.1.1.1.1.1.0; closed = p.1.1.1.1.1.1.0; refusals = p.1.1.1.1.1.1.1.0; pumps = p.1.1.1.1.1.1.1.1.0; failed = p.1.1.1.1.1.1.1.1.1 })
    (λ _. refl)

-- what is written ends in the pieces, and nothing is written until it is closed
pub record IsTailed (kept : List (List ℕ)) (count next part : ℕ) (closed : Bool) : Type 0 where
  pub position : IsPosition (pieces true kept count) next part
  pub open_at_start : IsTrue (not closed) → (next ≡ 0) × (part ≡ 0)

module _ {W : Type 0} where
  -- with nothing taken, and nothing written
  abbrev pub new_tail : W → ℕ → Tailed W
  new_tail writer limit = record { writer = writer; limit = limit; kept = []; count = 0; next = 0; part = 0; closed = false; refusals = 0; pumps = 0; failed = false }

  -- with one text more, and the oldest gone where there are too many
  abbrev pub with_text : Tailed W → List ℕ → Tailed W
  with_text tail text = record { writer = tail.writer; limit = tail.limit; kept = within (Some tail.limit) (tail.kept ++ text ∷ []); count = tail.count + 1; next = tail.next; part = tail.part; closed = tail.closed; refusals = tail.refusals; pumps = tail.pumps; failed = tail.failed }

  -- with a text refused
  abbrev pub with_refusal : Tailed W → Tailed W
  with_refusal tail = record { writer = tail.writer; limit = tail.limit; kept = tail.kept; count = tail.count; next = tail.next; part = tail.part; closed = tail.closed; refusals = (tail.refusals + 1) % 2 ^ 64; pumps = tail.pumps; failed = tail.failed }

  -- pumped, which writes nothing
  abbrev pub pumped_tail : Tailed W → Tailed W
  pumped_tail tail = record { writer = tail.writer; limit = tail.limit; kept = tail.kept; count = tail.count; next = tail.next; part = tail.part; closed = tail.closed; refusals = tail.refusals; pumps = (tail.pumps + 1) % 2 ^ 64; failed = false }

  -- closed, where the other stands with its writer, which failed or did not
  abbrev pub closed_as : Tailed W → Tailed W → Bool → Tailed W
  closed_as tail other failed = record { writer = other.writer; limit = tail.limit; kept = tail.kept; count = tail.count; next = other.next; part = other.part; closed = true; refusals = tail.refusals; pumps = tail.pumps; failed = failed }

  abbrev pub tail_state : Tailed W → SinkState
  tail_state tail = record { kind = kinds.Tail; limit = Some tail.limit; count = tail.count; kept = tail.kept; closed = tail.closed; refusals = tail.refusals; pumps = tail.pumps; failed = tail.failed }

  -- what a close writes: the kept texts, and the last line
  abbrev pub unwritten : Tailed W → List ℕ
  unwritten tail = rest_of (pieces true tail.kept tail.count) tail.next tail.part

  -- a text is refused where the sink is closed, for reason 1; else it is taken, unless memory runs out
  abbrev pub TakeAnswers : Tailed W → Result ⊤ SinkFault → Type 0
  TakeAnswers tail answer = (IsTrue tail.closed → answer ≡ Err (faults.Refused 1)) × (IsTrue (not tail.closed) → IsOk answer ⊎ (answer ≡ Err faults.Memory))

  -- a pump has nothing to write
  abbrev pub PumpAnswers : Tailed W → Result ⊤ SinkFault → Type 0
  PumpAnswers tail answer = IsOk answer

  -- it closes well exactly where nothing is left to write
  abbrev pub CloseAnswers : Tailed W → Result ⊤ SinkFault → Type 0
  CloseAnswers tail answer = OnOk answer (unwritten tail ≡ []) × OnErr answer (unwritten tail ≢ [])
