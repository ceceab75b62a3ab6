-- How a sink is seen, and what a call makes of that.
use Rattle.std.specs.Prelude.{ℕ, ◌+◌, ◌-◌, ◌%◌, ◌^◌, ◌==◌, Bool, true, false, not, List, [], ◌∷◌, ◌++◌, length, drop, Option, None, Some}
use Rattle.rl_sinks.specs.declared.sink.SinkFault.{SinkFault}
use Rattle.rl_sinks.specs.declared.sink.SinkFault.TheVariants as faults
use Rattle.rl_sinks.specs.declared.sink.SinkKind.{SinkKind}

pub record SinkState : Type 0 where
  pub kind : SinkKind
  -- how many texts it keeps, if not all
  pub limit : Option ℕ
  -- how many texts it has taken
  pub count : ℕ
  -- the texts that it keeps, oldest first
  pub kept : List (List ℕ)
  pub closed : Bool
  -- how often it refused to take a text, and how often it was pumped, modulo 2 to the power 64
  pub refusals : ℕ
  pub pumps : ℕ
  -- whether the last pump or close could not write all
  pub failed : Bool

-- a list, or its last texts where there is a limit
abbrev pub within : Option ℕ → List (List ℕ) → List (List ℕ)
within None texts = texts
within (Some limit) texts = drop (length texts - limit) texts

-- one text more
abbrev pub taken : SinkState → List ℕ → SinkState
taken sink text = record { kind = sink.kind; limit = sink.limit; count = sink.count + 1; kept = within sink.limit (sink.kept ++ text ∷ []); closed = sink.closed; refusals = sink.refusals; pumps = sink.pumps; failed = sink.failed }

-- a text refused
abbrev pub refused : SinkState → SinkState
refused sink = record { kind = sink.kind; limit = sink.limit; count = sink.count; kept = sink.kept; closed = sink.closed; refusals = (sink.refusals + 1) % 2 ^ 64; pumps = sink.pumps; failed = sink.failed }

-- pumped once more, and closed, which failed or did not
abbrev pub pumped : SinkState → Bool → SinkState
pumped sink failed = record { kind = sink.kind; limit = sink.limit; count = sink.count; kept = sink.kept; closed = sink.closed; refusals = sink.refusals; pumps = (sink.pumps + 1) % 2 ^ 64; failed = failed }

abbrev pub closed : SinkState → Bool → SinkState
closed sink failed = record { kind = sink.kind; limit = sink.limit; count = sink.count; kept = sink.kept; closed = true; refusals = sink.refusals; pumps = sink.pumps; failed = failed }

-- what a sink that is open may refuse a text for: room, a reason of its own or memory; reason 1 is that of a closed sink, and
-- only a pump or a close fails to write
abbrev pub is_open_refusal : SinkFault → Bool
is_open_refusal faults.Full = true
is_open_refusal (faults.Refused reason) = not (reason == 1)
is_open_refusal faults.Memory = true
is_open_refusal faults.WriteFault = false
