-- How a printer stands, and what it prints.
use Rattle.std.specs.Prelude.{◌≡◌, ℕ, ◌≤◌, Bool, false, List, [], ◌∷◌, ◌++◌, length, Option, None, Some, option_map}
use Rattle.std.specs.Io.KnownBytes.{Appends, append_known}
use Rattle.rl_sinks.specs.Pieces.{Writes}

-- a printer by its writer, whose bytes are said where they are known
pub record Printing : Type 0 where
  -- how many it held when the printer was made
  pub start : ℕ
  -- what it holds
  pub held : Option (List ℕ)
  -- what it would hold if no write had failed: all that it held then, and all that was printed since
  pub asked : Option (List ℕ)
  -- whether a write failed
  pub failed : Bool

abbrev pub known_length : Option (List ℕ) → ℕ
known_length None = 0
known_length (Some bytes) = length bytes

-- by its writer as it was given and as it is, and what could not be written
abbrev pub printing : Option (List ℕ) → Option (List ℕ) → List ℕ → Bool → Printing
printing start held left failed = record { start = known_length start; held = held; asked = append_known held left; failed = failed }

-- one that was just made
abbrev pub new_printing : Option (List ℕ) → Printing
new_printing held = record { start = known_length held; held = held; asked = held; failed = false }

-- what is written follows what was there, and all is written where no write failed
abbrev pub AreWritten : Option (List ℕ) → Option (List ℕ) → List ℕ → Bool → Type 0
AreWritten start held left failed = (failed ≡ false → left ≡ []) × ((front : List ℕ) × Appends start held front)

-- a printer as one list, of which both can be read off: how many bytes there were, and all that is asked for
unfoldable pub as_list : Printing → Option (List ℕ)
as_list p = option_map (λ bytes. p.start ∷ bytes) p.asked

-- a text is printed: it is asked for after all that was, and the start stays
abbrev pub Prints : Printing → List ℕ → Printing → Type 0
Prints old text new = Appends (as_list old) (as_list new) text

-- the writer holds a front of what was asked for, and no less than at the start
abbrev pub IsFront : ℕ → Option (List ℕ) → Option (List ℕ) → Type 0
IsFront start None asked = asked ≡ None
IsFront start (Some held) asked = (left : List ℕ) × (asked ≡ Some (held ++ left)) × (start ≤ length held)

abbrev pub HoldsFront : Printing → Type 0
HoldsFront p = IsFront p.start p.held p.asked

-- a text was printed, and all that was asked for is written; of a new printer that is the text
pub record IsAllPrinted (before : Printing) (text : List ℕ) (after : Printing) : Type 0 where
  pub prints : Prints before text after
  pub all : after.held ≡ after.asked
  pub anew : before ≡ new_printing before.held → Appends before.held after.held text

-- a text was printed, and a front of what was asked for is written; of a new printer that is a front of the text
pub record IsCutOff (before : Printing) (text : List ℕ) (after : Printing) : Type 0 where
  pub prints : Prints before text after
  pub front : HoldsFront after
  pub anew : before ≡ new_printing before.held → (left : List ℕ) × Writes before.held after.held text left
