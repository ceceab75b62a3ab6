-- Runs of bytes at the front of a text.
use Rattle.std.specs.Prelude.{ℕ, Bool, List, ◌++◌, take, drop, Option}
use Rattle.std.specs.Option.{option_map}
use Rattle.std.specs.List.{prefix_len}
use Rattle.std.specs.Str.{IsUtf8, IsCharBoundary}

-- the longest front whose bytes pass, and what follows it
abbrev pub run_at : (ℕ → Bool) → List ℕ → List ℕ × List ℕ
run_at passes bytes = (take (prefix_len passes bytes) bytes, drop (prefix_len passes bytes) bytes)

-- a text that was read, after the bytes before it, and what follows it
abbrev pub onto : List ℕ → Option (List ℕ × List ℕ) → Option (List ℕ × List ℕ)
onto front read = option_map (λ x. (front ++ x.0, x.1)) read

-- any text may be cut after the longest front whose bytes pass
abbrev pub IsCutAfter : (ℕ → Bool) → Type 0
IsCutAfter passes = (text : List ℕ) → IsUtf8 text → IsCharBoundary text (prefix_len passes text)
