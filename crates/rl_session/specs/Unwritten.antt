-- The bytes that a printer could not write.
use Rattle.std.specs.Prelude.{ℕ, List, [], ◌∷◌, ◌++◌}
use Rattle.rl_session.specs.declared.unwritten.Unwritten.{Unwritten}
use Rattle.rl_session.specs.declared.unwritten.Unwritten.TheFolds.{fold-Unwritten}
use Rattle.rl_session.specs.declared.unwritten.Unwritten.TheOpen as layers
use Rattle.rl_session.specs.declared.unwritten.Unwritten.TheOpen.{Unwritten-F}

-- one byte more
abbrev pub with_byte : Unwritten-F (List ℕ) → List ℕ
with_byte layers.Nothing = []
with_byte (layers.Byte byte before) = before.value ++ byte ∷ []

abbrev pub bytes_of : Unwritten → List ℕ
bytes_of = fold-Unwritten (List ℕ) with_byte
