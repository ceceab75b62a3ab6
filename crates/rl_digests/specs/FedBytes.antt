-- The bytes that a hasher was fed.
use Rattle.std.specs.Prelude.{ℕ, List, [], ◌∷◌, ◌++◌}
use Rattle.rl_digests.specs.declared.fed.Fed.{Fed}
use Rattle.rl_digests.specs.declared.fed.Fed.TheFolds.{fold-Fed}
use Rattle.rl_digests.specs.declared.fed.Fed.TheOpen as layers
use Rattle.rl_digests.specs.declared.fed.Fed.TheOpen.{Fed-F}

-- the bytes after one more
abbrev pub after_one : Fed-F (List ℕ) → List ℕ
after_one layers.Nothing = []
after_one (layers.Byte byte before) = before.value ++ byte ∷ []

-- in the order in which they came
abbrev pub bytes_fed : Fed → List ℕ
bytes_fed = fold-Fed (List ℕ) after_one
