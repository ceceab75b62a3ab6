-- The folders of the shards.
use Rattle.std.specs.Prelude.{ℕ, zero, suc, List, [], ◌∷◌, ◌++◌, codes}
use Rattle.std.specs.Fmt.{decimal}

-- the folder of a shard lies in that of all, and its name is the number of the shard
abbrev pub shard_folder : List ℕ → ℕ → List ℕ
shard_folder folder number = folder ++ codes "/" ++ decimal number

-- those of the first shards, in their order
abbrev pub shard_folders : List ℕ → ℕ → List (List ℕ)
shard_folders folder zero = []
shard_folders folder (suc number) = shard_folders folder number ++ shard_folder folder number ∷ []
