-- Which of several shards a stream goes to.
use Rattle.std.specs.Prelude.{ℕ, ◌%◌}
use Rattle.std.specs.List.{sum}
use Rattle.rl_labels.specs.LabelSet.{LabelSet}
use Rattle.rl_labels.specs.LabelText.{canonical_text}

-- the sum of the bytes of its canonical text, modulo their number
abbrev pub shard_of : LabelSet → (shards : ℕ) → ℕ
shard_of labels shards = sum (canonical_text labels) % shards
