use Rattle.std.proofs.Common.{◌≡◌, ◌++◌, length, take}
use Rattle.std.specs.Int.{w16, to_be_bytes}
use Rattle.std.specs.List.{All, flat_map}
use Rattle.rl_chunks.specs.ChunkText.{label_bytes, IsText}
use Rattle.rl_chunks.proofs.writing.push_labels.Given as goal

abbrev pub invariant-loop-label : goal.invariant-loop-label
invariant-loop-label l = record {
  bytes : l.out.items ≡ l.fn.out.items ++ (to_be_bytes w16 (length l.labels) ++ flat_map label_bytes (take l.label-index l.labels));
  texts : All IsText (take l.label-index l.labels);
}
