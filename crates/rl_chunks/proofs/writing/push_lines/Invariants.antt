use Rattle.std.proofs.Common.{◌≡◌, ◌++◌, length, take}
use Rattle.std.specs.Int.{w32, to_be_bytes}
use Rattle.std.specs.List.{All, flat_map}
use Rattle.rl_chunks.specs.ChunkText.{line_bytes, IsLine}
use Rattle.rl_chunks.proofs.writing.push_lines.Given as goal

abbrev pub invariant-loop-line : goal.invariant-loop-line
invariant-loop-line g l = record {
  bytes : l.out.items ≡ l.fn.out.items ++ (to_be_bytes w32 (length l.lines) ++ flat_map (λ x. line_bytes l.format (g.L.AsLine.line x)) (take l.line-index l.lines));
  lines : All (λ x. IsLine (g.L.AsLine.line x)) (take l.line-index l.lines);
}
