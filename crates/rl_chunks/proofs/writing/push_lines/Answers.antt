-- Each turn writes the next line.
use Rattle.std.proofs.Common.{◌≤◌, ◌++◌, length, ap, ◌∙◌}
use Rattle.std.specs.Int.{w32, to_be_bytes}
use Rattle.rl_labels.specs.EntryParts.{longest_line}
use Rattle.rl_chunks.specs.ChunkText.{line_bytes, IsLine}
use Rattle.rl_chunks.proofs.Turns.{one_more, all_more, at_map, all_written, all_images}
use Rattle.rl_chunks.proofs.writing.push_lines.Goals as goal

pub push_line-requires : goal.push_line-requires
push_line-requires g c = at_map (λ line. length line.text ≤ longest_line) g.L.AsLine.line c.args.lines.now c.loop-line.line-index c.line-item.result c.loop-line-test.true c.line-item.is c.requires.short

pub loop-line-preserved : goal.loop-line-preserved
loop-line-preserved g c = record {
  bytes = one_more (λ x. line_bytes c.args.format (g.L.AsLine.line x)) c.args.lines.now c.loop-line.line-index c.line-item.result c.args.out.now.items (to_be_bytes w32 (length c.args.lines.now)) c.loop-line.out.items c.push_line.new.out.items c.loop-line-test.true c.line-item.is c.loop-line.invariant.bytes c.in_ok-push_line.ensures.bytes;
  lines = all_more (λ x. IsLine (g.L.AsLine.line x)) c.args.lines.now c.loop-line.line-index c.line-item.result c.loop-line-test.true c.line-item.is c.loop-line.invariant.lines c.in_ok-push_line.ensures.line;
}

pub returns-clause-bytes : goal.returns-clause-bytes
returns-clause-bytes g c = c.loop-line.invariant.bytes ∙ ap (λ t. c.args.out.now.items ++ t) (all_written (line_bytes c.args.format) g.L.AsLine.line (to_be_bytes w32) c.args.lines.now c.loop-line.line-index c.loop-line-test.false)

pub returns-clause-lines : goal.returns-clause-lines
returns-clause-lines g c = all_images IsLine g.L.AsLine.line c.args.lines.now c.loop-line.line-index c.loop-line-test.false c.loop-line.invariant.lines
