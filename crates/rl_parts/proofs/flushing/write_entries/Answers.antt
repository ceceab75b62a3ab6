-- Entries of one stream in order are the lines of a chunk.
use Rattle.std.proofs.Common.{sym, subst, map}
use Rattle.std.specs.List.Sorted.{IsStrictlySortedBy}
use Rattle.rl_chunks.specs.ChunkText.{line_cmp}
use Rattle.rl_chunks.specs.EntryLines.{line_of}
use Rattle.rl_parts.proofs.Lines.{stream_of, short_lines, rising_lines}
use Rattle.rl_parts.proofs.flushing.write_entries.Goals as goal

pub encode-requires-clause-stream : goal.encode-requires-clause-stream
encode-requires-clause-stream g c = stream_of c.args.labels.now c.args.entries.now c.requires.run.labels c.requires.some

pub encode-requires-clause-short : goal.encode-requires-clause-short
encode-requires-clause-short g c = short_lines c.as_slice.result.now

pub encode-requires-clause-rising : goal.encode-requires-clause-rising
encode-requires-clause-rising g c = subst (λ entries. IsStrictlySortedBy line_cmp (map line_of entries)) (sym c.as_slice.ensures) (rising_lines c.args.labels.now c.args.entries.now c.requires.run)
