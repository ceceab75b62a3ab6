-- Each turn looks at the next line.
use Rattle.rl_chunks.specs.EntryLines.{line_of}
use Rattle.rl_parts.proofs.Finding.{no, absent_all}
use Rattle.rl_parts.proofs.searching.has_line.Goals as goal

pub returns : goal.returns
returns c = no (absent_all c.args.lines.now c.loop-line.line-index (line_of c.args.entry.now) c.loop-line-test.false c.loop-line.invariant)
