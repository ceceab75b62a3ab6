-- The line of a log entry.
use Rattle.rl_labels.specs.declared.entry.Entry.{Entry}
use Rattle.rl_chunks.specs.declared.line.Line.{Line}

-- an entry without its labels
abbrev pub line_of : Entry → Line
line_of entry = record { timestamp = entry.timestamp; text = entry.line }
