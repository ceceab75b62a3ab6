-- The grammar of chunks: which chunks have bytes, and their bytes. Of a number the highest byte stands first.
use Rattle.std.specs.Prelude.{◌≡◌, ℕ, ◌<◌, ◌≤◌, ◌^◌, IsTrue, List, ◌++◌, length, codes}
use Rattle.std.specs.Int.{Width, w16, w32, w64, to_be_bytes}
use Rattle.std.specs.List.{All, flat_map}
use Rattle.std.specs.List.Sorted.{IsStrictlySortedBy}
use Rattle.std.specs.Ordering.{nat_cmp, ordering_then}
use Rattle.std.specs.declared.cmp.Ordering.{Ordering}
use Rattle.std.specs.Cmp.Lexicographic.{slice_cmp}
use Rattle.std.specs.Str.{is_utf8}
use Rattle.rl_labels.specs.EntryParts.{is_stream, longest_line}
use Rattle.rl_labels.specs.LabelSet.{Pair, labels_of}
use Rattle.rl_labels.specs.Quantity.{greatest_moment}
use Rattle.rl_chunks.specs.declared.chunk.Chunk.{Chunk}
use Rattle.rl_chunks.specs.declared.format.Format.{Format}
use Rattle.rl_chunks.specs.declared.format.Format.TheVariants.{Short}
use Rattle.rl_chunks.specs.declared.line.Line.{Line}

-- the first bytes of a chunk
abbrev pub magic : Format → List ℕ
magic Short = codes "RLC1"

-- in how many bytes the length of a line stands
abbrev pub line_width : Format → Width
line_width Short = w16

-- a text after its length
abbrev pub sized : Width → List ℕ → List ℕ
sized width text = to_be_bytes width (length text) ++ text

-- a name, and a value
abbrev pub label_bytes : Pair → List ℕ
label_bytes pair = sized w16 pair.0 ++ sized w16 pair.1

-- a timestamp, and a text
abbrev pub line_bytes : Format → Line → List ℕ
line_bytes format line = to_be_bytes w64 line.timestamp ++ sized (line_width format) line.text

-- how many labels, and the labels by rising name
abbrev pub labels_bytes : List Pair → List ℕ
labels_bytes pairs = to_be_bytes w16 (length pairs) ++ flat_map label_bytes pairs

-- how many lines, and the lines
abbrev pub lines_bytes : Format → List Line → List ℕ
lines_bytes format lines = to_be_bytes w32 (length lines) ++ flat_map (line_bytes format) lines

-- the one text of a chunk in a format
abbrev pub chunk_text : Format → Chunk → List ℕ
chunk_text format chunk = magic format ++ labels_bytes (labels_of chunk.labels) ++ lines_bytes format chunk.lines

-- by timestamp, and then by bytes
abbrev pub line_cmp : Line → Line → Ordering
line_cmp a b = ordering_then (nat_cmp a.timestamp b.timestamp) (slice_cmp nat_cmp a.text b.text)

-- a label whose name and value are UTF-8
abbrev pub IsText : Pair → Type 0
IsText pair = IsTrue (is_utf8 pair.0) × IsTrue (is_utf8 pair.1)

-- a line that an entry can have
pub record IsLine (line : Line) : Type 0 where
  pub moment : line.timestamp ≤ greatest_moment
  pub short : length line.text ≤ longest_line
  pub text : IsTrue (is_utf8 line.text)

-- what a chunk may have: the labels of a stream, and lines that rise, no more than four bytes can count
pub record IsChunk (chunk : Chunk) : Type 0 where
  pub stream : IsTrue (is_stream chunk.labels)
  pub texts : All IsText (labels_of chunk.labels)
  pub lines : All IsLine chunk.lines
  pub rising : IsStrictlySortedBy line_cmp chunk.lines
  pub few : length chunk.lines < 2 ^ 32

-- these bytes are this chunk
pub record IsChunkText (bytes : List ℕ) (chunk : Chunk) : Type 0 where
  pub ranges : IsChunk chunk
  pub spelt : bytes ≡ chunk_text Short chunk
