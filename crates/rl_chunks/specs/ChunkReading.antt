-- Reading a chunk from left to right, with the first fault that is met. What is read is a value and the bytes after it.
use Rattle.std.specs.Prelude.{ℕ, zero, suc, ◌==◌, nat_lt, nat_le, Bool, true, ◌&&◌, List, [], ◌∷◌, length, take, drop, Option, None, Some, Result, Ok, Err, if◌then◌else◌}
use Rattle.std.specs.Int.{Width, w16, w32, w64, byte_len, from_be_bytes}
use Rattle.std.specs.Ordering.{is_lt}
use Rattle.std.specs.Str.{is_utf8}
use Rattle.rl_labels.specs.LabelSet.{Pair, LabelSet, is_empty}
use Rattle.rl_labels.specs.Name.{is_text, is_stream_name, name_cmp}
use Rattle.rl_labels.specs.Pairs.{labels_from}
use Rattle.rl_labels.specs.Quantity.{greatest_moment}
use Rattle.rl_labels.specs.declared.labels.LabelsFault.{LabelsFault}
use Rattle.rl_plain.specs.Answers.{◌>>=◌}
use Rattle.rl_chunks.specs.ChunkText.{magic, line_width, line_cmp}
use Rattle.rl_chunks.specs.declared.chunk.Chunk.{Chunk}
use Rattle.rl_chunks.specs.declared.fault.ChunkFault.{ChunkFault}
use Rattle.rl_chunks.specs.declared.fault.ChunkFault.TheVariants.{NotAChunk, CutShort, Disorder, TrailingBytes}
use Rattle.rl_chunks.specs.declared.format.Format.{Format}
use Rattle.rl_chunks.specs.declared.format.Format.TheVariants.{Short}
use Rattle.rl_chunks.specs.declared.line.Line.{Line}

-- a value and the bytes after it, or the first fault
abbrev pub Read : Type 0 → Type 0
Read A = Result (A × List ℕ) ChunkFault

unfoldable pub number_at : Width → List ℕ → Read ℕ
number_at width bytes =
    if nat_lt (length bytes) (byte_len width) then Err CutShort
    else Ok (from_be_bytes width (take (byte_len width) bytes), drop (byte_len width) bytes)

-- the first `len` bytes, which are UTF-8
unfoldable pub text_of : ℕ → List ℕ → Read (List ℕ)
text_of len bytes =
    if nat_lt (length bytes) len then Err CutShort
    else (if is_utf8 (take len bytes) then Ok (take len bytes, drop len bytes) else Err NotAChunk)

-- a text after its length
unfoldable pub text_at : Width → List ℕ → Read (List ℕ)
text_at width bytes = do
  len ← number_at width bytes
  text_of len.0 len.1

-- the format, read from the first bytes
unfoldable pub format_at : List ℕ → Read Format
format_at bytes =
    if nat_lt (length bytes) 4 then Err CutShort
    else (if is_text (take 4 bytes) (magic Short) then Ok (Short, drop 4 bytes) else Err NotAChunk)

-- the name is above that of the label before it
abbrev pub is_next_name : Option Pair → List ℕ → Bool
is_next_name None name = true
is_next_name (Some before) name = is_lt (name_cmp before.0 name)

-- a name that a stream's label may have there
unfoldable pub name_at : Option Pair → List ℕ → Read (List ℕ)
name_at before bytes = do
  name ← text_at w16 bytes
  if is_stream_name name.0 && is_next_name before name.0 then Ok name else Err NotAChunk

-- a value that is not empty
unfoldable pub value_at : List ℕ → Read (List ℕ)
value_at bytes = do
  value ← text_at w16 bytes
  if is_empty value.0 then Err NotAChunk else Ok value

unfoldable pub label_at : Option Pair → List ℕ → Read Pair
label_at before bytes = do
  name ← name_at before bytes
  value ← value_at name.1
  Ok ((name.0, value.0), value.1)

-- a timestamp up to the greatest moment
unfoldable pub moment_at : List ℕ → Read ℕ
moment_at bytes = do
  moment ← number_at w64 bytes
  if nat_le moment.0 greatest_moment then Ok moment else Err NotAChunk

unfoldable pub line_at : Format → List ℕ → Read Line
line_at format bytes = do
  moment ← moment_at bytes
  text ← text_at (line_width format) moment.1
  Ok (record { timestamp = moment.0; text = text.0 }, text.1)

-- the line is above the one before it
abbrev pub is_next_line : Option Line → Line → Bool
is_next_line None line = true
is_next_line (Some before) line = is_lt (line_cmp before line)

unfoldable pub next_line_at : Format → Option Line → List ℕ → Read Line
next_line_at format before bytes = do
  line ← line_at format bytes
  if is_next_line before line.0 then Ok line else Err Disorder

-- the given number of items, each read after the one before it
unfoldable pub in_turn : {A : Type 0} → (Option A → List ℕ → Read A) → ℕ → Option A → List ℕ → Read (List A)
in_turn item zero before bytes = Ok ([], bytes)
in_turn item (suc n) before bytes = do
  first ← item before bytes
  others ← in_turn item n (Some first.0) first.1
  Ok (first.0 ∷ others.0, others.1)

-- at least one label
unfoldable pub label_count_at : List ℕ → Read ℕ
label_count_at bytes = do
  count ← number_at w16 bytes
  if count.0 == 0 then Err NotAChunk else Ok count

-- the set of labels that a stream may have together
abbrev pub in_chunk : Result LabelSet LabelsFault → Result LabelSet ChunkFault
in_chunk (Ok labels) = Ok labels
in_chunk (Err fault) = Err NotAChunk

unfoldable pub labels_at : List ℕ → Read LabelSet
labels_at bytes = do
  count ← label_count_at bytes
  pairs ← in_turn label_at count.0 None count.1
  labels ← in_chunk (labels_from pairs.0)
  Ok (labels, pairs.1)

unfoldable pub lines_at : Format → List ℕ → Read (List Line)
lines_at format bytes = do
  count ← number_at w32 bytes
  in_turn (next_line_at format) count.0 None count.1

-- all of the bytes
unfoldable pub read_chunk : List ℕ → Result Chunk ChunkFault
read_chunk bytes = do
  format ← format_at bytes
  labels ← labels_at format.1
  lines ← lines_at format.0 labels.1
  if length lines.1 == 0 then Ok (record { labels = labels.0; lines = lines.0 }) else Err TrailingBytes
