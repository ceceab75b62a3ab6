-- Push bodies: the entries that a JSON document has, in its order, or its first fault.
use Rattle.std.specs.Prelude.{ℕ, nat_lt, Bool, true, false, List, [], ◌∷◌, ◌++◌, length, Option, None, Some, option_and_then, Result, Ok, Err, codes, if◌then◌else◌}
use Rattle.std.specs.Str.{is_utf8}
use Rattle.serde_json.specs.Data.{Data, Items, no_items, item, Members, no_members, member}
use Rattle.serde_json.specs.Find.{get, as_str, as_array, as_object}
use Rattle.serde_json.specs.Read.{read}
use Rattle.rl_plain.specs.Answers.{◌>>=◌}
use Rattle.rl_labels.specs.LabelSet.{Pair, LabelSet}
use Rattle.rl_labels.specs.Pairs.{labels_from}
use Rattle.rl_labels.specs.EntryParts.{has_no_label, longest_line}
use Rattle.rl_labels.specs.Decimals.{number_of}
use Rattle.rl_labels.specs.Quantity.{moment_at}
use Rattle.rl_labels.specs.declared.labels.LabelsFault.{LabelsFault}
use Rattle.rl_session.specs.PushForms.{EntryForm, ValueParts}
use Rattle.rl_session.specs.declared.push.PushFault.{PushFault}
use Rattle.rl_session.specs.declared.push.PushFault.TheVariants as faults

-- what has to be there
abbrev pub required : {A : Type 0} → PushFault → Option A → Result A PushFault
required fault None = Err fault
required fault (Some x) = Ok x

-- the document that the bytes are, as JSON reads them
abbrev pub document_of : List ℕ → Result Data PushFault
document_of bytes = required faults.NotJson (if is_utf8 bytes then read bytes else None)

-- the array that was found
abbrev pub array_of : Option Data → Result Items PushFault
array_of found = required faults.Shape (option_and_then as_array found)

-- the object that was found
abbrev pub object_of : Option Data → Result Members PushFault
object_of found = required faults.Shape (option_and_then as_object found)

-- a name with its value, which is a text
abbrev pub pair_of : List ℕ → Data → Result Pair PushFault
pair_of name value = required faults.Shape (as_str value) >>= λ text. Ok (name, text)

-- the names with their values
abbrev pub pairs_of : Members → Result (List Pair) PushFault
pairs_of no_members = Ok []
pairs_of (member name value members) = do
  first ← pair_of name value
  others ← pairs_of members
  Ok (first ∷ others)

-- a label set that a stream may have
abbrev pub stream_labels : Result LabelSet LabelsFault → Result LabelSet PushFault
stream_labels (Ok labels) = if has_no_label labels then Err faults.Label else Ok labels
stream_labels (Err _) = Err faults.Label

-- the labels of an object's members
abbrev pub labels_in : Members → Result LabelSet PushFault
labels_in members = pairs_of members >>= λ pairs. stream_labels (labels_from pairs)

-- the labels that were found
abbrev pub labels_of : Option Data → Result LabelSet PushFault
labels_of found = object_of found >>= labels_in

-- what follows the line: metadata, or nothing
abbrev pub metadata_in : Items → Result (Option Data) PushFault
metadata_in no_items = Ok None
metadata_in (item metadata no_items) = Ok (Some metadata)
metadata_in _ = Err faults.Shape

-- a time and a line as texts, and metadata
abbrev pub parts_in : Items → Result ValueParts PushFault
parts_in (item time (item line rest)) = do
  time ← required faults.Shape (as_str time)
  line ← required faults.Shape (as_str line)
  metadata ← metadata_in rest
  Ok (record { time = time; line = line; metadata = metadata })
parts_in _ = Err faults.Shape

-- the parts of a value
abbrev pub parts_of : Data → Result ValueParts PushFault
parts_of value = required faults.Shape (as_array value) >>= parts_in

-- the moment that 1 to 19 digits write, in nanoseconds
abbrev pub moment_of : List ℕ → Result ℕ PushFault
moment_of text = required faults.Time (option_and_then moment_at (number_of 19 text))

-- a line, unless it is too long
abbrev pub line_of : List ℕ → Result (List ℕ) PushFault
line_of line = if nat_lt longest_line (length line) then Err faults.Line else Ok line

-- an object without members
abbrev pub is_empty_object : Option Members → Bool
is_empty_object (Some no_members) = true
is_empty_object _ = false

-- no metadata, or an empty object
abbrev pub has_no_metadata : Option Data → Bool
has_no_metadata None = true
has_no_metadata (Some value) = is_empty_object (as_object value)

-- the entry of a value's parts, with these labels
abbrev pub entry_of : LabelSet → ValueParts → Result EntryForm PushFault
entry_of labels parts = do
  timestamp ← moment_of parts.time
  line ← line_of parts.line
  if has_no_metadata parts.metadata then Ok (record { labels = labels; timestamp = timestamp; line = line }) else Err faults.Metadata

-- the entry of a value, with these labels
abbrev pub value_entry : LabelSet → Data → Result EntryForm PushFault
value_entry labels value = parts_of value >>= entry_of labels

-- the entries of values with these labels
abbrev pub entries_from : LabelSet → Items → Result (List EntryForm) PushFault
entries_from labels no_items = Ok []
entries_from labels (item value values) = do
  first ← value_entry labels value
  others ← entries_from labels values
  Ok (first ∷ others)

-- the entries of a stream
abbrev pub stream_entries : Data → Result (List EntryForm) PushFault
stream_entries stream = do
  labels ← labels_of (get (codes "stream") stream)
  values ← array_of (get (codes "values") stream)
  entries_from labels values

-- the entries of streams, one after the other
abbrev pub streams_entries : Items → Result (List EntryForm) PushFault
streams_entries no_items = Ok []
streams_entries (item stream streams) = do
  first ← stream_entries stream
  others ← streams_entries streams
  Ok (first ++ others)

-- the entries of a push body, or its first fault
unfoldable pub entries_of : List ℕ → Result (List EntryForm) PushFault
entries_of bytes = do
  document ← document_of bytes
  streams ← array_of (get (codes "streams") document)
  streams_entries streams
