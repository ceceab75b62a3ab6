-- Reading a record from left to right.
use Rattle.std.specs.Prelude.{ℕ, zero, suc, ◌==◌, nat_le, List, [], ◌∷◌, length, is_some, Result, Ok, Err, if◌then◌else◌}
use Rattle.std.specs.FinMap as map
use Rattle.rl_plain.specs.Answers.{◌>>=◌}
use Rattle.rl_labels.specs.EntryAnswers.{entry_fault}
use Rattle.rl_labels.specs.LabelSet.{LabelSet}
use Rattle.rl_labels.specs.Pairs.{labels_from}
use Rattle.rl_labels.specs.Quantity.{greatest_moment}
use Rattle.rl_labels.specs.declared.labels.LabelsFault.{LabelsFault}
use Rattle.rl_query.specs.Form.{QueryForm, SieveForm, TermForm}
use Rattle.rl_query.specs.declared.fault.QueryFault.{QueryFault}
use Rattle.rl_query.specs.declared.fault.QueryFault.TheVariants as faults
use Rattle.rl_plain.specs.declared.refusal.OrMemory.{OrMemory}
use Rattle.rl_plain.specs.declared.refusal.OrMemory.TheVariants.{Fault, Memory}
use Rattle.rl_segments.specs.declared.fault.RecordFault.{RecordFault}
use Rattle.rl_selector_text.specs.Sieving.{sieve_of}
use Rattle.rl_query_text.specs.QueryReading.{query_of}
use Rattle.rl_aggregate.specs.TotalsMap.{TotalsMap}
use Rattle.rl_aggregate.specs.declared.partial.Partial.{Partial}
use Rattle.rl_aggregate.specs.declared.volume.Volume.{Volume}
use Rattle.rl_records.specs.declared.step.ShardReply.{ShardReply}
use Rattle.rl_records.specs.declared.step.ShardReply.TheVariants as replies
use Rattle.rl_segments.specs.Forms.{StepForm, RecordForm, pushes, cuts, flushes, deletes, cancels, processes, retains, collects}
use Rattle.rl_segments.specs.FrameReading.{Found, Read, after, found, frame_in, number_in, utf8}
use Rattle.rl_segments.specs.LabelReading.{labels_in, pairs_in}
use Rattle.rl_segments.specs.declared.fault.RecordFault.TheVariants.{NotARecord}

-- FIELDS

abbrev pub byte_at : List ℕ → Read ℕ
byte_at [] = Err NotARecord
byte_at (byte ∷ rest) = Ok (byte, rest)

abbrev pub number_at : List ℕ → Read ℕ
number_at bytes = found (number_in bytes)

-- a moment up to the greatest
unfoldable pub moment_at : List ℕ → Read ℕ
moment_at bytes = do
  moment ← number_at bytes
  if nat_le moment.0 greatest_moment then Ok moment else Err NotARecord

-- a text after its length
unfoldable pub text_at : List ℕ → Read (List ℕ)
text_at bytes = do
  framed ← found (frame_in bytes)
  text ← utf8 framed.0
  Ok (text, framed.1)

unfoldable pub labels_at : List ℕ → Read LabelSet
labels_at bytes = do
  framed ← found (frame_in bytes)
  labels ← labels_in framed.0
  Ok (labels, framed.1)

-- the labels that a stream may have
abbrev pub of_stream : Result LabelSet LabelsFault → Found LabelSet
of_stream (Ok labels) = Ok labels
of_stream (Err fault) = Err NotARecord

unfoldable pub stream_at : List ℕ → Read LabelSet
stream_at bytes = do
  framed ← found (frame_in bytes)
  rest ← after 123 framed.0
  pairs ← pairs_in (length rest) rest
  labels ← of_stream (labels_from pairs)
  Ok (labels, framed.1)

abbrev pub of_text : {A : Type 0} → Result A QueryFault → Found A
of_text (Ok x) = Ok x
of_text (Err fault) = Err NotARecord

-- why a text is none that was printed: a pattern may have no room where it had some
abbrev pub text_error : OrMemory QueryFault → OrMemory RecordFault
text_error Memory = Memory
text_error (Fault faults.BadRegex) = Memory
text_error (Fault _) = Fault NotARecord

unfoldable pub sieve_at : List ℕ → Read SieveForm
sieve_at bytes = do
  text ← text_at bytes
  sieve ← of_text (sieve_of text.0)
  Ok (sieve, text.1)

-- a query that is one term
abbrev pub lone_term : QueryForm → Found TermForm
lone_term query = if is_some query.over then Err NotARecord else (if is_some query.test then Err NotARecord else Ok query.left)

unfoldable pub term_at : List ℕ → Read TermForm
term_at bytes = do
  text ← text_at bytes
  query ← of_text (query_of text.0)
  term ← lone_term query
  Ok (term, text.1)

-- so many items, one after the other
unfoldable pub in_turn : {A : Type 0} → (List ℕ → Read A) → ℕ → List ℕ → Read (List A)
in_turn item zero bytes = Ok ([], bytes)
in_turn item (suc n) bytes = do
  first ← item bytes
  others ← in_turn item n first.1
  Ok (first.0 ∷ others.0, others.1)

-- STEPS

unfoldable pub push_at : List ℕ → Read StepForm
push_at bytes = do
  labels ← stream_at bytes
  timestamp ← moment_at labels.1
  line ← text_at timestamp.1
  if is_some (entry_fault labels.0 line.0) then Err NotARecord else Ok (pushes (record { labels = labels.0; timestamp = timestamp.0; line = line.0 }), line.1)

unfoldable pub delete_at : List ℕ → Read StepForm
delete_at bytes = do
  id ← number_at bytes
  selector ← sieve_at id.1
  start ← moment_at selector.1
  end ← moment_at start.1
  created ← moment_at end.1
  Ok (deletes (record { id = id.0; selector = selector.0; start = start.0; end = end.0; created = created.0 }), created.1)

unfoldable pub cancel_at : List ℕ → Read StepForm
cancel_at bytes = do
  id ← number_at bytes
  Ok (cancels id.0, id.1)

unfoldable pub process_at : List ℕ → Read StepForm
process_at bytes = do
  id ← number_at bytes
  now ← moment_at id.1
  Ok (processes id.0 now.0, now.1)

unfoldable pub retain_at : List ℕ → Read StepForm
retain_at bytes = do
  now ← moment_at bytes
  Ok (retains now.0, now.1)

unfoldable pub collect_at : List ℕ → Read StepForm
collect_at bytes = do
  slot ← number_at bytes
  count ← number_at slot.1
  terms ← in_turn term_at count.0 count.1
  t ← moment_at terms.1
  Ok (collects slot.0 terms.0 t.0, t.1)

-- what follows a step's tag
unfoldable pub step_by : ℕ → List ℕ → Read StepForm
step_by tag bytes =
    if tag == 1 then push_at bytes
    else (if tag == 2 then Ok (cuts, bytes)
    else (if tag == 3 then Ok (flushes, bytes)
    else (if tag == 4 then delete_at bytes
    else (if tag == 5 then cancel_at bytes
    else (if tag == 6 then process_at bytes
    else (if tag == 7 then retain_at bytes
    else (if tag == 8 then collect_at bytes
    else Err NotARecord)))))))

unfoldable pub step_at : List ℕ → Read StepForm
step_at bytes = do
  tag ← byte_at bytes
  step_by tag.0 tag.1

-- REPLIES

-- a label set, and what its lines add up to
unfoldable pub volume_at : List ℕ → Read (LabelSet × Volume)
volume_at bytes = do
  labels ← labels_at bytes
  count ← number_at labels.1
  own ← number_at count.1
  Ok ((labels.0, record { count = count.0; bytes = own.0 }), own.1)

-- totals with one more, which they have not
abbrev pub with_total : LabelSet × Volume → TotalsMap → Found TotalsMap
with_total total totals = if map.contains_key totals total.0 then Err NotARecord else Ok (map.insert totals total.0 total.1)

-- the totals of a list, from the last one on
unfoldable pub totals_of : List (LabelSet × Volume) → Found TotalsMap
totals_of [] = Ok map.empty
totals_of (total ∷ rest) = totals_of rest >>= λ totals. with_total total totals

unfoldable pub partial_at : List ℕ → Read Partial
partial_at bytes = do
  errors ← number_at bytes
  count ← number_at errors.1
  volumes ← in_turn volume_at count.0 count.1
  totals ← totals_of volumes.0
  Ok (record { errors = errors.0; totals = totals }, volumes.1)

unfoldable pub collected_at : List ℕ → Read ShardReply
collected_at bytes = do
  count ← number_at bytes
  partials ← in_turn partial_at count.0 count.1
  Ok (replies.Collected partials.0, partials.1)

unfoldable pub expired_at : List ℕ → Read ShardReply
expired_at bytes = do
  horizon ← moment_at bytes
  Ok (replies.Expired horizon.0, horizon.1)

unfoldable pub late_at : List ℕ → Read ShardReply
late_at bytes = do
  newest ← moment_at bytes
  Ok (replies.TooFarBehind newest.0, newest.1)

-- a reply that is its tag
unfoldable pub plain_reply : ℕ → Found ShardReply
plain_reply tag =
    if tag == 1 then Ok replies.Accepted
    else (if tag == 2 then Ok replies.Done
    else (if tag == 5 then Ok replies.Full
    else (if tag == 6 then Ok replies.IdTaken
    else (if tag == 7 then Ok replies.RequestsFull
    else (if tag == 8 then Ok replies.NoSuchRequest
    else (if tag == 9 then Ok replies.AlreadyProcessed
    else (if tag == 10 then Ok replies.WasCancelled
    else (if tag == 11 then Ok replies.TooEarly
    else Err NotARecord))))))))

-- what follows a reply's tag
unfoldable pub reply_by : ℕ → List ℕ → Read ShardReply
reply_by tag bytes =
    if tag == 3 then expired_at bytes
    else (if tag == 4 then late_at bytes
    else (if tag == 12 then collected_at bytes
    else (plain_reply tag >>= λ reply. Ok (reply, bytes))))

unfoldable pub reply_at : List ℕ → Read ShardReply
reply_at bytes = do
  tag ← byte_at bytes
  reply_by tag.0 tag.1

-- RECORDS

-- a step, and then its reply, and nothing after it
unfoldable pub record_in : List ℕ → Found RecordForm
record_in bytes = do
  step ← step_at bytes
  reply ← reply_at step.1
  if length reply.1 == 0 then Ok (record { step = step.0; reply = reply.0 }) else Err NotARecord
