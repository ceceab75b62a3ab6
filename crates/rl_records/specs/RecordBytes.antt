-- The bytes of the records of a journal. Numbers have eight bytes, the highest first, and tags one; a text stands after its length.
use Rattle.std.specs.Prelude.{ℕ, List, [], ◌∷◌, ◌++◌, length, map}
use Rattle.std.specs.FinMap.{entries, len}
use Rattle.std.specs.Int.{w64, to_be_bytes}
use Rattle.std.specs.List.{flat_map}
use Rattle.sha2.specs.Sha256.{sha256}
use Rattle.rl_labels.specs.LabelSet.{LabelSet}
use Rattle.rl_labels.specs.LabelText.{canonical_text}
use Rattle.rl_labels.specs.declared.entry.Entry.{Entry}
use Rattle.rl_query.specs.declared.filter.Sieve.{Sieve}
use Rattle.rl_query.specs.declared.query.Term.{Term}
use Rattle.rl_aggregate.specs.declared.partial.Partial.{Partial}
use Rattle.rl_aggregate.specs.declared.volume.Volume.{Volume}
use Rattle.rl_deletes.specs.declared.deletion.Deletion.{Deletion}
use Rattle.rl_records.specs.Prints.{sieve_print, term_print}
use Rattle.rl_records.specs.declared.record.Record.{Record}
use Rattle.rl_records.specs.declared.step.ShardReply.{ShardReply}
use Rattle.rl_records.specs.declared.step.ShardReply.TheVariants as replies
use Rattle.rl_records.specs.declared.step.ShardStep.{ShardStep}
use Rattle.rl_records.specs.declared.step.ShardStep.TheVariants as steps

unfoldable pub number : ℕ → List ℕ
number value = to_be_bytes w64 value

-- a text after its length
abbrev pub frame : List ℕ → List ℕ
frame text = number (length text) ++ text

-- STEPS

abbrev pub push_bytes : Entry → List ℕ
push_bytes entry = 1 ∷ [] ++ frame (canonical_text entry.labels) ++ number entry.timestamp ++ frame entry.line

abbrev pub deletion_bytes : Deletion Sieve → List ℕ
deletion_bytes deletion = 4 ∷ [] ++ number deletion.id ++ frame (sieve_print deletion.selector) ++ number deletion.start ++ number deletion.end ++ number deletion.created

-- how many, and what is printed of each
abbrev pub terms_bytes : List Term → List ℕ
terms_bytes terms = number (length terms) ++ flat_map frame (map term_print terms)

abbrev pub step_bytes : ShardStep → List ℕ
step_bytes (steps.Push entry) = push_bytes entry
step_bytes steps.Cut = 2 ∷ []
step_bytes steps.Flush = 3 ∷ []
step_bytes (steps.Delete deletion) = deletion_bytes deletion
step_bytes (steps.Cancel id) = 5 ∷ [] ++ number id
step_bytes (steps.Process id now) = 6 ∷ [] ++ number id ++ number now
step_bytes (steps.Retain now) = 7 ∷ [] ++ number now
step_bytes (steps.Collect slot terms t) = 8 ∷ [] ++ number slot ++ terms_bytes terms ++ number t

-- REPLIES

-- a label set, and what its lines add up to
abbrev pub volume_bytes : LabelSet × Volume → List ℕ
volume_bytes entry = frame (canonical_text entry.0) ++ number entry.1.count ++ number entry.1.bytes

-- how many lines have an error, how many label sets the others have, and each of these in its order
abbrev pub partial_bytes : Partial → List ℕ
partial_bytes partial = number partial.errors ++ number (len partial.totals) ++ flat_map volume_bytes (entries partial.totals)

abbrev pub reply_bytes : ShardReply → List ℕ
reply_bytes replies.Accepted = 1 ∷ []
reply_bytes replies.Done = 2 ∷ []
reply_bytes (replies.Expired horizon) = 3 ∷ [] ++ number horizon
reply_bytes (replies.TooFarBehind newest) = 4 ∷ [] ++ number newest
reply_bytes replies.Full = 5 ∷ []
reply_bytes replies.IdTaken = 6 ∷ []
reply_bytes replies.RequestsFull = 7 ∷ []
reply_bytes replies.NoSuchRequest = 8 ∷ []
reply_bytes replies.AlreadyProcessed = 9 ∷ []
reply_bytes replies.WasCancelled = 10 ∷ []
reply_bytes replies.TooEarly = 11 ∷ []
reply_bytes (replies.Collected partials) = 12 ∷ [] ++ number (length partials) ++ flat_map partial_bytes partials

-- RECORDS

-- a step, and then its reply
abbrev pub record_bytes : Record → List ℕ
record_bytes it = step_bytes it.step ++ reply_bytes it.reply

-- their SHA-256
abbrev pub digest_of : Record → List ℕ
digest_of it = sha256 (record_bytes it)
