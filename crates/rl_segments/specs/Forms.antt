-- Records without the facts that their types keep.
use Rattle.std.specs.Prelude.{ℕ, List, map}
use Rattle.rl_labels.specs.LabelSet.{LabelSet}
use Rattle.rl_labels.specs.declared.entry.Entry.{Entry}
use Rattle.rl_query.specs.Form.{SieveForm, TermForm, sieve_form, term_form}
use Rattle.rl_query.specs.declared.filter.Sieve.{Sieve}
use Rattle.rl_deletes.specs.Deletes.{with_selector}
use Rattle.rl_deletes.specs.declared.deletion.Deletion.{Deletion}
use Rattle.rl_records.specs.declared.record.Record.{Record}
use Rattle.rl_records.specs.declared.step.ShardReply.{ShardReply}
use Rattle.rl_records.specs.declared.step.ShardStep.{ShardStep}
use Rattle.rl_records.specs.declared.step.ShardStep.TheVariants as steps

pub record EntryForm : Type 0 where
  pub labels : LabelSet
  pub timestamp : ℕ
  pub line : List ℕ

abbrev pub entry_form : Entry → EntryForm
entry_form entry = record { labels = entry.labels; timestamp = entry.timestamp; line = entry.line }

pub data StepForm : Type 0 where
  pushes : EntryForm → StepForm
  cuts : StepForm
  flushes : StepForm
  deletes : Deletion SieveForm → StepForm
  cancels : ℕ → StepForm
  processes : ℕ → ℕ → StepForm
  retains : ℕ → StepForm
  collects : ℕ → List TermForm → ℕ → StepForm

abbrev pub deletion_form : Deletion Sieve → Deletion SieveForm
deletion_form deletion = with_selector (sieve_form deletion.selector) deletion

abbrev pub step_form : ShardStep → StepForm
step_form (steps.Push entry) = pushes (entry_form entry)
step_form steps.Cut = cuts
step_form steps.Flush = flushes
step_form (steps.Delete deletion) = deletes (deletion_form deletion)
step_form (steps.Cancel id) = cancels id
step_form (steps.Process id now) = processes id now
step_form (steps.Retain now) = retains now
step_form (steps.Collect slot terms t) = collects slot (map term_form terms) t

pub record RecordForm : Type 0 where
  pub step : StepForm
  pub reply : ShardReply

abbrev pub record_form : Record → RecordForm
record_form it = record { step = step_form it.step; reply = it.reply }
