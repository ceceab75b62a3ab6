-- What `Entry::new` answers.
use Rattle.std.specs.Prelude.{◌≡◌, ℕ, nat_lt, List, length, Option, None, Some, Result, Ok, Err, if◌then◌else◌}
use Rattle.rl_labels.specs.LabelSet.{LabelSet}
use Rattle.rl_labels.specs.EntryParts.{has_no_label, longest_line}
use Rattle.rl_labels.specs.declared.entry.Entry.{Entry}
use Rattle.rl_labels.specs.declared.entry.RefusedEntry.{RefusedEntry}
use Rattle.rl_labels.specs.declared.entry.EntryFault.{EntryFault}
use Rattle.rl_labels.specs.declared.entry.EntryFault.TheVariants.{NoLabels, TooLong}

-- the lowest fault of labels and a line
abbrev pub entry_fault : LabelSet → List ℕ → Option EntryFault
entry_fault labels line = if has_no_label labels then Some NoLabels else (if nat_lt longest_line (length line) then Some TooLong else None)

-- an entry has the parts that were given, and so has a refused one
abbrev pub KeepsParts : Result Entry RefusedEntry → LabelSet → ℕ → List ℕ → Type 0
KeepsParts (Ok entry) labels timestamp line = (entry.labels ≡ labels) × (entry.timestamp ≡ timestamp) × (entry.line ≡ line)
KeepsParts (Err refused) labels timestamp line = (refused.labels ≡ labels) × (refused.timestamp ≡ timestamp) × (refused.line ≡ line)
