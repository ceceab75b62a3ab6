-- Entries without the facts that their type keeps, and the parts of a value.
use Rattle.std.specs.Prelude.{ℕ, List, Option, option_map}
use Rattle.json.specs.Value.{value_view}
use Rattle.json.specs.declared.value.Value.{Value}
use Rattle.serde_json.specs.Data.{Data}
use Rattle.rl_json.specs.JsonData.{data_of}
use Rattle.rl_labels.specs.LabelSet.{LabelSet}
use Rattle.rl_labels.specs.declared.entry.Entry.{Entry}
use Rattle.rl_session.specs.declared.push.Parts.{Parts}

-- a value as the data that `serde_json` reads
abbrev pub datum : {A : Type 0} → Value A → Data
datum value = data_of (value_view value)

pub record EntryForm : Type 0 where
  pub labels : LabelSet
  pub timestamp : ℕ
  pub line : List ℕ

abbrev pub entry_form : Entry → EntryForm
entry_form entry = record { labels = entry.labels; timestamp = entry.timestamp; line = entry.line }

-- what a value has, before it is looked at
pub record ValueParts : Type 0 where
  pub time : List ℕ
  pub line : List ℕ
  pub metadata : Option Data

abbrev pub parts_form : Parts → ValueParts
parts_form parts = record { time = parts.time.now; line = parts.line.now; metadata = option_map (λ value. datum value.now) parts.metadata }
