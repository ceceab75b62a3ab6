-- Lines by timestamp and label set: how many at each, and their bytes.
use Rattle.std.specs.Prelude.{◌≡◌, ℕ, ◌*◌, ◌≤◌, nat_le, nat_lt, Bool, false, ◌&&◌, List, Option, None, Some, if◌then◌else◌, refl}
use Rattle.std.specs.Coded.{Coded, code_by, coded×, coded_ℕ, coded_option}
use Rattle.std.specs.FinMap.{FinMap, code, from_entries}
use Rattle.std.specs.List.{AllByRecursion, sum_by}
use Rattle.std.specs.Option.{option_cmp}
use Rattle.std.specs.Ordering.{nat_cmp, ordering_then}
use Rattle.std.specs.declared.cmp.Ordering.{Ordering}
use Rattle.rl_labels.specs.EntryParts.{longest_line}
use Rattle.rl_labels.specs.LabelSet.{LabelSet, label_set_code}
use Rattle.rl_labels.specs.LabelText.{label_set_cmp}
use Rattle.rl_aggregate.specs.TotalsMap.{minus, has_volume}
use Rattle.rl_aggregate.specs.declared.volume.Volume.{Volume}
use Rattle.rl_windows.specs.declared.element.Stamp.{Stamp}

-- by time, and then by labels; lines with an error come first
abbrev pub stamp_cmp : Stamp → Stamp → Ordering
stamp_cmp a b = ordering_then (nat_cmp a.timestamp b.timestamp) (option_cmp label_set_cmp a.labels b.labels)

abbrev pub BucketsMap : Type 0
BucketsMap = FinMap stamp_cmp Volume

-- buckets as numbers, for a store
abbrev pub buckets_code : Coded BucketsMap
buckets_code = code
    (code_by (ℕ × Option LabelSet) (coded× coded_ℕ (coded_option label_set_code)) (λ s. (s.timestamp, s.labels)) (λ p. record { timestamp = p.0; labels = p.1 }) (λ _. refl))
    (code_by (ℕ × ℕ) (coded× coded_ℕ coded_ℕ) (λ t. (t.count, t.bytes)) (λ p. record { count = p.0; bytes = p.1 }) (λ _. refl))

-- lines, each of at most the longest line's bytes
abbrev pub IsShort : Volume → Type 0
IsShort volume = (1 ≤ volume.count) × (volume.bytes ≤ volume.count * longest_line)

-- lines can be among those of a bucket: it has as many, and none that is left is longer than a line may be
abbrev pub may_go : Option Volume → Volume → Bool
may_go None volume = false
may_go (Some there) volume = nat_lt 0 volume.count && has_volume (Some there) volume && nat_le (minus there volume).bytes ((minus there volume).count * longest_line)

-- lines by stamp, some of one stamp perhaps apart
abbrev pub Lines : Type 0
Lines = List (Stamp × Volume)

-- the buckets that the entries of a tree make
abbrev pub buckets_in : Lines → BucketsMap
buckets_in es = from_entries {R = stamp_cmp} es

-- the lines at the stamps that pass a test
abbrev pub volume_of : (Stamp → Bool) → Lines → Volume
volume_of test lines = record {
  count = sum_by (λ line. if test line.0 then line.1.count else 0) lines;
  bytes = sum_by (λ line. if test line.0 then line.1.bytes else 0) lines;
}

-- whichever stamps are asked for, both have as many lines, and as many bytes
abbrev pub AreAlike : Lines → Lines → Type 0
AreAlike lines others = (test : Stamp → Bool) → volume_of test lines ≡ volume_of test others

abbrev pub AreShort : Lines → Type 0
AreShort lines = AllByRecursion (λ line. IsShort line.1) lines
