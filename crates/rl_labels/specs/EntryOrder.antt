-- The order of log entries, by label text, timestamp and line bytes. A finite set of entries is its list in this order.
use Rattle.std.specs.Ordering.{nat_cmp, ordering_then}
use Rattle.std.specs.declared.cmp.Ordering.{Ordering}
use Rattle.std.specs.Cmp.Lexicographic.{slice_cmp}
use Rattle.std.specs.FinSet.{FinSet}
use Rattle.rl_labels.specs.LabelText.{label_set_cmp}
use Rattle.rl_labels.specs.declared.entry.Entry.{Entry}

abbrev pub entry_cmp : Entry → Entry → Ordering
entry_cmp a b = ordering_then (ordering_then (label_set_cmp a.labels b.labels) (nat_cmp a.timestamp b.timestamp)) (slice_cmp nat_cmp a.line b.line)

-- finite sets of entries: their operations are those of finite sets, and their items come in this order
abbrev pub EntrySet : Type 0
EntrySet = FinSet entry_cmp
