-- A list of entries as a set.
use Rattle.std.specs.Prelude.{List, map}
use Rattle.std.specs.FinMap.{from_entries}
use Rattle.rl_labels.specs.EntryOrder.{EntrySet}
use Rattle.rl_labels.specs.declared.entry.Entry.{Entry}

-- a set is a map with nothing at each of its members
abbrev pub mark : {K : Type 0} → K → K × Unit {0}
mark member = (member, tt)

-- the set of entries
abbrev pub set_of : List Entry → EntrySet
set_of entries = from_entries (map mark entries)
