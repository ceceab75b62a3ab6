-- None of the parts so far has the entry in an honest store.
use Rattle.std.proofs.Common.{◌≡◌, true, take}
use Rattle.std.specs.List.{AllByRecursion, Contains, flat_map}
use Rattle.rl_parts.specs.StoreUse.{Reads, IsKept}
use Rattle.rl_parts.specs.Reading.{IsOutside, IsWithout, in_store}
use Rattle.rl_parts.proofs.searching.any_there.Given as goal

abbrev pub invariant-loop-part : goal.invariant-loop-part
invariant-loop-part g l = record {
  reads : Reads l.fn.chunks l.chunks;
  counted : l.chunks.seen.faults ≡ l.fn.chunks.seen.faults;
  unread : AllByRecursion (IsOutside l.entry.timestamp l.entry.timestamp) l.parts → l.chunks ≡ l.fn.chunks;
  absent : AllByRecursion (IsKept l.fn.chunks l.entry.labels) l.parts → l.fn.chunks.seen.honest ≡ true → Contains (flat_map in_store (take l.part-index l.parts)) l.entry → ⊥;
  without : AllByRecursion (IsWithout l.entry) (take l.part-index l.parts);
}
