-- Of an entry of the stream in the range what is left covers it where all do.
use Rattle.std.proofs.Common.{◌≡◌, ◌≤◌}
use Rattle.std.specs.List.{list_any}
use Rattle.rl_labels.specs.declared.entry.Entry.{Entry}
use Rattle.rl_deletes.specs.Deletes.{covered, covers_one}
use Rattle.rl_deletes.proofs.requests.RequestsCovers.may_cover.Given as goal

abbrev pub invariant-loop-active : goal.invariant-loop-active
invariant-loop-active l = (entry : Entry) → entry.labels ≡ l.labels → l.from ≤ entry.timestamp → entry.timestamp ≤ l.to → list_any (λ request. covers_one request entry) l.active-iterator ≡ covered l.self entry
