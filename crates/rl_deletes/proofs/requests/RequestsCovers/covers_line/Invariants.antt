-- What is left covers the line where all do.
use Rattle.std.proofs.Common.{◌≡◌}
use Rattle.std.specs.List.{list_any}
use Rattle.rl_deletes.specs.Deletes.{covered_line, covers_line}
use Rattle.rl_deletes.proofs.requests.RequestsCovers.covers_line.Given as goal

abbrev pub invariant-loop-active : goal.invariant-loop-active
invariant-loop-active l = list_any (λ request. covers_line request l.labels l.timestamp l.line) l.active-iterator ≡ covered_line l.self l.labels l.timestamp l.line
