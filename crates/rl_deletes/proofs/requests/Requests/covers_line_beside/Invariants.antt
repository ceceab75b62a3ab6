-- What is left covers the line, but for the one with the number, where all do.
use Rattle.std.proofs.Common.{◌≡◌, not, ◌&&◌}
use Rattle.std.specs.Prelude.{◌==◌}
use Rattle.std.specs.List.{list_any}
use Rattle.rl_deletes.specs.Deletes.{covered_line, covers_line, without_request}
use Rattle.rl_deletes.proofs.requests.Requests.covers_line_beside.Given as goal

abbrev pub invariant-loop-number : goal.invariant-loop-number
invariant-loop-number l =
    list_any (λ built. not (built.0 == l.id) && covers_line built.1 l.labels l.timestamp l.line) l.number-iterator ≡ covered_line (without_request l.self l.id) l.labels l.timestamp l.line
