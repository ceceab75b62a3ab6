-- The length of a set is the number of its members.
use Rattle.std.proofs.Common.{◌≡◌, length, arith}
use Rattle.std.specs.FinMap.{entries, keys, len-entries}
use Rattle.std.proofs.lemmas.List.{length-map}
use Rattle.rl_windows.proofs.building.show_few.Goals as goal

pub returns : goal.returns
returns g c =
    let held = c.args.streams.now.held in
    let many : length (keys held) ≡ length (entries held) = length-map (entries held) (λ e. e.0) in
    omega (arith, many, len-entries held, c.len.ensures.room)
