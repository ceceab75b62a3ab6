-- The length of a set is the number of its members, and no more are shown than there are.
use Rattle.std.proofs.Common.{◌≡◌, not, length, arith}
use Rattle.std.specs.FinMap.{entries, keys, len-entries}
use Rattle.std.proofs.lemmas.List.{length-map}
use Rattle.rl_deletes.specs.Deletes.{covered}
use Rattle.rl_shard.proofs.Few.{few_pass}
use Rattle.rl_shard.proofs.collecting.show_few.Goals as goal

pub returns-clause-held : goal.returns-clause-held
returns-clause-held g c =
    let held = c.args.streams.now.held in
    let many : length (keys held) ≡ length (entries held) = length-map (entries held) (λ e. e.0) in
    omega (arith, many, len-entries held, c.len.ensures.room)

pub returns-clause-shown : goal.returns-clause-shown
returns-clause-shown g c = omega (arith, few_pass (λ entry. not (covered c.args._requests.now entry)) (keys c.args.streams.now.held), returns-clause-held g c)
