-- The first stamp is the earliest.
use Rattle.std.proofs.Common.{sym, ◌∙◌}
use Rattle.rl_plain.specs.laws.Bools.{true_from}
use Rattle.rl_plain.specs.laws.TreeMaps.{sorted_entries}
use Rattle.rl_windows.specs.Buckets.{stamp_cmp}
use Rattle.rl_windows.proofs.Running.{late_all}
use Rattle.rl_windows.proofs.spans.pop_before.Goals as goal

pub returns-then-high-first-clause-rest : goal.returns-then-high-first-clause-rest
returns-then-high-first-clause-rest c =
    let es = c.args.by_stamp.now.entries in
    late_all c.args.high es c.in_ok-first.first.now _ (true_from _ (sorted_entries stamp_cmp es c.keys.ensures.ordered)) (sym c.keys.ensures.rest ∙ c.in_ok-first.ensures.steps) c.if-high-first.true
