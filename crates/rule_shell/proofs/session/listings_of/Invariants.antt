-- The groups so far are listed.
use Rattle.std.proofs.Common.{◌≡◌, map, take}
use Rattle.rl_callers.specs.Callers.{listed}
use Rattle.rule_shell.specs.Runs.{listed_groups}
use Rattle.rule_shell.proofs.session.listings_of.Given as goal

abbrev pub invariant-loop-group : goal.invariant-loop-group
invariant-loop-group l = map listed l.listings.items ≡ listed_groups l.sinks (take l.group-index l.groups)
