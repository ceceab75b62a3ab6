-- What the rules so far took, and what those that are left take of the others.
use Rattle.std.proofs.Common.{◌≡◌, ◌++◌, drop}
use Rattle.rl_rules.specs.Editing.{handed_on}
use Rattle.rl_rules.proofs.editing.hand_on.Given as goal

abbrev pub invariant-loop-rule : goal.invariant-loop-rule
invariant-loop-rule l = l.kept.items ++ handed_on (drop l.rule-index l.rules) l.before.items ≡ handed_on l.rules l.fn.before.items
