-- The rows so far.
use Rattle.std.proofs.Common.{◌≡◌, map, take}
use Rattle.rl_rule_tests.specs.Judging.{form, wanted_row}
use Rattle.rl_rule_tests.proofs.wanted.wanted_of.Given as goal

abbrev pub invariant-loop-row : goal.invariant-loop-row
invariant-loop-row l = record {
  items : l.row-items ≡ l.check.wanted.items;
  rows : map form l.rows.items ≡ map wanted_row (take l.row-index l.row-items);
}
