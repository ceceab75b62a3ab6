-- The streams so far are written out.
use Rattle.std.proofs.Common.{◌≡◌, ◌++◌}
use Rattle.std.specs.List.{AllZip}
use Rattle.rl_rule_tests.specs.Document.{IsExpansion}
use Rattle.rl_rule_tests.proofs.streams.expand_all.Given as goal

abbrev pub invariant-loop-stream : goal.invariant-loop-stream
invariant-loop-stream l = record {
  split : l.yielded ++ l.stream-iterator.rest.items ≡ l.fn.streams.items;
  expanded : AllZip IsExpansion l.yielded l.all.items;
}
