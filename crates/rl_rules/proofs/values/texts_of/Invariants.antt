-- The texts so far, and those of the entries that are left.
use Rattle.std.proofs.Common.{◌≡◌, ◌++◌}
use Rattle.toml.specs.View.{table_view, members_view}
use Rattle.rl_rules.specs.Values.{texts_of}
use Rattle.rl_rules.proofs.values.texts_of.Given as goal

abbrev pub invariant-loop-name : goal.invariant-loop-name
invariant-loop-name l = l.texts.items ++ texts_of (members_view l.name-iterator) ≡ texts_of (table_view l.table)
