-- The texts so far, and those of the entries that are left.
use Rattle.std.proofs.Common.{◌≡◌, ◌++◌}
use Rattle.toml.specs.View.{table_view, members_view}
use Rattle.rl_rules.specs.Values.{are_texts, texts_of}
use Rattle.rl_rule_tests.proofs.part.Part.push_texts.Given as goal

abbrev pub invariant-loop-name : goal.invariant-loop-name
invariant-loop-name l = (are_texts (members_view l.name-iterator) ≡ are_texts (table_view l.table)) × (l.pairs.items ++ texts_of (members_view l.name-iterator) ≡ l.fn.pairs.items ++ texts_of (table_view l.table))
