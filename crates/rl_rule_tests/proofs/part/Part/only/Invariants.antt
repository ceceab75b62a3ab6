-- The keys so far are among those that are known.
use Rattle.std.proofs.Common.{◌≡◌, map}
use Rattle.toml.specs.View.{table_view, members_view}
use Rattle.rl_rule_tests.specs.Document.{has_only}
use Rattle.rl_rule_tests.proofs.part.Part.only.Given as goal

abbrev pub invariant-loop-key : goal.invariant-loop-key
invariant-loop-key l = has_only (map (λ key. key.now) l.keys) (members_view l.key-iterator) ≡ has_only (map (λ key. key.now) l.keys) (table_view l.self.table.now)
