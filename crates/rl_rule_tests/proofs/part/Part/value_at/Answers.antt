-- The map of a table finds what its members have.
use Rattle.toml.proofs.Views.{table_get}
use Rattle.rl_rule_tests.proofs.part.Part.value_at.Goals as goal

pub returns : goal.returns
returns c = table_get c.get.result c.args.key.now c.args.self.table.now.entries c.get.ensures.value
