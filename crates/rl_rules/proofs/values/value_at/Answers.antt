-- The map of a table finds what its members have.
use Rattle.toml.proofs.Views.{table_get}
use Rattle.rl_rules.proofs.values.value_at.Goals as goal

pub returns : goal.returns
returns c = table_get c.get.result c.args.key.now c.args.table.now.entries c.get.ensures.value
