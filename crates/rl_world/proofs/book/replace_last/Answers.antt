-- The same stands in its place.
use Rattle.rl_world.proofs.Items.{set_last}
use Rattle.rl_world.proofs.book.replace_last.Goals as goal

pub returns-in-Some : goal.returns-in-Some
returns-in-Some g c = set_last c.args.values.now.items c.args.values.now.len c.args.value c.args.values.now.ok.0 c.requires
