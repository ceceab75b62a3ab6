-- The search by hash ends where the labels are.
use Rattle.rl_streams.proofs.Added.{position_found}
use Rattle.rl_streams.proofs.adding.position_of.Goals as goal

pub returns-clause-position : goal.returns-clause-position
returns-clause-position c = position_found c.args.streams.now.entries c.args.labels.now c.get_index_of.result c.get_index_of.ensures.index c.get_index_of.ensures.found
