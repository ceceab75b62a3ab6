-- There is more than one.
use Rattle.rl_session.proofs.Documents.{many_items}
use Rattle.rl_session.proofs.push.metadata_in.Goals as goal

pub returns-in_default : goal.returns-in_default
returns-in_default c = many_items c.args.rest.now c.in_default.len_at_least
