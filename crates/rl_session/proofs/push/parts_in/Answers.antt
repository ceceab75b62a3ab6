-- There are fewer than two.
use Rattle.rl_session.proofs.Documents.{few_items}
use Rattle.rl_session.proofs.push.parts_in.Goals as goal

pub returns-in_default : goal.returns-in_default
returns-in_default c = few_items c.args.items.now c.in_default.len_below
