-- What is read is derived, and a printed sieve is read as itself.
use Rattle.rl_selector_text.proofs.Answered.{derived, all_read, read_again, sieves}
use Rattle.rl_selector_text.proofs.sieve.parse_delete.Goals as goal

pub returns-clause-again : goal.returns-clause-again
returns-clause-again c = read_again sieves c.read.result c.args.text.now c.read.ensures

pub returns-clause-derives : goal.returns-clause-derives
returns-clause-derives c = derived sieves c.read.result c.args.text.now c.read.ensures

pub returns-clause-complete : goal.returns-clause-complete
returns-clause-complete c = all_read sieves c.read.result c.args.text.now c.read.ensures
