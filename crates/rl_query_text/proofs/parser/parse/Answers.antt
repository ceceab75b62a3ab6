-- What is read is derived, and a printed query is read as itself.
use Rattle.rl_selector_text.proofs.Answered.{derived, all_read, read_again}
use Rattle.rl_query_text.proofs.AnsweredQueries.{queries}
use Rattle.rl_query_text.proofs.parser.parse.Goals as goal

pub returns-clause-again : goal.returns-clause-again
returns-clause-again c = read_again queries c.read.result c.args.text.now c.read.ensures

pub returns-clause-derives : goal.returns-clause-derives
returns-clause-derives c = derived queries c.read.result c.args.text.now c.read.ensures

pub returns-clause-complete : goal.returns-clause-complete
returns-clause-complete c = all_read queries c.read.result c.args.text.now c.read.ensures
