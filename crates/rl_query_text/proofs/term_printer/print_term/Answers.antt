-- No other term has the text.
use Rattle.std.proofs.Common.{sym, ◌∙◌}
use Rattle.rl_query_text.proofs.AnsweredQueries.{alone_term}
use Rattle.rl_query_text.proofs.term_printer.print_term.Goals as goal

pub returns-clause-alone : goal.returns-clause-alone
returns-clause-alone c = λ other e. alone_term other c.args.term.now (sym e ∙ c.in_ok-text.ensures)
