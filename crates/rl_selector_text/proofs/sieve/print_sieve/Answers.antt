-- No other sieve has the text.
use Rattle.std.proofs.Common.{sym, ◌∙◌}
use Rattle.rl_selector_text.proofs.Answered.{alone, sieves}
use Rattle.rl_selector_text.proofs.sieve.print_sieve.Goals as goal

pub returns-clause-alone : goal.returns-clause-alone
returns-clause-alone c = λ other e. alone sieves other c.args.sieve.now (sym e ∙ c.in_ok-text.ensures)
