-- What is printed of a term, and of a sieve.
use Rattle.std.specs.Prelude.{ℕ, List}
use Rattle.rl_query.specs.Form.{sieve_form, term_form}
use Rattle.rl_query.specs.Printing.{sieve_text, term_text}
use Rattle.rl_query.specs.declared.filter.Sieve.{Sieve}
use Rattle.rl_query.specs.declared.query.Term.{Term}

abbrev pub term_print : Term → List ℕ
term_print term = term_text (term_form term)

abbrev pub sieve_print : Sieve → List ℕ
sieve_print sieve = sieve_text (sieve_form sieve)
