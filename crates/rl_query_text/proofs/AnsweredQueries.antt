-- What the reader and the printer of queries answer of derived and of printed texts.
use Rattle.rl_query.specs.Form.{query_form, query_has_pattern, term_form}
use Rattle.rl_query.specs.declared.query.Query.{Query}
use Rattle.rl_query.specs.declared.query.Term.{Term}
use Rattle.rl_query_text.proofs.MetTerms.{query_patterns}
use Rattle.rl_query_text.proofs.PrintedQuery.{query_printed}
use Rattle.rl_query_text.proofs.QueryProductions.{query_derived}
use Rattle.rl_query_text.proofs.QueryReadings.{derived_is_read}
use Rattle.rl_query_text.proofs.SameQuery.{as_query, keeps_limits, text_as_query}
use Rattle.rl_query.proofs.SameForms.{same_query}
use Rattle.rl_query.specs.Printing.{query_text, term_text}
use Rattle.rl_query_text.specs.QueryReading.{query_reading}
use Rattle.rl_query_text.specs.TermGrammar.{Derives}
use Rattle.std.proofs.Common.{ap, sym, ◌∙◌, ◌≡◌}
use Rattle.rl_selector_text.proofs.Answered.{IsLanguage, alone}

pub queries : IsLanguage query_form query_reading Derives query_has_pattern query_text
queries = record { sound = query_derived; complete = derived_is_read; patterns = query_patterns; same = same_query; printed = λ q. query_printed (query_form q) (keeps_limits q) }

pub alone_term : (a b : Term) → term_text (term_form a) ≡ term_text (term_form b) → a ≡ b
alone_term a b e = ap (λ (q : Query). q.left) (alone queries (as_query a) (as_query b) (text_as_query a ∙ e ∙ sym (text_as_query b)))
