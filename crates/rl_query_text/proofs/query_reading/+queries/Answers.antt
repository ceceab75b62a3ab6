-- What is inside takes a parenthesis.
use Rattle.std.proofs.Common.{List, Bor, refl, ap, arith}
use Rattle.rl_query_text.specs.Drafts.{query_draft}
use Rattle.rl_query.specs.Form.{QueryForm}
use Rattle.rl_query_text.specs.QueryReading.{query_within}
use Rattle.rl_query_text.specs.declared.draft.DraftQuery.{DraftQuery}
use Rattle.rl_selector_text.specs.declared.room.Room.{Room}
use Rattle.rl_query.specs.declared.token.Lexeme.{Lexeme}
use Rattle.rl_selector_text.specs.declared.front.Position.TheVariants as positions
use Rattle.rl_query_text.proofs.Parentheses.{opened_read}
use Rattle.rl_selector_text.proofs.Finding.{first_stops, fails_on}
use Rattle.rl_query_text.proofs.Openings.{opened_reads}
use Rattle.rl_query_text.proofs.query_reading.+queries.Goals as goal

-- a draft and the tokens after it
abbrev view : DraftQuery × Bor (List Lexeme) → QueryForm × List Lexeme
view read = (query_draft read.0, read.1.now)

pub inner_at-query_at-requires : goal.inner_at-query_at-requires
inner_at-query_at-requires t c =
    (omega (arith, ap (λ (r : Room). r.depth) ((opened_read positions.Start c.args.room c.args.lexemes.now).is (c.in_ok-inside.inside, c.in_ok-inside.rest.now) c.in_ok-inside.ensures).around), tt)

pub inner_at-returns-in_err-query : goal.inner_at-returns-in_err-query
inner_at-returns-in_err-query t c =
    fails_on _ _ _ _ c.from_residual-in_err-query.ensures.1 (rw (opened_reads query_within _ _ _ _ _ c.in_ok-inside.ensures) (first_stops _ _ _ c.in_err-query.ensures))

pub inner_at-returns-in_err-rest : goal.inner_at-returns-in_err-rest
inner_at-returns-in_err-rest t c =
    fails_on _ _ _ _ c.from_residual-in_err-rest.ensures.1 (rw (opened_reads query_within _ _ _ _ _ c.in_ok-inside.ensures, c.in_ok-query.ensures, c.in_err-rest.ensures) refl)

pub inner_at-returns : goal.inner_at-returns
inner_at-returns t c =
    rw (opened_reads query_within _ _ _ _ _ c.in_ok-inside.ensures, c.in_ok-query.ensures, c.in_ok-rest.ensures) refl
