-- What is inside takes a parenthesis.
use Rattle.std.proofs.Common.{◌≡◌, List, Bor, ◌∙◌, Ok, refl, sym, ap, arith}
use Rattle.rl_query_text.specs.Drafts.{term_draft}
use Rattle.rl_query.specs.Form.{TermForm}
use Rattle.rl_query_text.specs.QueryReading.{term_by, term_in}
use Rattle.rl_query_text.specs.declared.draft.DraftTerm.{DraftTerm}
use Rattle.rl_selector_text.specs.declared.room.Room.{Room}
use Rattle.rl_query.specs.declared.token.Lexeme.{Lexeme}
use Rattle.rl_query.specs.declared.token.Token.TheVariants as tokens
use Rattle.rl_selector_text.specs.declared.front.Position.TheVariants as positions
use Rattle.rl_query_text.proofs.Parentheses.{opened_read}
use Rattle.rl_selector_text.proofs.Finding.{first_stops, fails_on}
use Rattle.rl_query_text.proofs.Openings.{opened_reads, front_depth, front_reads}
use Rattle.rl_query_text.proofs.term_reading.+terms.Goals as goal

-- a draft and the tokens after it
abbrev view : DraftTerm × Bor (List Lexeme) → TermForm × List Lexeme
view read = (term_draft read.0, read.1.now)

pub aggregated_at-term_in-requires : goal.aggregated_at-term_in-requires
aggregated_at-term_in-requires t c =
    let depth = front_depth c.args.word.now c.args.nest c.args.room c.args.lexemes.now c.in_ok-front.front c.in_ok-front.rest.now c.in_ok-front.ensures.read in
    (omega (arith, depth), tt)

pub aggregated_at-returns-in_err-term : goal.aggregated_at-returns-in_err-term
aggregated_at-returns-in_err-term t c =
    fails_on _ _ _ _ c.from_residual-in_err-term.ensures.1 (rw (front_reads _ _ _ _ _ _ c.in_ok-front.ensures.read) (first_stops _ _ _ c.in_err-term.ensures))

pub aggregated_at-returns-in_err-aggregation : goal.aggregated_at-returns-in_err-aggregation
aggregated_at-returns-in_err-aggregation t c =
    fails_on _ _ _ _ c.from_residual-in_err-aggregation.ensures.1 (rw (front_reads _ _ _ _ _ _ c.in_ok-front.ensures.read, c.in_ok-term.ensures) (first_stops _ _ _ c.in_err-aggregation.ensures))

pub aggregated_at-returns : goal.aggregated_at-returns
aggregated_at-returns t c =
    rw (front_reads _ _ _ _ _ _ c.in_ok-front.ensures.read, c.in_ok-term.ensures, c.in_ok-aggregation.ensures) (ap (λ term. Ok (term, c.in_ok-aggregation.rest.now)) (sym c.in_ok-term-2.ensures))

pub enclosed_at-term_in-requires : goal.enclosed_at-term_in-requires
enclosed_at-term_in-requires t c =
    (omega (arith, ap (λ (r : Room). r.depth) ((opened_read positions.InTerm c.args.room c.args.lexemes.now).is (c.in_ok-inside.inside, c.in_ok-inside.rest.now) c.in_ok-inside.ensures).around), tt)

pub enclosed_at-returns-in_err-term : goal.enclosed_at-returns-in_err-term
enclosed_at-returns-in_err-term t c =
    fails_on _ _ _ _ c.from_residual-in_err-term.ensures.1 (rw (opened_reads (λ turns. term_in turns positions.InTerm c.args.nest) _ _ _ _ _ c.in_ok-inside.ensures) (first_stops _ _ _ c.in_err-term.ensures))

pub enclosed_at-returns-in_err-rest : goal.enclosed_at-returns-in_err-rest
enclosed_at-returns-in_err-rest t c =
    fails_on _ _ _ _ c.from_residual-in_err-rest.ensures.1 (rw (opened_reads (λ turns. term_in turns positions.InTerm c.args.nest) _ _ _ _ _ c.in_ok-inside.ensures, c.in_ok-term.ensures, c.in_err-rest.ensures) refl)

pub enclosed_at-returns : goal.enclosed_at-returns
enclosed_at-returns t c =
    rw (opened_reads (λ turns. term_in turns positions.InTerm c.args.nest) _ _ _ _ _ c.in_ok-inside.ensures, c.in_ok-term.ensures, c.in_ok-rest.ensures) refl

pub term_in-returns-in-Word : goal.term_in-returns-in-Word
unfolding term_by
term_in-returns-in-Word t c =
    let token : c.in_ok-first.first.now.token ≡ tokens.Word c.as_str.result.now = c.in-Word.is ∙ ap tokens.Word (sym c.as_str.ensures) in
    rw (c.in_ok-first.ensures, token) c.worded_at.ensures
