-- What is read with all the room of a text keeps its limits.
use Rattle.std.proofs.Common.{subst, suc, List, Bor, Result, Ok, Err, IfOk}
use Rattle.rl_plain.specs.declared.refusal.OrMemory.{OrMemory}
use Rattle.rl_plain.specs.Answers.{Gives}
use Rattle.rl_query_text.specs.Drafts.{query_draft, KeepsQuery}
use Rattle.rl_query.specs.Form.{QueryForm}
use Rattle.rl_selector_text.specs.declared.room.Room.{Room}
use Rattle.rl_query_text.specs.declared.draft.DraftQuery.{DraftQuery}
use Rattle.rl_selector_text.specs.declared.stop.Stop.{Stop}
use Rattle.rl_query.specs.declared.token.Lexeme.{Lexeme}
use Rattle.rl_query_text.specs.QueryReading.{query_within, whole_at}
use Rattle.rl_query_text.proofs.DraftLimits.{query_keeps}
use Rattle.rl_query_text.proofs.QueryProductions.{whole_derived}
use Rattle.rl_query_text.proofs.query_reading.whole_at.Goals as goal

-- a draft and the tokens after it
abbrev view : DraftQuery × Bor (List Lexeme) → QueryForm × List Lexeme
view read = (query_draft read.0, read.1.now)

pub returns-clause-read : goal.returns-clause-read
unfolding whole_at
returns-clause-read c = subst (λ (room : Room). Gives view c.query_at.result (query_within (suc room.depth) room c.args.lexemes.now)) c.whole_room.ensures c.query_at.ensures

kept : (r : Result (DraftQuery × Bor (List Lexeme)) (OrMemory Stop)) (lexemes : List Lexeme) → Gives view r (whole_at lexemes) → IfOk r (λ x. KeepsQuery x.0)
kept (Ok x) lexemes h = query_keeps x.0 lexemes x.1.now ((whole_derived lexemes).is (query_draft x.0, x.1.now) h)
kept (Err e) lexemes h = tt

pub returns-clause-keeps : goal.returns-clause-keeps
returns-clause-keeps c = kept c.query_at.result c.args.lexemes.now (returns-clause-read c)
