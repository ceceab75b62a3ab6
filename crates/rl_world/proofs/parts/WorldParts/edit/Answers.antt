-- A group is edited under its own name, or refuses.
use Rattle.std.proofs.Common.{◌≡◌, true, arith, ap, sym, ◌∙◌}
use Rattle.std.proofs.lemmas.Grind.{common_steps}
use Rattle.std.proofs.lemmas.Option.{slice_get_read}
use Rattle.rl_labels.specs.Name.{is_text}
use Rattle.rl_rules.specs.declared.rule.Group.{Group}
use Rattle.rl_world.specs.WorldRun.{offers}
use Rattle.rl_world.specs.WorldState.{BookState}
use Rattle.rl_world.proofs.Gathering.{same_read}
use Rattle.rl_world.proofs.Turning.{edit_turn, edit_refused, offers_same}
use Rattle.rl_world.proofs.parts.WorldParts.edit.Goals as goal

pub returns-in-Ok-clause-step : goal.returns-in-Ok-clause-step
returns-in-Ok-clause-step g c =
    let books = c.args.self.now.books.items in
    let book = c.index_mut-book.result.now in
    let there = slice_get_read books c.len.result c.args.group book (omega (arith, c.len.ensures, c.args.self.now.books.ok.0)) c.if-group-len.false c.index_mut-book.ensures.value in
    let first = slice_get_read books c.len.result c.args.group c.index.result.now (omega (arith, c.len.ensures, c.args.self.now.books.ok.0)) c.if-group-len.false c.index.ensures in
    let one = same_read books c.args.group book c.index.result.now there first in
    let same : c.is_same_name.result ≡ true = grind (arith, common_steps) in
    let named = ap (λ (b : BookState). is_text c.args.to.name b.history.group.name) one ∙ ap (λ (group : Group). is_text c.args.to.name group.name) (sym c.group.ensures.now) ∙ sym c.is_same_name.ensures ∙ same in
    edit_turn c.args.self.now.shards.items books c.args.group c.in-Ok.place c.args.to book c.edit_own.new.self there named c.in-Ok.ensures.answer c.in-Ok.ensures.place c.in-Ok.ensures.ok

pub returns-in-Ok-clause-sinks : goal.returns-in-Ok-clause-sinks
returns-in-Ok-clause-sinks g c =
    let books = c.args.self.now.books.items in
    let book = c.index_mut-book.result.now in
    let there = slice_get_read books c.len.result c.args.group book (omega (arith, c.len.ensures, c.args.self.now.books.ok.0)) c.if-group-len.false c.index_mut-book.ensures.value in
    offers_same c.args.self.now.shards.items books c.args.group book c.edit_own.new.self there (ap offers c.in-Ok.ensures.ok)

pub returns-in-Err-clause-step : goal.returns-in-Err-clause-step
returns-in-Err-clause-step g c =
    let books = c.args.self.now.books.items in
    let book = c.index_mut-book.result.now in
    let there = slice_get_read books c.len.result c.args.group book (omega (arith, c.len.ensures, c.args.self.now.books.ok.0)) c.if-group-len.false c.index_mut-book.ensures.value in
    let first = slice_get_read books c.len.result c.args.group c.index.result.now (omega (arith, c.len.ensures, c.args.self.now.books.ok.0)) c.if-group-len.false c.index.ensures in
    let one = same_read books c.args.group book c.index.result.now there first in
    let same : c.is_same_name.result ≡ true = grind (arith, common_steps) in
    let named = ap (λ (b : BookState). is_text c.args.to.name b.history.group.name) one ∙ ap (λ (group : Group). is_text c.args.to.name group.name) (sym c.group.ensures.now) ∙ sym c.is_same_name.ensures ∙ same in
    edit_refused c.args.self.now.shards.items books c.args.group c.args.to book c.edit_own.new.self c.in-Err.error c.refusal_of_book.result there named c.in-Err.ensures.answer c.refusal_of_book.ensures c.in-Err.ensures.err
