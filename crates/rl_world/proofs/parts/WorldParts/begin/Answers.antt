-- A group opens an evaluation, or refuses.
use Rattle.std.proofs.Common.{arith, length, ap}
use Rattle.std.proofs.lemmas.Option.{slice_get_read}
use Rattle.rl_world.specs.WorldRun.{offers}
use Rattle.rl_world.specs.WorldState.{IsBookOf}
use Rattle.rl_world.proofs.Turning.{begin_turn, begin_refused, each_at, offers_same}
use Rattle.rl_world.proofs.parts.WorldParts.begin.Goals as goal

pub returns-in-Ok-clause-step : goal.returns-in-Ok-clause-step
returns-in-Ok-clause-step g c =
    let books = c.args.self.now.books.items in
    let there = slice_get_read books c.len.result c.args.group c.index_mut-book.result.now (omega (arith, c.len.ensures, c.args.self.now.books.ok.0)) c.if-group-len.false c.index_mut-book.ensures.value in
    let fits = each_at (IsBookOf (length c.args.self.now.shards.items)) books c.args.group c.index_mut-book.result.now c.args.self.now.books_fit there in
    begin_turn c.args.self.now.shards.items books c.args.group c.args.t c.index_mut-book.result.now c.begin.new.self there fits.0 c.in-Ok.ensures.answer c.in-Ok.ensures.ok

pub returns-in-Ok-clause-sinks : goal.returns-in-Ok-clause-sinks
returns-in-Ok-clause-sinks g c =
    let books = c.args.self.now.books.items in
    let there = slice_get_read books c.len.result c.args.group c.index_mut-book.result.now (omega (arith, c.len.ensures, c.args.self.now.books.ok.0)) c.if-group-len.false c.index_mut-book.ensures.value in
    offers_same c.args.self.now.shards.items books c.args.group c.index_mut-book.result.now c.begin.new.self there (ap offers c.in-Ok.ensures.ok)

pub returns-in-Err-clause-step : goal.returns-in-Err-clause-step
returns-in-Err-clause-step g c =
    let books = c.args.self.now.books.items in
    let there = slice_get_read books c.len.result c.args.group c.index_mut-book.result.now (omega (arith, c.len.ensures, c.args.self.now.books.ok.0)) c.if-group-len.false c.index_mut-book.ensures.value in
    begin_refused c.args.self.now.shards.items books c.args.group c.args.t c.index_mut-book.result.now c.begin.new.self c.in-Err.error c.refusal_of_book.result there c.in-Err.ensures.answer c.refusal_of_book.ensures c.in-Err.ensures.err
