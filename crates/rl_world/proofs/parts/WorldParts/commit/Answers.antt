-- A group closes its evaluation, or refuses.
use Rattle.std.proofs.Common.{arith, length, refl}
use Rattle.std.proofs.lemmas.Option.{slice_get_read}
use Rattle.rl_world.specs.WorldState.{IsBookOf}
use Rattle.rl_world.proofs.Committing.{commit_turn, commit_refused, fits_offered}
use Rattle.rl_world.proofs.Turning.{each_at, each_set}
use Rattle.rl_world.proofs.parts.WorldParts.commit.Goals as goal

pub invariant_of-self : goal.invariant_of-self
invariant_of-self g c =
    let n = length c.args.self.now.shards.items in
    let books = c.args.self.now.books.items in
    let book = c.index_mut-book.result.now in
    let there = slice_get_read books c.len.result c.args.group book (omega (arith, c.len.ensures, c.args.self.now.books.ok.0)) c.if-group-len.false c.index_mut-book.ensures.value in
    let fits = each_at (IsBookOf n) books c.args.group book c.args.self.now.books_fit there in
    record { books_fit = each_set (IsBookOf n) books c.args.group c.commit.new.self c.args.self.now.books_fit (fits_offered n c.commit.result book c.commit.new.self fits c.commit.ensures.rest c.commit.ensures.offered c.commit.ensures.err) }

pub returns-in-Ok-clause-step : goal.returns-in-Ok-clause-step
returns-in-Ok-clause-step g c =
    let books = c.args.self.now.books.items in
    let book = c.index_mut-book.result.now in
    let there = slice_get_read books c.len.result c.args.group book (omega (arith, c.len.ensures, c.args.self.now.books.ok.0)) c.if-group-len.false c.index_mut-book.ensures.value in
    commit_turn c.args.self.now.shards.items books c.args.group book c.commit.new.self there c.in-Ok.answer c.in-Ok.ensures.answer c.in-Ok.ensures.number c.in-Ok.ensures.evaluation c.in-Ok.ensures.history

pub returns-in-Ok-clause-sinks : goal.returns-in-Ok-clause-sinks
returns-in-Ok-clause-sinks g c =
    let books = c.args.self.now.books.items in
    let book = c.index_mut-book.result.now in
    let there = slice_get_read books c.len.result c.args.group book (omega (arith, c.len.ensures, c.args.self.now.books.ok.0)) c.if-group-len.false c.index_mut-book.ensures.value in
    record { before = book; there = there; after = c.commit.new.self; now = refl; asks = c.in-Ok.ensures.rest; ready = book.sinks; are_ready = refl; offered = c.in-Ok.ensures.offered; behind_is = c.in-Ok.ensures.behind }

pub returns-in-Err-clause-step : goal.returns-in-Err-clause-step
returns-in-Err-clause-step g c =
    let books = c.args.self.now.books.items in
    let book = c.index_mut-book.result.now in
    let there = slice_get_read books c.len.result c.args.group book (omega (arith, c.len.ensures, c.args.self.now.books.ok.0)) c.if-group-len.false c.index_mut-book.ensures.value in
    commit_refused c.args.self.now.shards.items books c.args.group book c.commit.new.self there c.in-Err.error c.refusal_of_book.result c.in-Err.ensures.answer c.refusal_of_book.ensures c.in-Err.ensures.err
