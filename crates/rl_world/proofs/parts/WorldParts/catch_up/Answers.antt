-- A group's sinks catch up, or memory runs out.
use Rattle.std.proofs.Common.{arith, length, refl}
use Rattle.std.proofs.lemmas.Option.{slice_get_read}
use Rattle.rl_world.specs.WorldState.{IsBookOf}
use Rattle.rl_world.proofs.Committing.{fits_caught_up}
use Rattle.rl_world.proofs.Turning.{catch_up_turn, catch_up_refused, each_at, each_set}
use Rattle.rl_world.proofs.parts.WorldParts.catch_up.Goals as goal

pub invariant_of-self : goal.invariant_of-self
invariant_of-self g c =
    let n = length c.args.self.now.shards.items in
    let books = c.args.self.now.books.items in
    let book = c.index_mut-book.result.now in
    let there = slice_get_read books c.len.result c.args.group book (omega (arith, c.len.ensures, c.args.self.now.books.ok.0)) c.if-group-len.false c.index_mut-book.ensures.value in
    let fits = each_at (IsBookOf n) books c.args.group book c.args.self.now.books_fit there in
    record { books_fit = each_set (IsBookOf n) books c.args.group c.catch_up.new.self c.args.self.now.books_fit (fits_caught_up n c.catch_up.result book c.catch_up.new.self _ _ fits c.catch_up.ensures.rest c.catch_up.ensures.offered c.catch_up.ensures.err) }

pub returns-in-Ok-clause-step : goal.returns-in-Ok-clause-step
returns-in-Ok-clause-step g c =
    let books = c.args.self.now.books.items in
    let book = c.index_mut-book.result.now in
    let there = slice_get_read books c.len.result c.args.group book (omega (arith, c.len.ensures, c.args.self.now.books.ok.0)) c.if-group-len.false c.index_mut-book.ensures.value in
    catch_up_turn c.args.self.now.shards.items books c.args.group c.in-Ok.behind book c.catch_up.new.self there c.in-Ok.ensures.history

pub returns-in-Ok-clause-sinks : goal.returns-in-Ok-clause-sinks
returns-in-Ok-clause-sinks g c =
    let books = c.args.self.now.books.items in
    let book = c.index_mut-book.result.now in
    let there = slice_get_read books c.len.result c.args.group book (omega (arith, c.len.ensures, c.args.self.now.books.ok.0)) c.if-group-len.false c.index_mut-book.ensures.value in
    record { before = book; there = there; after = c.catch_up.new.self; now = refl; asks = c.in-Ok.ensures.rest; ready = c.in-Ok.ensures.offered.0; are_ready = c.in-Ok.ensures.offered.1; offered = c.in-Ok.ensures.offered.3; behind_is = c.in-Ok.ensures.behind }

pub returns-in-Err-clause-step : goal.returns-in-Err-clause-step
returns-in-Err-clause-step g c =
    let books = c.args.self.now.books.items in
    let book = c.index_mut-book.result.now in
    let there = slice_get_read books c.len.result c.args.group book (omega (arith, c.len.ensures, c.args.self.now.books.ok.0)) c.if-group-len.false c.index_mut-book.ensures.value in
    catch_up_refused c.args.self.now.shards.items books c.args.group book c.catch_up.new.self there c.in-Err.ensures.err
