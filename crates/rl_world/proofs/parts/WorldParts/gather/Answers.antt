-- A shard is asked, and the book keeps what it showed.
use Rattle.std.proofs.Common.{◌≡◌, None, length, arith, sym, ap, subst, ◌∙◌}
use Rattle.std.proofs.lemmas.Option.{slice_get_read}
use Rattle.rl_shard.specs.ShardFault.{IsHonest}
use Rattle.rl_shard.specs.ShardState.{journalled}
use Rattle.rl_shard.specs.ShardStep.{is_journal_full}
use Rattle.rl_world.specs.BookCalls.{with_history}
use Rattle.rl_world.specs.History.{gather_fault, gathered}
use Rattle.rl_world.specs.WorldRun.{offers}
use Rattle.rl_world.specs.WorldState.{BookState, IsBookOf}
use Rattle.rl_world.proofs.Gathering.{fits_put, fits_both, gather_refused, gather_turn, same_read, stores_gathered, stores_not_gathered}
use Rattle.rl_world.proofs.Turning.{each_at, refused_ok, offers_same}
use Rattle.rl_world.proofs.parts.WorldParts.gather.Goals as goal

pub returns-in-Err-ask-clause-refused : goal.returns-in-Err-ask-clause-refused
returns-in-Err-ask-clause-refused g c =
    let shards = c.args.self.now.shards.items in
    let books = c.args.self.now.books.items in
    let book = c.index-book.result.now in
    let shard = c.index_mut.result.now in
    let there = slice_get_read books c.len.result c.args.group book (omega (arith, c.len.ensures, c.args.self.now.books.ok.0)) c.if-group-len.false c.index-book.ensures in
    let shard_there = slice_get_read shards c.len-else-group-len.result c.args.number shard (omega (arith, c.len-else-group-len.ensures, c.args.self.now.shards.ok.0)) c.if-number-len.false c.index_mut.ensures.value in
    let free : gather_fault book.history c.args.number ≡ None = refused_ok (gather_fault book.history c.args.number) c.in-Ok.t c.in-Ok.ensures.answer in
    let first = slice_get_read shards c.len-else-group-len.result c.args.number c.index.result.now (omega (arith, c.len-else-group-len.ensures, c.args.self.now.shards.ok.0)) c.if-number-len.false c.index.ensures in
    let room = ap (λ s. is_journal_full (journalled s)) (same_read shards c.args.number shard c.index.result.now shard_there first) ∙ sym c.is_journal_full.ensures ∙ c.if-is_journal_full.false in
    gather_refused shards books c.args.group c.args.number book shard there shard_there c.ask.new.shard c.args.group c.in-Ok.t c.in-Ok-try_copy.terms c.in-Err-ask.fault c.refusal_of_shard.result free room c.in-Err-ask.ensures.may_come c.in-Err-ask.ensures.kept c.refusal_of_shard.ensures

pub returns-in-Err-ask-clause-step : goal.returns-in-Err-ask-clause-step
returns-in-Err-ask-clause-step g c = λ honest. returns-in-Err-ask-clause-refused g c

pub returns-in-Err-ask-clause-stores : goal.returns-in-Err-ask-clause-stores
returns-in-Err-ask-clause-stores g c =
    let shards = c.args.self.now.shards.items in
    let books = c.args.self.now.books.items in
    let book = c.index-book.result.now in
    let shard = c.index_mut.result.now in
    let there = slice_get_read books c.len.result c.args.group book (omega (arith, c.len.ensures, c.args.self.now.books.ok.0)) c.if-group-len.false c.index-book.ensures in
    let shard_there = slice_get_read shards c.len-else-group-len.result c.args.number shard (omega (arith, c.len-else-group-len.ensures, c.args.self.now.shards.ok.0)) c.if-number-len.false c.index_mut.ensures.value in
    let free : gather_fault book.history c.args.number ≡ None = refused_ok (gather_fault book.history c.args.number) c.in-Ok.t c.in-Ok.ensures.answer in
    let first = slice_get_read shards c.len-else-group-len.result c.args.number c.index.result.now (omega (arith, c.len-else-group-len.ensures, c.args.self.now.shards.ok.0)) c.if-number-len.false c.index.ensures in
    let room = ap (λ s. is_journal_full (journalled s)) (same_read shards c.args.number shard c.index.result.now shard_there first) ∙ sym c.is_journal_full.ensures ∙ c.if-is_journal_full.false in
    stores_not_gathered shards books c.args.group c.args.number book shard there shard_there c.ask.new.shard c.in-Ok.t c.in-Ok-try_copy.terms c.in-Err-ask.fault c.refusal_of_shard.result free room c.in-Ok.ensures.moment (c.in-Ok-try_copy.ensures ∙ c.terms.ensures) c.ask.ensures.stored c.ask.ensures.numbers c.in-Err-ask.ensures.may_come c.in-Err-ask.ensures.grown
    c.ask.ensures.gives c.in-Err-ask.ensures.kept c.refusal_of_shard.ensures

pub invariant_of-self-2 : goal.invariant_of-self-2
invariant_of-self-2 g c =
    let shards = c.args.self.now.shards.items in
    let books = c.args.self.now.books.items in
    let book = c.index_mut-book.result.now in
    let there = slice_get_read books c.len.result c.args.group book (omega (arith, c.len.ensures, c.args.self.now.books.ok.0)) c.if-group-len.false c.index_mut-book.ensures.value in
    let fits = each_at (IsBookOf (length shards)) books c.args.group book c.args.self.now.books_fit there in
    record { books_fit = fits_both shards books c.args.number c.ask.new.shard c.args.group c.put_partials.new.self c.args.self.now.books_fit (fits_put (length shards) c.put_partials.result book c.put_partials.new.self c.args.number c.in-Ok-ask.answer.0 c.in-Ok-ask.answer.1 fits c.put_partials.ensures.ok c.put_partials.ensures.err) }

pub returns-in-Ok-put_partials-clause-step : goal.returns-in-Ok-put_partials-clause-step
returns-in-Ok-put_partials-clause-step g c =
    let shards = c.args.self.now.shards.items in
    let books = c.args.self.now.books.items in
    let book = c.index-book.result.now in
    let shard = c.index_mut.result.now in
    let there = slice_get_read books c.len.result c.args.group book (omega (arith, c.len.ensures, c.args.self.now.books.ok.0)) c.if-group-len.false c.index-book.ensures in
    let shard_there = slice_get_read shards c.len-else-group-len.result c.args.number shard (omega (arith, c.len-else-group-len.ensures, c.args.self.now.shards.ok.0)) c.if-number-len.false c.index_mut.ensures.value in
    let free : gather_fault book.history c.args.number ≡ None = refused_ok (gather_fault book.history c.args.number) c.in-Ok.t c.in-Ok.ensures.answer in
    let again = slice_get_read books c.len.result c.args.group c.index_mut-book.result.now (omega (arith, c.len.ensures, c.args.self.now.books.ok.0)) c.if-group-len.false c.index_mut-book.ensures.value in
    let one = same_read books c.args.group c.index_mut-book.result.now book again there in
    let put = subst (λ (b : BookState). c.put_partials.new.self ≡ with_history b (gathered b.history c.args.number c.in-Ok-ask.answer.0 c.in-Ok-ask.answer.1)) one c.in-Ok-put_partials.ensures.ok in
    let first = slice_get_read shards c.len-else-group-len.result c.args.number c.index.result.now (omega (arith, c.len-else-group-len.ensures, c.args.self.now.shards.ok.0)) c.if-number-len.false c.index.ensures in
    let room = ap (λ s. is_journal_full (journalled s)) (same_read shards c.args.number shard c.index.result.now shard_there first) ∙ sym c.is_journal_full.ensures ∙ c.if-is_journal_full.false in
    λ honest. let own = each_at IsHonest shards c.args.number shard honest shard_there in
    gather_turn shards books c.args.group c.args.number book shard there shard_there c.ask.new.shard c.put_partials.new.self c.args.group c.in-Ok.t c.in-Ok-ask.answer.0 c.in-Ok-try_copy.terms c.in-Ok-ask.answer.1 free c.in-Ok.ensures.moment (c.in-Ok-try_copy.ensures ∙ c.terms.ensures)
    room c.in-Ok-ask.ensures.decides.place_is (c.in-Ok-ask.ensures.shown own) (c.in-Ok-ask.ensures.changed own) put

pub returns-in-Ok-put_partials-clause-stores : goal.returns-in-Ok-put_partials-clause-stores
returns-in-Ok-put_partials-clause-stores g c =
    let shards = c.args.self.now.shards.items in
    let books = c.args.self.now.books.items in
    let book = c.index-book.result.now in
    let shard = c.index_mut.result.now in
    let there = slice_get_read books c.len.result c.args.group book (omega (arith, c.len.ensures, c.args.self.now.books.ok.0)) c.if-group-len.false c.index-book.ensures in
    let shard_there = slice_get_read shards c.len-else-group-len.result c.args.number shard (omega (arith, c.len-else-group-len.ensures, c.args.self.now.shards.ok.0)) c.if-number-len.false c.index_mut.ensures.value in
    let free : gather_fault book.history c.args.number ≡ None = refused_ok (gather_fault book.history c.args.number) c.in-Ok.t c.in-Ok.ensures.answer in
    let first = slice_get_read shards c.len-else-group-len.result c.args.number c.index.result.now (omega (arith, c.len-else-group-len.ensures, c.args.self.now.shards.ok.0)) c.if-number-len.false c.index.ensures in
    let room = ap (λ s. is_journal_full (journalled s)) (same_read shards c.args.number shard c.index.result.now shard_there first) ∙ sym c.is_journal_full.ensures ∙ c.if-is_journal_full.false in
    let again = slice_get_read books c.len.result c.args.group c.index_mut-book.result.now (omega (arith, c.len.ensures, c.args.self.now.books.ok.0)) c.if-group-len.false c.index_mut-book.ensures.value in
    let one = same_read books c.args.group c.index_mut-book.result.now book again there in
    let put = subst (λ (b : BookState). c.put_partials.new.self ≡ with_history b (gathered b.history c.args.number c.in-Ok-ask.answer.0 c.in-Ok-ask.answer.1)) one c.in-Ok-put_partials.ensures.ok in
    stores_gathered shards books c.args.group c.args.number book shard there shard_there c.ask.new.shard c.put_partials.new.self c.in-Ok.t c.in-Ok-ask.answer.0 c.in-Ok-try_copy.terms c.in-Ok-ask.answer.1 free room c.in-Ok.ensures.moment (c.in-Ok-try_copy.ensures ∙ c.terms.ensures) c.ask.ensures.stored c.ask.ensures.numbers c.in-Ok-ask.ensures.decides put

pub returns-in-Ok-put_partials-clause-sinks : goal.returns-in-Ok-put_partials-clause-sinks
returns-in-Ok-put_partials-clause-sinks g c =
    let shards = c.args.self.now.shards.items in
    let books = c.args.self.now.books.items in
    let book = c.index_mut-book.result.now in
    let there = slice_get_read books c.len.result c.args.group book (omega (arith, c.len.ensures, c.args.self.now.books.ok.0)) c.if-group-len.false c.index_mut-book.ensures.value in
    offers_same shards books c.args.group book c.put_partials.new.self there (ap offers c.in-Ok-put_partials.ensures.ok)
