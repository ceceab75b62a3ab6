-- The sinks of one book more.
use Rattle.std.proofs.Common.{◌≡◌, get_or, arith, sym, subst, ◌∙◌}
use Rattle.rl_world.specs.Closed.{HasAnswered, IsBookClosed}
use Rattle.rl_world.proofs.Counting.{books-answered, books-counted}
use Rattle.rl_world.proofs.Offers.{AllZip-more, drop-rest, get_or-rest}
use Rattle.rl_world.proofs.parts.close_books.Goals as goal

pub loop-number-preserved : goal.loop-number-preserved
loop-number-preserved g c =
    let at = c.loop-number.number in
    let olds = c.args.books.now in
    let nows = c.loop-number.books in
    let book = c.index-books-number.result in
    let new = c.close_sinks.new.self in
    let so_far = c.loop-number.invariant in
    let here : get_or nows at book ≡ book = sym c.index-books-number.is in
    let read : get_or olds at book ≡ book = sym (get_or-rest olds nows at book so_far.rest) ∙ here in
    let closes = subst (λ b. IsBookClosed b new) here c.close_sinks.ensures.closed in
    record {
      closed = AllZip-more IsBookClosed olds nows at book new (omega arith) (omega arith) read so_far.closed closes;
      rest = drop-rest olds nows at new so_far.rest;
      counted = books-counted nows at new c.loop-number.failed c.close_sinks.result c.saturating_add-failed.result (omega arith) c.close_sinks.ensures.counted c.saturating_add-failed.ensures so_far.counted;
      answers = books-answered (HasAnswered g.S.Sink.state g.S.Sink.close_answers) nows at new (omega arith) so_far.answers c.close_sinks.ensures.answers;
    }
