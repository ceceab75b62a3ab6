-- The sinks of one book more.
use Rattle.std.proofs.Common.{◌≡◌, length, take, get_or, sym, ap, ◌∙◌, arith}
use Rattle.std.proofs.lemmas.List.Sums.{sum_by-drop_more}
use Rattle.rl_world.proofs.Offers.{drop-rest, get_or-rest}
use Rattle.rl_world.specs.WorldState.{BookState}
use Rattle.rl_workers.specs.Closing.{unclosed_in, unclosed_of, without_sinks}
use Rattle.rl_workers.proofs.Ending.{books_closed, books_unclosed, few_more, same_part, then_more}
use Rattle.rl_workers.proofs.closing.close_all.Goals as goal

pub loop-group-preserved : goal.loop-group-preserved
loop-group-preserved g c =
    let at = c.loop-group.group in
    let olds = c.args.books.now in
    let nows = c.loop-group.books in
    let book = c.index-books-group.result in
    let new = c.close_sinks.new.book in
    let so_far = c.loop-group.invariant in
    let here : get_or nows at book ≡ book = sym c.index-books-group.is in
    let read : get_or olds at book ≡ book = sym (get_or-rest olds nows at book so_far.rest) ∙ here in
    record {
      same = same_part without_sinks nows at book new here (ap without_sinks c.close_sinks.ensures.rest ∙ ap without_sinks here) ∙ so_far.same;
      closed = books_closed nows at new (omega arith) so_far.closed c.close_sinks.ensures.closed;
      rest = drop-rest olds nows at new so_far.rest;
      unclosed = then_more c.args.unclosed.now.items c.loop-group.unclosed.items (unclosed_in 0 (take at nows)) (unclosed_of at 0 new.sinks) c.close_sinks.new.unclosed.items _ so_far.unclosed c.close_sinks.ensures.unclosed (books_unclosed nows at new (omega arith));
      room = omega (arith, so_far.room, few_more at new c.loop-group.unclosed.items c.close_sinks.new.unclosed.items c.close_sinks.ensures.unclosed, c.close_sinks.ensures.count, ap (λ (b : BookState). length b.sinks) here, ap (λ (b : BookState). length b.sinks) read, c.close_sinks.ensures.capacity, sum_by-drop_more (λ (b : BookState). length b.sinks) olds at book (omega arith));
    }
