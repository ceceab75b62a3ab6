-- The books are books of the world as before.
use Rattle.std.proofs.Common.{length, arith, sym, subst}
use Rattle.std.specs.List.{AllByRecursion, AllZip}
use Rattle.std.proofs.lemmas.List.{with_items_is}
use Rattle.rl_world.specs.Closed.{IsBookClosed}
use Rattle.rl_world.specs.WorldState.{IsBookOf}
use Rattle.rl_world.proofs.Closing.{books_of-closed}
use Rattle.rl_world.proofs.parts.WorldParts.close_sinks.Goals as goal

pub invariant_of-self : goal.invariant_of-self
invariant_of-self g c =
    let books = c.args.self.now.books in
    let n = length c.args.self.now.shards.items in
    let put_back = with_items_is books c.close_books.new.books (omega (arith, c.close_books.auto.books, c.deref_mut.ensures.len)) in
    let closes = subst (λ olds. AllZip IsBookClosed olds c.close_books.new.books) c.deref_mut.ensures.value c.close_books.ensures.closed in
    record { books_fit = subst (AllByRecursion (IsBookOf n)) (sym put_back) (books_of-closed n books.items c.close_books.new.books closes c.args.self.now.books_fit) }
