-- A book, by its parts.
use denote.Param.Send.{IsSend, param_send}
use Rattle.rl_world.specs.contracts.book.Book as Book
use Rattle.rl_world.specs.contracts.sending.book_is_sendable.{S-row}
use Rattle.rl_world.proofs.Crossing.{Book-send}
use Rattle.rl_world.proofs.sending.book_is_sendable.Goals as goal

pub is_sendable-requires-send-T : goal.is_sendable-requires-send-T
is_sendable-requires-send-T g c κs within =
    let book : IsSend (Book.the_row (S-row g.row.S) g.S.Sink) = Book-send (S-row g.row.S) g.S.Sink c.type_bounds.send-S in
    record { owned = (param_send 0 _ book).owned; leaving = (param_send 0 _ book).leaving }
