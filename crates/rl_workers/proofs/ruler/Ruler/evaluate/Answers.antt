-- The book under the lock was evaluated, or was not.
use Rattle.std.proofs.Common.{[], ◌∷◌, ◌++◌, ◌∙◌, sym, ap}
use Rattle.std.proofs.lemmas.Result.{err_from_is_err_and}
use Rattle.rl_workers.specs.Rulers.{RulerView}
use Rattle.rl_workers.proofs.Noted.{evaluated_from, refused_from}
use Rattle.rl_workers.proofs.ruler.Ruler.evaluate.Goals as goal

pub returns-in_err-committed-clause-refused : goal.returns-in_err-committed-clause-refused
returns-in_err-committed-clause-refused g c =
    let seat = c.deref_mut.result.now in
    let of_shards = seat.shards ∙ sym c.self.invariant.2 ∙ ap (λ (view : RulerView). view.shards) c.self.view_is in
    let error = err_from_is_err_and c.from_residual.result c.from_residual.ensures.1 in
    rw (error.1, error.2) (refused_from _ c.args.self.now.shards c.args.t c.args.pass.now c.reserve.new.self _ seat.book c.evaluate.new.book of_shards c.in-Ok.ensures.kept c.in_err-committed.ensures.refused)

pub returns-clause-evaluated : goal.returns-clause-evaluated
returns-clause-evaluated g c =
    let seat = c.deref_mut.result.now in
    let of_shards = seat.shards ∙ sym c.self.invariant.2 ∙ ap (λ (view : RulerView). view.shards) c.self.view_is in
    evaluated_from c.args.self.now.shards c.args.group c.args.t c.args.pass.now c.reserve.new.self c.evaluate.new.pass c.note.new.self seat.book c.evaluate.new.book c.in_ok-committed.committed of_shards c.in-Ok.ensures.kept c.in_ok-committed.ensures.evaluated c.note.ensures.receipts
    (c.note.ensures.notes ∙ ap (λ note. c.evaluate.new.pass.notes ++ note ∷ []) c.note_of.ensures)
