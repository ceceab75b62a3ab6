-- A fault of the store is passed on.
use Rattle.std.proofs.Common.{◌≡◌, Some, sym, subst, true}
use Rattle.std.specs.FinMap as map
use Rattle.std.proofs.lemmas.Result.{err_from_is_err_and}
use Rattle.rl_parts.specs.ChunksState.{ChunksView}
use Rattle.rl_parts.specs.laws.AnswerLaws.{right_on}
use Rattle.rl_parts.proofs.chunk_store.ChunkStore.fetch.Goals as goal

pub returns-in_err-bytes-clause-right : goal.returns-in_err-bytes-clause-right
returns-in_err-bytes-clause-right g c = λ text chunk honest there digest read.
    let p = err_from_is_err_and c.from_residual.result c.from_residual.ensures.1 in
    let is_honest = subst (λ (chunks : ChunksView). chunks.seen.honest ≡ true) (sym c.self.view_is) honest in
    let is_there = subst (λ (chunks : ChunksView). map.get chunks.seen.blobs c.args.number ≡ Some text) (sym c.self.view_is) there in
    rw (p.1, p.2) (right_on c.in_err-bytes.field-0.0 _ _ (c.in_err-bytes.ensures.right text is_honest is_there))
