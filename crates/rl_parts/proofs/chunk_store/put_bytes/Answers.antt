-- The number has the bytes, and other numbers what they had.
use Rattle.std.proofs.Common.{sym, ap, subst, ◌∙◌}
use Rattle.std.specs.FinMap as map
use Rattle.rl_chunks.specs.StoreState.{Blobs, LeavesOthers}
use Rattle.rl_parts.proofs.Puts.{get_put, get_other, one_put}
use Rattle.rl_parts.proofs.chunk_store.put_bytes.Goals as goal

pub returns-in-Ok-clause-there : goal.returns-in-Ok-clause-there
returns-in-Ok-clause-there g c =
    let blobs = (g.S.Store.seen c.args.store.now).blobs in
    ap (λ now. map.get now c.args.number) c.in-Ok.ensures.ok ∙ get_put blobs c.args.number c.args.bytes.items

pub returns-in-Ok-clause-grown : goal.returns-in-Ok-clause-grown
returns-in-Ok-clause-grown g c =
    let old = g.S.Store.seen c.args.store.now in
    one_put old _ c.args.number c.in-Ok.ensures.keeps (subst (λ (now : Blobs). LeavesOthers c.args.number old.blobs now) (sym c.in-Ok.ensures.ok) (get_other old.blobs c.args.number c.args.bytes.items))
