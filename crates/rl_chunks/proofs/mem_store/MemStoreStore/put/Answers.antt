-- The tree has the bytes at the number.
use Rattle.std.proofs.Common.{ap, ◌∙◌}
use Rattle.std.specs.FinMap.{insert}
use Rattle.rl_chunks.specs.MemState.{blobs_of}
use Rattle.rl_chunks.proofs.Blobs.{one_put}
use Rattle.rl_chunks.proofs.mem_store.MemStoreStore.put.Goals as goal

pub returns-clause-ok : goal.returns-clause-ok
returns-clause-ok c =
    one_put c.args.self.now.blobs.entries c.insert.new.self.entries c.args.number c.from_vec.result c.in_ok-insert.ensures.updates.0
    ∙ ap (insert (blobs_of c.args.self.now) c.args.number) c.from_vec.ensures
