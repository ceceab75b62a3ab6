-- The tree has nothing at the number.
use Rattle.rl_chunks.proofs.Blobs.{one_removed}
use Rattle.rl_chunks.proofs.mem_store.MemStoreStore.remove.Goals as goal

pub returns-clause-ok : goal.returns-clause-ok
returns-clause-ok c = one_removed c.args.self.now.blobs.entries c.remove.new.self.entries c.args.number c.remove.ensures.updates.0
