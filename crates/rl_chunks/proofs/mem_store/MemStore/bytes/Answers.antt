-- The tree's look-up is that of the map.
use Rattle.std.proofs.Common.{Some, ap, ◌∙◌}
use Rattle.rl_chunks.proofs.Blobs.{found_at}
use Rattle.rl_chunks.proofs.mem_store.MemStore.bytes.Goals as goal

pub returns-in-None : goal.returns-in-None
returns-in-None c = c.in-None.ensures.value ∙ found_at c.args.self.now.blobs.entries c.args.number

pub returns-in-Some : goal.returns-in-Some
returns-in-Some c = ap (λ bytes. Some bytes) c.as_slice.ensures ∙ c.in-Some.ensures.value ∙ found_at c.args.self.now.blobs.entries c.args.number
