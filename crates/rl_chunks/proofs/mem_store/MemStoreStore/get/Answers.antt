-- The tree's look-up is that of the map.
use Rattle.std.proofs.Common.{Some, ap, ◌∙◌}
use Rattle.rl_chunks.proofs.Blobs.{found_at}
use Rattle.rl_chunks.proofs.mem_store.MemStoreStore.get.Goals as goal

pub returns-in-None-clause-found : goal.returns-in-None-clause-found
returns-in-None-clause-found c = λ _. c.in-None.ensures.value ∙ found_at c.args.self.now.blobs.entries c.args.number

pub returns-in_ok-from_slice-in-Some-clause-found : goal.returns-in_ok-from_slice-in-Some-clause-found
returns-in_ok-from_slice-in-Some-clause-found c = λ _.
    ap (λ bytes. Some bytes) (c.in_ok-from_slice-in-Some.ensures.items ∙ c.as_slice.ensures) ∙ c.in-Some.ensures.value ∙ found_at c.args.self.now.blobs.entries c.args.number
