-- The shards are put back as they were.
use Rattle.std.proofs.Common.{◌≡◌, ◌++◌, length, take, drop, sym, subst, ◌∙◌, arith}
use Rattle.std.proofs.lemmas.List.{with_items_is}
use Rattle.std.specs.List.{AllByRecursion}
use Rattle.rl_audit.specs.Founded.{AreFromScratch}
use Rattle.rl_shard.specs.ShardFault.{IsHonest}
use Rattle.rl_workers.proofs.closing.audited.Goals as goal

pub returns-clause-from_scratch : goal.returns-clause-from_scratch
returns-clause-from_scratch g c =
    let shards = c.args.rooms.now.shards in
    let new = c.audit.new.shards in
    let put_back : take shards.len (new ++ drop (length new) shards.items) ≡ new = with_items_is shards new (omega (arith, c.audit.auto.shards, c.deref_mut.ensures.len)) in
    subst (λ shards. AllByRecursion IsHonest shards → AllByRecursion (AreFromScratch shards) c.args.rooms.now.books.items) (sym c.audit.ensures.same ∙ sym put_back)
    (subst (λ books. AllByRecursion IsHonest c.deref_mut.result.now → AllByRecursion (AreFromScratch c.deref_mut.result.now) books) c.deref.ensures.value c.in_ok-audit.ensures.from_scratch)
