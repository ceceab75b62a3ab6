-- All have their locks.
use Rattle.std.proofs.Common.{◌≡◌, map, length, ap, sym, subst, ◌∙◌, arith}
use Rattle.std.specs.Iterator.Adapters.{zip_first, zip_second}
use Rattle.std.specs.List.{AllByRecursion}
use Rattle.std.specs.Vec.Iter.{into_iter_items}
use Rattle.rl_workers.proofs.Ending.{none_left}
use Rattle.rl_workers.proofs.closing.lock.Goals as goal

pub loop-shard-init : goal.loop-shard-init
loop-shard-init g c =
    let unlocked = c.args.unlocked in
    let both = c.into_iter-shard-iterator.result in
    let same : both ≡ c.zip-shard-items.result = c.into_iter-shard-iterator.ensures.into_iter_gives in
    let shards : into_iter_items (zip_first both) ≡ unlocked.rooms.shards.items = ap (λ z. into_iter_items (zip_first z)) same ∙ ap into_iter_items c.zip-shard-items.ensures.first ∙ c.into_iter.ensures.rest in
    let shares : into_iter_items (zip_second both) ≡ unlocked.rooms.shares.items = ap (λ z. into_iter_items (zip_second z)) same ∙ c.zip-shard-items.ensures.second.0 in
    record {
      count = omega (arith, unlocked.desks_fit.0, unlocked.rooms.desks.ok.0, ap length shards);
      parts = subst (AllByRecursion (λ share. share.parts ≡ 1)) (sym shares) unlocked.parts;
      amounts = ap (map (λ share. share.amount)) shares ∙ unlocked.amounts ∙ sym (ap (map (λ shard. length shard.journal)) shards);
      room = unlocked.desks_fit.1;
    }

pub invariant_of-result : goal.invariant_of-result
invariant_of-result g c =
    let unlocked = c.args.unlocked in
    let loop = c.loop-shard in
    let none = none_left (λ shard. length shard.journal) (λ share. share.amount) (zip_first loop.shard-iterator) (zip_second loop.shard-iterator) c.in-None.ensures.steps loop.invariant.amounts in
    let full : length loop.desks.items ≡ length unlocked.rooms.shards.items = omega (arith, loop.invariant.count, none) in
    (omega (arith, full, unlocked.many.0), omega (arith, full, unlocked.many.1), full ∙ unlocked.many.2, unlocked.many.3)

pub returns : goal.returns
returns g c =
    let unlocked = c.args.unlocked in
    let loop = c.loop-shard in
    let none = none_left (λ shard. length shard.journal) (λ share. share.amount) (zip_first loop.shard-iterator) (zip_second loop.shard-iterator) c.in-None.ensures.steps loop.invariant.amounts in
    let desks : length loop.desks.items ≡ length unlocked.rooms.shards.items = omega (arith, loop.invariant.count, none) in
    let seats : length c.loop-book.seats.items ≡ length unlocked.rooms.books.items = omega (arith, c.loop-book.invariant.count, c.in-None-book.ensures.steps.0, c.loop-book.book-iterator.rest.ok.0) in
    (λ i. record { shards = desks i; groups = seats i; callers = unlocked.callers })
