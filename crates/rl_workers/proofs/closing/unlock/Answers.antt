-- All are without their locks.
use Rattle.std.proofs.Common.{◌≡◌, length, map, sym, ap, subst, ◌∙◌, arith}
use Rattle.std.specs.List.{AllByRecursion}
use Rattle.rl_workers.proofs.closing.unlock.Goals as goal

pub loop-desk-init : goal.loop-desk-init
loop-desk-init g c =
    let rooms = c.in-Ok.ensures in
    let shards : length c.ruler.inside.desks.shards.items ≡ c.args.ruler.shards = ap (λ view. view.shards) c.ruler.view_is in
    let groups : length c.ruler.inside.seats.items ≡ c.args.ruler.groups = ap (λ view. view.groups) c.ruler.view_is in
    let locked : c.into_iter-desk-iterator.result.rest.items ≡ c.ruler.inside.desks.shards.items = c.into_iter-desk-iterator.ensures.into_iter_gives.0 in
    record {
      count = omega (arith, ap length rooms.empty.0, ap length locked, shards);
      shares = ap length rooms.empty.1 ∙ sym (ap length rooms.empty.0);
      parts = subst (AllByRecursion (λ share. share.parts ≡ 1)) (sym rooms.empty.1) tt;
      amounts = ap (map (λ share. share.amount)) rooms.empty.1 ∙ sym (ap (map (λ shard. length shard.journal)) rooms.empty.0);
      room = (omega (arith, rooms.shards.0, c.len.ensures, shards), omega (arith, rooms.shards.1, c.len.ensures, shards));
      desks = (rooms.empty.3, omega (arith, rooms.shards.2, c.len.ensures, shards));
      seats = (rooms.empty.4, omega (arith, rooms.books.1, c.len-2.ensures, groups, c.ruler.inside.seats.ok.0));
      books = (ap length rooms.empty.2, omega (arith, rooms.books.0, c.len-2.ensures, groups, c.ruler.inside.seats.ok.0));
    }

pub invariant_of-result : goal.invariant_of-result
invariant_of-result g c =
    let ruler = c.ruler.inside in
    let end = c.loop-seat.invariant in
    let shards : length c.loop-seat.rooms.shards.items ≡ length ruler.desks.shards.items = end.shards ∙ sym (ap (λ view. view.shards) c.ruler.view_is) in
    let books : length c.loop-seat.rooms.books.items ≡ c.args.ruler.groups = omega (arith, end.count, c.in-None-seat.ensures.steps.0, c.loop-seat.seat-iterator.rest.ok.0) in
    record {
      parts = end.parts;
      amounts = end.amounts;
      seated = end.seated;
      many = (omega (arith, shards, c.ruler.invariant.0), omega (arith, shards, c.ruler.invariant.1), shards ∙ c.ruler.invariant.2, c.ruler.invariant.3);
      desks_fit = (end.desks.0, omega (arith, end.shards, end.desks.1));
      seats_fit = (end.seats.0, omega (arith, books, end.seats.1));
    }
