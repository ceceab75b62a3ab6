-- The new books are books of the world.
use Rattle.std.proofs.Common.{◌≡◌, map, length, sym, ap, subst, ◌∙◌, arith}
use Rattle.std.proofs.lemmas.List.{length-map}
use Rattle.std.specs.List.{AllByRecursion}
use Rattle.rl_shard.specs.ShardState.{opened_over}
use Rattle.rl_world.specs.WorldState.{IsBookOf}
use Rattle.rl_world.proofs.Opening.{books_from-fit, opened_shown}
use Rattle.rl_world.proofs.world.World.open.Goals as goal

pub invariant_of-result : goal.invariant_of-result
invariant_of-result g c =
    let many : length c.in_ok-shards.shards.items ≡ c.len.result = ap length c.in_ok-shards.ensures ∙ length-map c.args.stores.items (λ store. opened_over c.args.limits (g.D.Store.seen store)) ∙ omega (arith, c.len.ensures, c.args.stores.ok.0) in
    let fit = books_from-fit (λ own. map g.S.Sink.state own.items) 0 c.args.limits.records c.len.result c.args.groups.items c.args.sinks.items c.requires.fresh in
    record { books_fit = subst (λ n. AllByRecursion (IsBookOf n) c.in_ok-books.books.items) (sym many) (subst (AllByRecursion (IsBookOf c.len.result)) (sym c.in_ok-books.ensures) fit) }

pub returns-clause-shown : goal.returns-clause-shown
returns-clause-shown g c = opened_shown c.in_ok-shards.shards.items c.in_ok-books.books.items 0 c.args.limits.records c.len.result c.args.groups.items (map (λ own. map g.S.Sink.state own.items) c.args.sinks.items) c.in_ok-books.ensures
