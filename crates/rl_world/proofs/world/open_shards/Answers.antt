-- One shard more, and at the end all.
use Rattle.std.proofs.Common.{◌≡◌, ◌++◌, [], ◌∷◌, map, arith, sym, ap, ◌∙◌}
use Rattle.std.proofs.lemmas.List.{append-nil, append_assoc, map-append, nil_from_length}
use Rattle.rl_shard.specs.ShardState.{opened_over}
use Rattle.rl_world.proofs.world.open_shards.Goals as goal

pub loop-store-preserved : goal.loop-store-preserved
loop-store-preserved g c =
    let loop = c.loop-store in
    let next : loop.store-iterator.rest.items ≡ c.in-Some.store ∷ c.next.new.self.rest.items = c.in-Some.ensures.steps.0 in
    record {
      split = append_assoc loop.yielded (c.in-Some.store ∷ []) c.next.new.self.rest.items ∙ ap (λ rest. loop.yielded ++ rest) (sym next) ∙ loop.invariant.split;
      shards = c.in_ok-push.ensures.items ∙ (λ i. loop.invariant.shards i ++ c.open.ensures i ∷ []) ∙ sym (map-append (λ store. opened_over c.args.limits (g.D.Store.seen store)) loop.yielded (c.in-Some.store ∷ []));
    }

pub returns : goal.returns
returns g c =
    let loop = c.loop-store in
    let none : loop.store-iterator.rest.items ≡ [] = nil_from_length loop.store-iterator.rest.items (omega (arith, c.in-None.ensures.steps.0, loop.store-iterator.rest.ok.0)) in
    let all : loop.yielded ≡ c.args.stores.items = sym (append-nil loop.yielded) ∙ ap (λ rest. loop.yielded ++ rest) (sym none) ∙ loop.invariant.split in
    loop.invariant.shards ∙ ap (map (λ store. opened_over c.args.limits (g.D.Store.seen store))) all
