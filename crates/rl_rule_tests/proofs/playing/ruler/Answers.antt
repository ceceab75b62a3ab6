-- A ruler of one store, of the groups, and of no sinks.
use Rattle.std.proofs.Common.{refl, ap, map, length, [], ◌∙◌}
use Rattle.rl_chunks.specs.MemState.{mem_seen}
use Rattle.rl_shard.specs.ShardState.{opened_over}
use Rattle.rl_rule_tests.proofs.Handed.{fresh_books}
use Rattle.rl_rule_tests.proofs.playing.ruler.Goals as goal

pub returns : goal.returns
returns c =
    let store = c.in_ok-stores.ensures in
    record {
      limits = c.in-Ok.limits;
      limits_are = c.in-Ok.ensures.same;
      seen = mem_seen store.0;
      honest = refl;
      shards = c.in_ok-ruler.ensures.shards ∙ ap (map (λ one. opened_over c.in-Ok.limits (mem_seen one))) store.1;
      books = fresh_books c.in-Ok.limits.records _ c.in_ok-groups.groups.items c.args.groups.now _ _ c.in_ok-ruler.ensures.books (ap length store.1) c.in_ok-groups.ensures (c.in_ok-sinks.ensures.none ∙ ap (map (λ _. [])) c.deref.ensures.value);
    }
