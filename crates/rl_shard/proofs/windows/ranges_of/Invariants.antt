-- The range of each term so far stands at its index, and those are ranges of the terms in their order.
use Rattle.std.proofs.Common.{Bor, map, take}
use Rattle.std.specs.List.{AllZip}
use Rattle.rl_query.specs.declared.query.Term.{Term}
use Rattle.rl_slots.specs.Slots.{term_key, ArePicked}
use Rattle.rl_shard.specs.Live.{IsRangeAt}
use Rattle.rl_shard.proofs.windows.ranges_of.Given as goal

abbrev pub invariant-loop-term : goal.invariant-loop-term
invariant-loop-term l = record {
  found : AllZip (IsRangeAt (map (λ (term : Bor Term). term_key term.now) l.first.items)) (take l.term-index l.terms) l.indices.items;
  picked : ArePicked (map (λ (term : Bor Term). term_key term.now) l.first.items) (map term_key (take l.term-index l.terms));
}
