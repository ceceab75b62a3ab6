-- The windows so far are those of the terms so far, each built of what the streams hold.
use Rattle.std.proofs.Common.{◌≡◌, ◌≤◌, ◌-◌, Bor, length, map, take}
use Rattle.std.specs.List.{AllByRecursion}
use Rattle.rl_query.specs.declared.query.Term.{Term}
use Rattle.rl_slots.specs.Slots.{key_of, term_key}
use Rattle.rl_streams.specs.StreamsState.{Looks}
use Rattle.rl_shard.specs.Live.{IsBuiltFrom}
use Rattle.rl_shard.proofs.windows.each_window.Given as goal

abbrev pub invariant-loop-first : goal.invariant-loop-first
invariant-loop-first g l = record {
  looks : Looks l.fn.streams l.streams;
  within : l.first ≤ length l.terms;
  keys : map key_of l.windows.items ≡ map (λ (term : Bor Term). term_key term.now) (take l.first l.terms);
  built : AllByRecursion (IsBuiltFrom l.fn.streams l.requests l.t) l.windows.items;
  counted : l.streams.seen.faults ≡ l.fn.streams.seen.faults;
}

abbrev pub decreases-loop-first : goal.decreases-loop-first
decreases-loop-first g l = length l.terms - l.first
