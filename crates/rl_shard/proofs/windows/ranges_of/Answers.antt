-- One term more has its range.
use Rattle.std.proofs.Common.{◌+◌, ◌<◌, Bor, length, map, take, sym, subst, arith}
use Rattle.std.specs.List.{AllZip}
use Rattle.rl_query.specs.declared.query.Term.{Term}
use Rattle.rl_slots.specs.Slots.{term_key}
use Rattle.rl_shard.specs.Live.{IsRangeAt}
use Rattle.rl_shard.proofs.Picked.{picked_more, ranges_grown}
use Rattle.rl_shard.proofs.Ranges.{ranges_more}
use Rattle.rl_shard.proofs.windows.ranges_of.Goals as goal

pub loop-term-preserved : goal.loop-term-preserved
loop-term-preserved c =
    let key = λ (one : Bor Term). term_key one.now in
    let terms = c.args.terms.now in
    let i = c.loop-term.term-index in
    let old = c.loop-term.first.items in
    let within : i < length terms = omega (arith, c.loop-term-test.true, c.loop-term.auto.term-index-end) in
    let more = c.in_ok-index.ensures.more in
    let new = c.index_in.new.terms.items in
    let grown = ranges_grown old new _ more in
    record {
      found = subst (AllZip (IsRangeAt (map key new)) (take (i + 1) terms)) (sym c.in_ok-push.ensures.items)
          (ranges_more (map key old) (map key new) grown.0 terms i c.term-item.result c.loop-term.indices.items c.in_ok-index.index within c.term-item.is grown.1 c.loop-term.invariant.found c.in_ok-index.ensures.found);
      picked = picked_more old new _ terms i within c.term-item.is more c.loop-term.invariant.picked;
    }
