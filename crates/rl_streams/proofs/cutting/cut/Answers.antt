-- Each turn seals one head, or is refused and leaves it.
use Rattle.std.proofs.Common.{◌≡◌, [], ◌∙◌, arith}
use Rattle.rl_parts.specs.StreamParts.{StreamView}
use Rattle.rl_streams.specs.StreamRows.{Row}
use Rattle.rl_streams.proofs.RowChanges.{length_set, set_up_to, none_left, with_key}
use Rattle.rl_streams.proofs.Sealed.{one_sealed, none_sealed}
use Rattle.rl_streams.proofs.cutting.cut.Goals as goal

pub returns-in_err-seal-clause-cut : goal.returns-in_err-seal-clause-cut
returns-in_err-seal-clause-cut c =
    one_sealed c.args.streams.now.entries c.loop-position.streams.entries c.loop-position.position c.index_mut.result.now c.seal.new.self c.loop-position.invariant.cut c.index_mut.ensures.value c.seal.ensures.labels c.seal.ensures.newest c.seal.ensures.entries (none_sealed c.index_mut.result.now c.seal.new.self c.in_err-seal.ensures.err)

pub loop-position-preserved : goal.loop-position-preserved
loop-position-preserved c =
    let rows = c.loop-position.streams.entries in
    let row = with_key rows c.loop-position.position c.index_mut.result.now c.index_mut.ensures.value in
    record {
      cut = one_sealed c.args.streams.now.entries rows c.loop-position.position c.index_mut.result.now c.seal.new.self c.loop-position.invariant.cut c.index_mut.ensures.value c.seal.ensures.labels c.seal.ensures.newest c.seal.ensures.entries c.in_ok-seal.ensures.parts;
      many = length_set rows c.loop-position.position c.seal.new.self ∙ c.loop-position.invariant.many;
      all = set_up_to (λ (r : Row). r.1.head ≡ []) rows c.loop-position.position row.0 c.index_mut.result.now c.seal.new.self row.1 c.loop-position.invariant.all c.in_ok-seal.ensures.head;
    }

pub returns-clause-all : goal.returns-clause-all
returns-clause-all c = none_left (λ (s : StreamView). s.head) c.loop-position.streams.entries (λ k d low high. c.loop-position.invariant.all k d low (omega (arith, high, c.loop-position.invariant.many, c.len-position-end.ensures.len, c.loop-position-test.false)))
