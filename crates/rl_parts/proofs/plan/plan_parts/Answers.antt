-- Each turn plans the next part.
use Rattle.std.proofs.Common.{◌+◌, [], ◌∷◌, length, ap, ◌∙◌, arith}
use Rattle.std.proofs.lemmas.List.{length-append}
use Rattle.std.proofs.lemmas.Result.{err_from_is_err_and}
use Rattle.rl_parts.specs.laws.UseLaws.{Keeps-put, Keeps-puts, Puts-then}
use Rattle.rl_parts.proofs.Leaving.{planned_more}
use Rattle.rl_parts.proofs.plan.plan_parts.Goals as goal

pub loop-part-preserved : goal.loop-part-preserved
loop-part-preserved g c =
    let start = c.args.chunks.now in
    let loop = c.loop-part in
    let after = c.plan_part.new.chunks in
    let more = c.in_ok-plan_part.ensures.more in
    record {
      rewritten = planned_more (g.C.Covers.covers c.args.covered.now) c.args.labels.now start loop.chunks after c.args.parts.now loop.part-index c.part-item.result loop.changes c.plan_part.new.changes
          c.loop-part-test.true c.part-item.is loop.invariant.many (Keeps-puts start loop.chunks loop.chunks.next loop.invariant.puts) (Keeps-put c.plan_part.result loop.chunks after c.plan_part.ensures.puts) loop.invariant.rewritten more;
      puts = Puts-then start loop.chunks after after.next c.in_ok-plan_part.ensures.puts.up loop.invariant.puts c.in_ok-plan_part.ensures.puts;
      counted = c.in_ok-plan_part.ensures.counted ∙ loop.invariant.counted;
      many = omega (arith, loop.invariant.many, ap length more.appended, length-append loop.changes.of_parts.items (more.change ∷ []));
    }

pub returns-in_err-plan_part-clause-puts : goal.returns-in_err-plan_part-clause-puts
returns-in_err-plan_part-clause-puts g c =
    let p = err_from_is_err_and c.from_residual.result c.from_residual.ensures.1 in
    rw p.1 (Puts-then c.args.chunks.now c.loop-part.chunks c.plan_part.new.chunks (c.plan_part.new.chunks.next + 1) (omega (arith, c.in_err-plan_part.ensures.puts.up)) c.loop-part.invariant.puts c.in_err-plan_part.ensures.puts)
