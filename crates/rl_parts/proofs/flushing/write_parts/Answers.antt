-- Each turn writes the next part, or ends there.
use Rattle.std.proofs.Common.{◌+◌, ◌<◌, length, get_or, ◌∙◌, arith}
use Rattle.std.proofs.lemmas.List.{get_or_default}
use Rattle.std.proofs.lemmas.Result.{err_from_is_err_and}
use Rattle.rl_parts.specs.laws.NoteLaws.{many-noted}
use Rattle.rl_parts.specs.laws.UseLaws.{Keeps-put, Puts-then}
use Rattle.rl_parts.proofs.Writes.{turn, over_all, all_written}
use Rattle.rl_parts.proofs.flushing.write_parts.Goals as goal

pub returns-in_err-write-clause-noted : goal.returns-in_err-write-clause-noted
returns-in_err-write-clause-noted g c =
    let loop = c.loop-index in
    let within : loop.index < length c.args.parts.now = omega (arith, loop.invariant.goes.many) in
    let low : loop.index < length loop.parts = omega (arith, loop.invariant.goes.many) in
    let part = c.index-parts-index.result in
    over_all c.args.labels.now c.args.parts.now c.args.chunks.now _ _ _
    (turn c.args.labels.now c.args.parts.now c.args.chunks.now loop.index loop.parts loop.chunks loop.invariant.goes (get_or loop.parts loop.index part) c.write.new.self c.write.new.chunks loop.invariant.all within
    (get_or_default loop.parts loop.index part (get_or loop.parts loop.index part) low) c.write.ensures.noted c.write.ensures.kept (Keeps-put c.write.result loop.chunks c.write.new.chunks c.write.ensures.puts))

pub returns-in_err-write-clause-kept : goal.returns-in_err-write-clause-kept
returns-in_err-write-clause-kept g c =
    let loop = c.loop-index in
    let within : loop.index < length c.args.parts.now = omega (arith, loop.invariant.goes.many) in
    let low : loop.index < length loop.parts = omega (arith, loop.invariant.goes.many) in
    let part = c.index-parts-index.result in
    (turn c.args.labels.now c.args.parts.now c.args.chunks.now loop.index loop.parts loop.chunks loop.invariant.goes (get_or loop.parts loop.index part) c.write.new.self c.write.new.chunks loop.invariant.all within
    (get_or_default loop.parts loop.index part (get_or loop.parts loop.index part) low) c.write.ensures.noted c.write.ensures.kept (Keeps-put c.write.result loop.chunks c.write.new.chunks c.write.ensures.puts)).kept

pub returns-in_err-write-clause-puts : goal.returns-in_err-write-clause-puts
returns-in_err-write-clause-puts g c =
    let p = err_from_is_err_and c.from_residual.result c.from_residual.ensures.1 in
    rw p.1 (Puts-then c.args.chunks.now c.loop-index.chunks c.write.new.chunks (c.write.new.chunks.next + 1) (omega (arith, c.write.ensures.noted.many)) c.loop-index.invariant.puts c.in_err-write.ensures.puts)

pub loop-index-preserved : goal.loop-index-preserved
loop-index-preserved g c =
    let loop = c.loop-index in
    let within : loop.index < length c.args.parts.now = omega (arith, loop.invariant.goes.many) in
    let low : loop.index < length loop.parts = omega (arith, loop.invariant.goes.many) in
    let part = c.index-parts-index.result in
    record {
      goes = turn c.args.labels.now c.args.parts.now c.args.chunks.now loop.index loop.parts loop.chunks loop.invariant.goes (get_or loop.parts loop.index part) c.write.new.self c.write.new.chunks loop.invariant.all within
          (get_or_default loop.parts loop.index part (get_or loop.parts loop.index part) low) c.write.ensures.noted c.write.ensures.kept (Keeps-put c.write.result loop.chunks c.write.new.chunks c.write.ensures.puts);
      puts = Puts-then c.args.chunks.now loop.chunks c.write.new.chunks c.write.new.chunks.next c.in_ok-write.ensures.puts.up loop.invariant.puts c.in_ok-write.ensures.puts;
      counted = c.in_ok-write.ensures.counted ∙ loop.invariant.counted;
      all = all_written loop.parts loop.index c.write.new.self low loop.invariant.all c.in_ok-write.ensures.written;
    }

pub returns-in_err-write-clause-counted_parts : goal.returns-in_err-write-clause-counted_parts
returns-in_err-write-clause-counted_parts g c = many-noted c.args.parts.now _ c.args.chunks.now.next c.write.new.chunks.next (returns-in_err-write-clause-noted g c)

pub returns-clause-counted_parts : goal.returns-clause-counted_parts
returns-clause-counted_parts g c = many-noted c.args.parts.now c.loop-index.parts c.args.chunks.now.next c.loop-index.chunks.next
    (over_all c.args.labels.now c.args.parts.now c.args.chunks.now c.loop-index.index c.loop-index.parts c.loop-index.chunks c.loop-index.invariant.goes)
