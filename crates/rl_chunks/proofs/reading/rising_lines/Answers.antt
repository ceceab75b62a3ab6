-- Each turn reads the next line.
use Rattle.std.proofs.Common.{sym, ap, subst, ◌∙◌}
use Rattle.rl_plain.specs.Answers.{Fails}
use Rattle.rl_chunks.specs.ChunkReading.{next_line_at}
use Rattle.rl_chunks.proofs.Turns.{last_of, goes_on, ends, is_done}
use Rattle.rl_chunks.proofs.reading.rising_lines.Goals as goal

pub returns-in-Err : goal.returns-in-Err
returns-in-Err c =
    let here = subst (λ lines. Fails c.in-Err.error (next_line_at c.args.format (last_of lines) c.loop.rest.now)) c.deref.ensures.value c.in-Err.ensures in
    ends (next_line_at c.args.format) c.in-Err.error c.loop.lines.items c.args.count c.loop.counter c.loop.rest.now _ c.loop-test.true here c.loop.invariant

pub loop-preserved : goal.loop-preserved
loop-preserved c =
    let here = ap (λ lines. next_line_at c.args.format (last_of lines) c.loop.rest.now) (sym c.deref.ensures.value) ∙ c.in-Ok.ensures in
    rw c.in_ok-push.ensures.items (goes_on (next_line_at c.args.format) c.loop.lines.items c.args.count c.loop.counter c.loop.rest.now c.in-Ok.line.0 c.in-Ok.line.1.now _ c.loop-test.true here c.loop.invariant)

pub returns : goal.returns
returns c = is_done (next_line_at c.args.format) c.loop.lines.items c.args.count c.loop.counter c.loop.rest.now _ c.loop-test.false c.loop.invariant
