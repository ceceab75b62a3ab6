-- A write that took some bytes, or was interrupted.
use Rattle.std.proofs.Common.{Bor, List, ℕ, ap}
use Rattle.rl_session.proofs.Printers.{wrote_more, wrote_none}
use Rattle.rl_session.proofs.printer.write_out.Goals as goal
use Rattle.rl_session.proofs.printer.write_out.Goals.{in-Ok, in-Err}

pub loop-preserved : goal.loop-preserved
loop-preserved g c =
    let start = g.W.Write.contents c.args.writer.now in
    let old = g.W.Write.contents c.loop.writer in
    let new = g.W.Write.contents c.write.new.self in
    let rest = c.loop.rest.now in
    elim c.match-write.branch [
      | in-Ok w ↦ wrote_more start old new c.args.bytes.now rest c.match-write.rest.now w.in-Ok.count c.loop.invariant w.in-Ok.ensures.bytes (ap (λ (r : Bor (List ℕ)). r.now) w.rest-is)
      | in-Err w ↦ wrote_none start old new c.args.bytes.now rest c.match-write.rest.now c.loop.invariant w.in-Err.ensures.bytes (ap (λ (r : Bor (List ℕ)). r.now) w.rest-is)
    ]
