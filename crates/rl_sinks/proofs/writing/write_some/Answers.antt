use Rattle.std.proofs.Common.{sym, subst}
use Rattle.rl_sinks.proofs.Written.{Writes-step, following}
use Rattle.rl_sinks.specs.Pieces.{Writes}
use Rattle.rl_sinks.proofs.writing.write_some.Goals as goal

-- what the write took stands before the rest too
pub loop-writer-preserved : goal.loop-writer-preserved
loop-writer-preserved g c =
    let contents = g.W.Write.contents in
    let rest = c.loop-writer.rest.now in
    subst (λ left. Writes (contents c.args.writer.now) (contents c.write.new.self) c.args.bytes.now left) (sym (following c.in-Ok.count rest)) (Writes-step _ (contents c.loop-writer.writer) _ _ rest c.in-Ok.count c.loop-writer.invariant c.in-Ok.ensures.bytes)
