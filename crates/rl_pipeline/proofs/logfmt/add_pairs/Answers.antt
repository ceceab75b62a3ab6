-- One pair more, or none.
use Rattle.std.proofs.Common.{rules, option_map, length, sym, ◌∙◌}
use Rattle.rl_pipeline.specs.Extracting.{with_pairs}
use Rattle.rl_pipeline.specs.LogfmtPairs.{logfmt_pairs}
use Rattle.rl_pipeline.proofs.LogfmtTurns.{turned}
use Rattle.rl_pipeline.proofs.logfmt.add_pairs.Goals as goal

pub loop-turn-preserved : goal.loop-turn-preserved
loop-turn-preserved c = (
  search rules,
  turned c.args.stream.now c.loop-turn.labels c.add_found.new.labels (with_pairs c.args.stream.now c.args.labels.now (logfmt_pairs c.args.line.now)) (length c.args.line.now) c.loop-turn._turn c.loop-turn.rest.now c.after_blanks-start.result.now c.in_ok-pair.following.now
      (option_map (λ p. (p.0.now, p.1)) c.in_ok-pair.pair) c.loop-turn-test.true c.after_blanks-start.ensures (sym c.is_empty.ensures ∙ c.if-is_empty.false) c.in_ok-pair.ensures c.in_ok-add_found.ensures c.loop-turn.invariant.1,
)
