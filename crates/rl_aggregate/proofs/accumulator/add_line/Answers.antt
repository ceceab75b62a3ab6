-- A line with the labels of those that wait has room beside them, and all of them are counted as one after the other.
use Rattle.std.proofs.Common.{sym, ap, subst, ◌∙◌, arith}
use Rattle.std.specs.Prelude.{IfSome}
use Rattle.rl_aggregate.specs.Accumulators.{with_waiting, HasRoom}
use Rattle.rl_aggregate.specs.InRange.{line_run}
use Rattle.rl_aggregate.specs.Runs.{with_run, IsProper}
use Rattle.rl_aggregate.proofs.Accumulating.{labels_had, waiting-few, waiting-more}
use Rattle.rl_aggregate.proofs.accumulator.add_line.Goals as goal

pub overflow_add-run : goal.overflow_add-run
overflow_add-run c =
    let had = labels_had c.in-Some.run' c.args.labels.now (sym c.has.ensures ∙ c.if-has.true) in
    let room = subst (λ waiting. HasRoom 1 (with_waiting waiting c.args.found.now)) c.in-Some.is c.requires.room in
    omega (arith, (waiting-few c.in-Some.run' c.args.labels.now c.args.found.now had room).0)

pub overflow_add-run-then-has : goal.overflow_add-run-then-has
overflow_add-run-then-has c =
    let had = labels_had c.in-Some.run' c.args.labels.now (sym c.has.ensures ∙ c.if-has.true) in
    let room = subst (λ waiting. HasRoom 1 (with_waiting waiting c.args.found.now)) c.in-Some.is c.requires.room in
    omega (arith, (waiting-few c.in-Some.run' c.args.labels.now c.args.found.now had room).1, c.requires.fits)

pub returns-then-has-clause-ok : goal.returns-then-has-clause-ok
returns-then-has-clause-ok c =
    let had = labels_had c.in-Some.run' c.args.labels.now (sym c.has.ensures ∙ c.if-has.true) in
    waiting-more c.in-Some.run' c.args.labels.now c.args.found.now had c.args.bytes (subst (λ waiting. IfSome waiting IsProper) c.in-Some.is c.requires.proper)
    ∙ ap (λ waiting. with_run (line_run c.args.labels.now c.args.bytes) (with_waiting waiting c.args.found.now)) (sym c.in-Some.is)
