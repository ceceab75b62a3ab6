-- The line comes into one window more; refused, into those before it.
use Rattle.std.proofs.Common.{slice_set, sym, ap, subst, ◌∙◌, add-one, arith}
use Rattle.std.proofs.lemmas.List.{set-get_or}
use Rattle.std.proofs.lemmas.List.Edits.{map_over_more}
use Rattle.rl_pipeline.specs.Lines.{StreamLine}
use Rattle.rl_pipeline.specs.Metering.{with_run}
use Rattle.rl_windows.specs.Filling.{with_line, with_runs, HaveRoom}
use Rattle.rl_windows.proofs.Fillings.{partly_in}
use Rattle.rl_windows.proofs.filling.add_to_each.Goals as goal

pub returns-in_err-add-clause-room : goal.returns-in_err-add-clause-room
returns-in_err-add-clause-room c = λ left room.
    let loop = c.loop-index in
    let same = ap (slice_set loop.each loop.index) c.in_err-add.ensures.err ∙ set-get_or loop.each loop.index c.index-each-index.result in
    subst (HaveRoom left) (sym (same ∙ loop.invariant.came)) (partly_in (record { labels = c.args.labels.now; text = c.args.text.now }) c.args.timestamp c.args.each.now loop.index left room)

pub loop-index-preserved : goal.loop-index-preserved
loop-index-preserved c =
    let loop = c.loop-index in
    let line : StreamLine = record { labels = c.args.labels.now; text = c.args.text.now } in record {
      came =
          ap (slice_set loop.each loop.index) (c.in_ok-add.ensures.ok ∙ (λ i. with_line (loop.invariant.line i) c.args.timestamp (sym c.index-each-index.is i)))
          ∙ map_over_more (with_line line c.args.timestamp) c.args.each.now loop.each loop.index c.index-each-index.result (omega arith) loop.invariant.came c.index-each-index.is;
      line = c.in_ok-add.ensures.line ∙ loop.invariant.line;
      counted = c.in_ok-add.ensures.counted ∙ ap with_run loop.invariant.counted ∙ sym (ap (λ n. with_runs n c.args.meter.now) (add-one loop.index));
    }

pub returns-clause-room : goal.returns-clause-room
returns-clause-room c = λ left room.
    subst (HaveRoom left) (sym c.loop-index.invariant.came) (partly_in (record { labels = c.args.labels.now; text = c.args.text.now }) c.args.timestamp c.args.each.now c.loop-index.index left room)
