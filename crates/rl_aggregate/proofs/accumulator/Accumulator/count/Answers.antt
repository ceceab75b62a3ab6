-- A line that stays is counted as one more, with the labels that it has after the stages.
use Rattle.std.proofs.Common.{◌≡◌, cond, None, Some, length, refl, sym, ap, subst, ◌∙◌}
use Rattle.std.proofs.lemmas.Result.{on_ok_weaker}
use Rattle.rl_pipeline.specs.Lines.{StreamLine}
use Rattle.rl_pipeline.specs.Running.{run}
use Rattle.rl_aggregate.specs.Accumulators.{AccumulatorView, with_line, with_waiting, HasRoom}
use Rattle.rl_aggregate.specs.Partials.{Fits}
use Rattle.rl_aggregate.specs.Runs.{with_run}
use Rattle.rl_aggregate.proofs.Accumulating.{line-fits, line_stays, line_leaves}
use Rattle.rl_aggregate.proofs.accumulator.Accumulator.count.Goals as goal

pub returns-then-keeps-clause-ok : goal.returns-then-keeps-clause-ok
returns-then-keeps-clause-ok c =
    let labels = c.args.labels.now in
    let text = c.args.text.now in
    let stages = c.self.inside.running in
    let ran : Some labels ≡ run stages text labels = sym (c.self.invariant.0 c.if-self.true text labels ∙ ap (λ b. cond b (Some labels) None) (sym c.if-keeps.ensures.answer)) in
    on_ok_weaker c.add_line.result (λ ok.
    (λ i. record { running = c.keeps.ensures.same i; found = (ok ∙ line_stays stages labels text labels (length text) (with_waiting c.self.inside.waiting c.self.inside.found) ran refl) i })
    ∙ ap (with_line labels text) c.self.view_is) c.add_line.ensures.ok

pub returns-then-self-clause-ok : goal.returns-then-self-clause-ok
returns-then-self-clause-ok c =
    let labels = c.args.labels.now in
    let text = c.args.text.now in
    let stages = c.self.inside.running in
    let ran : None ≡ run stages text labels = sym (c.self.invariant.0 c.if-self.true text labels ∙ ap (λ b. cond b (Some labels) None) (sym c.if-keeps.ensures.answer)) in
    (λ i. record { running = c.keeps.ensures.same i; found = line_leaves stages labels text (with_waiting c.self.inside.waiting c.self.inside.found) ran i })
    ∙ ap (with_line labels text) c.self.view_is

pub returns-in_default-clause-ok : goal.returns-in_default-clause-ok
returns-in_default-clause-ok c =
    let labels = c.args.labels.now in
    let text = c.args.text.now in
    let stages = c.self.inside.running in
    let ran : None ≡ run stages text labels = sym c.in_default.is ∙ c.in_ok-labels_after.ensures.run ∙ ap (λ (line : StreamLine). run stages line.text line.labels) c.requires.line in
    (λ i. record { running = c.in_ok-labels_after.ensures.same i; found = line_leaves stages labels text (with_waiting c.self.inside.waiting c.self.inside.found) ran i })
    ∙ ap (with_line labels text) c.self.view_is

pub add_owned-requires : goal.add_owned-requires
add_owned-requires c =
    let room = subst (HasRoom 1) (sym c.in_ok-add_waiting.ensures.ok) (subst (λ (accumulator : AccumulatorView). HasRoom 1 accumulator.found) (sym c.self.view_is) c.requires.room) in
    subst (λ run. Fits (with_run run c.add_waiting.new.found)) (sym c.of_line-run.ensures) (line-fits c.in-Some.labels_after (length c.args.text.now) _ c.requires.fits room)

pub returns-clause-ok : goal.returns-clause-ok
returns-clause-ok c =
    let labels = c.args.labels.now in
    let text = c.args.text.now in
    let stages = c.self.inside.running in
    let labels_after = c.in-Some.labels_after in
    let ran : Some labels_after ≡ run stages text labels = sym c.in-Some.is ∙ c.in_ok-labels_after.ensures.run ∙ ap (λ (line : StreamLine). run stages line.text line.labels) c.requires.line in
    on_ok_weaker c.add_owned.result (λ ok.
    (λ i. record { running = c.in_ok-labels_after.ensures.same i; found = with_waiting (c.in_ok-add_waiting.ensures.none i) c.add_owned.new.self })
    ∙ (λ i. record { running = stages; found = (ok ∙ (λ j. with_run (c.of_line-run.ensures j) (c.in_ok-add_waiting.ensures.ok j)) ∙ line_stays stages labels text labels_after (length text) (with_waiting c.self.inside.waiting c.self.inside.found) ran refl) i })
    ∙ ap (with_line labels text) c.self.view_is) c.add_owned.ensures.ok
