-- One stream more.
use Rattle.std.proofs.Common.{◌≡◌, ◌+◌, get_or, sym, ap, subst, ◌∙◌, arith}
use Rattle.std.specs.Map.{keys_of}
use Rattle.rl_streams.specs.Selected.{SelectionView, IsSelection}
use Rattle.rl_streams.proofs.Selecting.{label_there, next_asked}
use Rattle.rl_streams.proofs.selections.ask_all.Goals as goal

pub ask-requires : goal.ask-requires
ask-requires c = omega (arith, c.loop-position.invariant.here, c.loop-position-test.true, c.len-position-end.ensures.len)

pub loop-position-preserved : goal.loop-position-preserved
loop-position-preserved c =
    let rows = c.args.streams.now.entries in
    let s = c.loop-position.selection in
    let there = label_there rows c.loop-position.position c.index.result.now c.requires.own c.index.ensures in
    record {
      kept = subst (IsSelection (keys_of rows)) (sym c.in_ok-ask.ensures.asked) (next_asked (keys_of rows) s c.labels.result.now c.loop-position.invariant.kept (omega (arith, there.0, c.loop-position.invariant.here))
          (ap (λ n. get_or (keys_of rows) n c.labels.result.now) c.loop-position.invariant.here ∙ subst (λ l. get_or (keys_of rows) c.loop-position.position l ≡ l) (sym c.labels.ensures) there.1));
      same = ap (λ (s : SelectionView). s.selector) c.in_ok-ask.ensures.asked ∙ c.loop-position.invariant.same;
      here = ap (λ (s : SelectionView). s.asked) c.in_ok-ask.ensures.asked ∙ ap (λ n. n + 1) c.loop-position.invariant.here;
    }
