-- One more label is kept where its name is another.
use Rattle.std.proofs.Common.{◌<◌, ◌++◌, ◌∷◌, [], length, cond, sym, ap, ◌∙◌, arith}
use Rattle.rl_labels.specs.Name.{is_text}
use Rattle.rl_labels.proofs.Steps.{where_key_front}
use Rattle.rl_labels.proofs.labels.without.Goals as goal

pub loop-label-preserved : goal.loop-label-preserved
loop-label-preserved c =
    let here = c.label-item.result in
    let in' : c.loop-label.label-index < length c.args.labels.now = omega arith in
    c.in_ok-push_other.ensures
    ∙ ap (λ t. t ++ cond (is_text c.args.name.now here.0) [] (here ∷ [])) c.loop-label.invariant
    ∙ sym (where_key_front c.args.name.now c.args.labels.now c.loop-label.label-index here in' c.label-item.is)
