-- The label with the name gives way to the new one.
use Rattle.std.proofs.Common.{◌≡◌, ◌<◌, ◌+◌, ◌-◌, ◌++◌, ◌∷◌, take, drop, length, sym, ap, ◌∙◌, arith}
use Rattle.std.proofs.lemmas.Grind.{common_steps}
use Rattle.std.specs.declared.cmp.Ordering.TheVariants.{Equal}
use Rattle.rl_labels.specs.Name.{name_cmp}
use Rattle.rl_labels.proofs.Steps.{put_equal}
use Rattle.rl_labels.proofs.labels.around.Goals as goal

pub returns-in-Equal : goal.returns-in-Equal
returns-in-Equal c = λ value.
    let name = c.args.name.now in
    let labels = c.args.labels.now in
    let i = c.loop-index.index in
    let here = c.index-labels-index.result in
    let in' : i < length labels = omega arith in
    let tied : name_cmp name here.0 ≡ Equal = ap (name_cmp name) (sym c.as_str.ensures) ∙ sym c.cmp.ensures ∙ c.in-Equal.is in
    let rest : take (length labels - (i + 1)) (drop (i + 1) labels) ≡ drop (i + 1) labels = grind (arith, common_steps) in
    sym (c.loop-index.invariant value)
    ∙ ap (λ t. take i labels ++ t) (put_equal name value labels i here in' c.index-labels-index.is tied)
    ∙ ap (λ t. take i labels ++ (name, value) ∷ t) (sym rest)
