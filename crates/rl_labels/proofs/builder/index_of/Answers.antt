-- A label is found, or the index lies between one below the name and those above it.
use Rattle.std.proofs.Common.{◌≡◌, ◌-◌, suc, drop, sym, ap, ◌∙◌, arith}
use Rattle.std.specs.List.{insert, list_all}
use Rattle.std.specs.declared.cmp.Ordering.TheVariants.{Equal, Greater}
use Rattle.std.specs.FinMap.Entries.{below_all, is_sorted}
use Rattle.std.proofs.lemmas.Bool.{and_parts}
use Rattle.rl_labels.specs.Name.{name_cmp}
use Rattle.rl_labels.specs.LabelSet.{is_label}
use Rattle.rl_labels.proofs.Building.{find_below, put_below, find_there, absent_at, placed_at}
use Rattle.rl_labels.proofs.builder.index_of.Goals as goal

pub returns-in-Equal-clause-there : goal.returns-in-Equal-clause-there
returns-in-Equal-clause-there c = λ _.
    let here = c.index-labels-index.result in
    let tied : name_cmp c.args.name.now here.0 ≡ Equal = ap (λ p. name_cmp c.args.name.now p.0) c.index-labels-index.is ∙ ap (name_cmp c.args.name.now) (sym c.as_str.ensures) ∙ sym c.cmp.ensures ∙ c.in-Equal.is in
    find_there c.args.name.now c.args.labels.now (c.loop-index.index - 1) here (omega arith) c.index-labels-index.is tied

pub returns-in-Greater-clause-absent : goal.returns-in-Greater-clause-absent
returns-in-Greater-clause-absent c =
    let name = c.args.name.now in
    let labels = c.args.labels.now in
    let i = c.loop-index.index - 1 in
    let here = c.index-labels-index.result in
    let next : suc i ≡ c.loop-index.index = omega arith in
    let above : name_cmp name here.0 ≡ Greater = ap (λ p. name_cmp name p.0) c.index-labels-index.is ∙ ap (name_cmp name) (sym c.as_str.ensures) ∙ sym c.cmp.ensures ∙ c.in-Greater.is in
    let sorted = (and_parts (is_sorted name_cmp labels) (list_all is_label labels) c.requires).0 in
    absent_at name labels i here sorted (omega arith) c.index-labels-index.is above (ap (λ n. below_all name_cmp name (drop n labels)) next ∙ c.loop-index.invariant.below)

pub returns-in-Greater-clause-placed : goal.returns-in-Greater-clause-placed
returns-in-Greater-clause-placed c = λ value.
    let name = c.args.name.now in
    let labels = c.args.labels.now in
    let i = c.loop-index.index - 1 in
    let here = c.index-labels-index.result in
    let next : suc i ≡ c.loop-index.index = omega arith in
    let above : name_cmp name here.0 ≡ Greater = ap (λ p. name_cmp name p.0) c.index-labels-index.is ∙ ap (name_cmp name) (sym c.as_str.ensures) ∙ sym c.cmp.ensures ∙ c.in-Greater.is in
    let sorted = (and_parts (is_sorted name_cmp labels) (list_all is_label labels) c.requires).0 in
    placed_at name value labels i here sorted (omega arith) c.index-labels-index.is above (ap (λ n. below_all name_cmp name (drop n labels)) next ∙ c.loop-index.invariant.below)
    ∙ ap (λ n. insert labels n (name, value)) next

pub returns-clause-absent : goal.returns-clause-absent
returns-clause-absent c =
    let front : 0 ≡ c.loop-index.index = omega arith in
    find_below c.args.name.now c.args.labels.now (ap (λ n. below_all name_cmp c.args.name.now (drop n c.args.labels.now)) front ∙ c.loop-index.invariant.below)

pub returns-clause-placed : goal.returns-clause-placed
returns-clause-placed c = λ value.
    let front : 0 ≡ c.loop-index.index = omega arith in
    put_below c.args.name.now value c.args.labels.now (ap (λ n. below_all name_cmp c.args.name.now (drop n c.args.labels.now)) front ∙ c.loop-index.invariant.below)
