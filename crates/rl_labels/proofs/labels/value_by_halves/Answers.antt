-- The label in the middle has the name, or those on one side of it are left.
use Rattle.std.proofs.Common.{◌≡◌, ◌/◌, ◌+◌, suc, length, drop, Some, sym, ap, ◌∙◌, arith}
use Rattle.std.specs.declared.cmp.Ordering.TheVariants.{Less, Equal, Greater}
use Rattle.std.specs.FinMap.Entries.{find, is_sorted}
use Rattle.std.proofs.lemmas.List.{length-take, length-drop}
use Rattle.rl_labels.specs.Name.{name_cmp}
use Rattle.rl_labels.proofs.Building.{find_after}
use Rattle.rl_labels.proofs.Halves.{sorted_front, sorted_after, some_left, find_before, find_at}
use Rattle.rl_labels.proofs.labels.value_by_halves.Goals as goal

pub loop-rest-preserved-in-Less : goal.loop-rest-preserved-in-Less
loop-rest-preserved-in-Less c =
    let name = c.args.name.now in
    let rest = c.loop-rest.rest.now in
    let i = length rest / 2 in
    let some = some_left rest (sym c.is_empty.ensures ∙ c.loop-rest-test.true) in
    let below : name_cmp name c.index-rest-middle.result.0 ≡ Less = ap (name_cmp name) (sym c.as_str.ensures) ∙ sym c.cmp.ensures ∙ c.in-Less.is in
    let left = c.split_at.ensures.front in
    record {
      shorter = omega (arith, ap length left, length-take i rest);
      sorted = ap (is_sorted name_cmp) left ∙ sorted_front i rest c.loop-rest.invariant.sorted;
      same = ap (find name_cmp name) left ∙ sym (find_before name rest i c.index-rest-middle.result c.loop-rest.invariant.sorted (omega arith) c.index-rest-middle.is below) ∙ c.loop-rest.invariant.same;
    }

pub returns-in-Equal : goal.returns-in-Equal
returns-in-Equal c =
    let name = c.args.name.now in
    let rest = c.loop-rest.rest.now in
    let here = c.index-rest-middle.result in
    let some = some_left rest (sym c.is_empty.ensures ∙ c.loop-rest-test.true) in
    let tied : name_cmp name here.0 ≡ Equal = ap (name_cmp name) (sym c.as_str.ensures) ∙ sym c.cmp.ensures ∙ c.in-Equal.is in
    ap Some c.as_str-in-Equal.ensures
    ∙ sym (find_at name rest (length rest / 2) here c.loop-rest.invariant.sorted (omega arith) c.index-rest-middle.is tied)
    ∙ c.loop-rest.invariant.same

pub loop-rest-preserved : goal.loop-rest-preserved
loop-rest-preserved c =
    let name = c.args.name.now in
    let rest = c.loop-rest.rest.now in
    let i = length rest / 2 in
    let some = some_left rest (sym c.is_empty.ensures ∙ c.loop-rest-test.true) in
    let next : i + 1 ≡ suc i = omega arith in
    let above : name_cmp name c.index-rest-middle.result.0 ≡ Greater = ap (name_cmp name) (sym c.as_str.ensures) ∙ sym c.cmp.ensures ∙ c.in-Greater.is in
    let left = c.split_at-in-Greater.ensures.back ∙ ap (λ n. drop n rest) next in
    record {
      shorter = omega (arith, ap length left, length-drop (suc i) rest);
      sorted = ap (is_sorted name_cmp) left ∙ sorted_after (suc i) rest c.loop-rest.invariant.sorted;
      same = ap (find name_cmp name) left ∙ sym (find_after name rest i c.index-rest-middle.result c.loop-rest.invariant.sorted (omega arith) c.index-rest-middle.is above) ∙ c.loop-rest.invariant.same;
    }
