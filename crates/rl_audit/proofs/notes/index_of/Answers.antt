-- One item more, and the end.
use Rattle.std.proofs.Common.{◌≡◌, ◌+◌, ◌++◌, drop, slice_get, Some, sym, subst, ◌∙◌, arith}
use Rattle.std.proofs.lemmas.Option.{slice_get_within}
use Rattle.rl_audit.specs.Merged.{evaluation_indices}
use Rattle.rl_audit.proofs.Noting.{indices_all, indices_more, past_none}
use Rattle.rl_audit.proofs.notes.index_of.Goals as goal

pub loop-item-preserved : goal.loop-item-preserved
loop-item-preserved g c =
    let items = c.args.book.now.history.items in
    let n = c.loop-item.items in
    let item = c.in-Some.item.now in
    let there : slice_get items n ≡ Some item = sym c.in-Some.ensures in
    let next : c.in-Some-checked_add.next ≡ n + 1 = omega (arith, c.in-Some-checked_add.ensures) in
    let split = indices_more items n item c.loop-item.evaluations.items c.add_evaluation.new.evaluations.items there c.in_ok-add_evaluation.ensures c.loop-item.invariant.split in
    record {
      split = subst (λ m. c.add_evaluation.new.evaluations.items ++ evaluation_indices m (drop m items) ≡ evaluation_indices 0 items) (sym next) split;
      within = omega (arith, next, slice_get_within items n item there);
    }

pub returns-clause-evaluations : goal.returns-clause-evaluations
returns-clause-evaluations g c =
    let items = c.args.book.now.history.items in
    c.from_vec.ensures ∙ indices_all items c.loop-item.items c.loop-item.evaluations.items (sym c.in_default.ensures) c.loop-item.invariant.split

pub returns-clause-items : goal.returns-clause-items
returns-clause-items g c =
    let items = c.args.book.now.history.items in
    omega (arith, c.loop-item.invariant.within, past_none items c.loop-item.items (sym c.in_default.ensures))
