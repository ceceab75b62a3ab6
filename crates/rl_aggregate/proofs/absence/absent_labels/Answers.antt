-- The label of the last of the matchers that are left is added, if one follows from it.
use Rattle.std.proofs.Common.{◌≡◌, cond, List, sym, ap, ◌∙◌}
use Rattle.rl_labels.specs.LabelSet.{LabelSet, with_label}
use Rattle.rl_labels.specs.declared.matcher.Matcher.{Matcher}
use Rattle.rl_aggregate.proofs.Absences.{with_absent_label, absent_onto, given-all, given-last}
use Rattle.rl_aggregate.proofs.absence.absent_labels.Goals as goal

pub loop-matcher-init : goal.loop-matcher-init
loop-matcher-init c = ap (absent_onto c.args.matchers.now c.args.matchers.now) c.in_ok-labels.ensures ∙ given-all c.args.matchers.now c.args.matchers.now

pub loop-matcher-preserved-in_ok-labels-2 : goal.loop-matcher-preserved-in_ok-labels-2
loop-matcher-preserved-in_ok-labels-2 c =
    let ms = c.args.matchers.now in
    let m : Matcher = c.in-Some.matcher.now in
    let before : List Matcher = c.in-Some.before.now in
    let labels : LabelSet = c.loop-matcher.labels in
    let one : c.in_ok-labels-2.labels ≡ with_absent_label ms labels m =
    c.in_ok-labels-2.ensures
    ∙ (λ i. with_label labels (c.as_str.ensures i) (c.as_str-then-gives_label.ensures i))
    ∙ ap (λ b. cond b (with_label labels m.name m.value) labels) (sym c.if-gives_label.true ∙ c.gives_label.ensures) in
    ap (absent_onto ms before) one ∙ sym (given-last ms before m labels) ∙ ap (λ rest. absent_onto ms rest labels) (sym c.in-Some.ensures.cases.0) ∙ c.loop-matcher.invariant

pub loop-matcher-preserved : goal.loop-matcher-preserved
loop-matcher-preserved c =
    let ms = c.args.matchers.now in
    let m : Matcher = c.in-Some.matcher.now in
    let before : List Matcher = c.in-Some.before.now in
    let labels : LabelSet = c.loop-matcher.labels in
    let one : labels ≡ with_absent_label ms labels m = ap (λ b. cond b (with_label labels m.name m.value) labels) (sym c.if-gives_label.false ∙ c.gives_label.ensures) in
    ap (absent_onto ms before) one ∙ sym (given-last ms before m labels) ∙ ap (λ rest. absent_onto ms rest labels) (sym c.in-Some.ensures.cases.0) ∙ c.loop-matcher.invariant
