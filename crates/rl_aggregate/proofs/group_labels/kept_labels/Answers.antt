-- The next label goes to the front, if it decides the group.
use Rattle.std.proofs.Common.{◌≡◌, ◌++◌, ◌∷◌, [], List, true, cond, is_some, sym, ap, ◌∙◌, append_assoc}
use Rattle.rl_labels.specs.LabelSet.{Pair, LabelSet, is_label, label, with_label}
use Rattle.rl_aggregate.specs.Grouping.{is_grouping_label}
use Rattle.rl_aggregate.proofs.Kept.{label_of, added-front}
use Rattle.rl_aggregate.proofs.group_labels.kept_labels.Goals as goal

pub add-requires : goal.add-requires
add-requires c =
    let pair : Pair = c.in-Some.pair.now in
    let before : List Pair = c.in-Some.before.now in
    let inv = c.loop-pair.invariant in
    let stands = sym (append_assoc before (pair ∷ []) inv.0) ∙ ap (λ r. r ++ inv.0) (sym c.in-Some.ensures.cases.0) ∙ inv.1 in
    (λ i. is_label (c.as_str-name.ensures i, c.as_str.ensures i)) ∙ label_of c.args.labels.now before inv.0 pair stands

pub loop-pair-preserved-in_ok-add : goal.loop-pair-preserved-in_ok-add
loop-pair-preserved-in_ok-add c =
    let pair : Pair = c.in-Some.pair.now in
    let before : List Pair = c.in-Some.before.now in
    let set : LabelSet = c.loop-pair.builder in
    let inv = c.loop-pair.invariant in
    let stands = sym (append_assoc before (pair ∷ []) inv.0) ∙ ap (λ r. r ++ inv.0) (sym c.in-Some.ensures.cases.0) ∙ inv.1 in
    let kept : is_grouping_label c.args.grouping.now pair.0 ≡ true = ap (is_grouping_label c.args.grouping.now) (sym c.as_str-name.ensures) ∙ sym c.is_grouping_label.ensures ∙ c.if-is_grouping_label.true in (
      pair ∷ inv.0,
      stands,
      c.in_ok-add.ensures.added
          ∙ (λ i. cond (is_some (label set (c.as_str-name.ensures i))) set (with_label set (c.as_str-name.ensures i) (c.as_str.ensures i)))
          ∙ added-front (λ p. is_grouping_label c.args.grouping.now p.0) c.args.labels.now set before inv.0 pair stands inv.2 kept,
    )
