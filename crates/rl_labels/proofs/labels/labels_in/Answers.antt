-- Each exit is the answer of the pairs.
use Rattle.std.proofs.Common.{true, false, nat_lt, length, sym, ap, ◌∙◌}
use Rattle.rl_labels.specs.LabelSet.{are_labels}
use Rattle.rl_labels.specs.LabelText.{labels_text}
use Rattle.rl_labels.specs.Pairs.{longest_text, names_are_good}
use Rattle.rl_labels.specs.Rising.{rises}
use Rattle.rl_labels.proofs.FromPairs.{labels_sorts}
use Rattle.rl_labels.proofs.PairAnswers.{kept_answer, same_names, bad_names}
use Rattle.rl_labels.proofs.labels.labels_in.Goals as goal

pub returns-then-not-names_are_good-clause-set : goal.returns-then-not-names_are_good-clause-set
returns-then-not-names_are_good-clause-set c = bad_names c.args.pairs.items (ap names_are_good (sym c.deref.ensures.value) ∙ sym c.names_are_good.ensures ∙ c.if-not-names_are_good.true)

pub returns-then-not-names_rise-clause-set : goal.returns-then-not-names_rise-clause-set
returns-then-not-names_rise-clause-set c =
    let good = ap names_are_good (sym c.deref.ensures.value) ∙ sym c.names_are_good.ensures ∙ c.if-not-names_are_good.false in
    same_names c.args.pairs.items c.sort_pairs.new.pairs.items (record { good = good; moved = c.sort_pairs.ensures.moved; in_order = c.sort_pairs.ensures.in_order }) (ap rises (sym c.deref-2.ensures.value) ∙ sym c.names_rise.ensures ∙ c.if-not-names_rise.true)

pub returns-then-is_long-clause-set : goal.returns-then-is_long-clause-set
returns-then-is_long-clause-set c =
    let good = ap names_are_good (sym c.deref.ensures.value) ∙ sym c.names_are_good.ensures ∙ c.if-not-names_are_good.false in
    let up = ap rises (sym c.deref-2.ensures.value) ∙ sym c.names_rise.ensures ∙ c.if-not-names_rise.false in
    let long = ap (λ pairs. nat_lt longest_text (length (labels_text pairs))) (sym c.deref-3.ensures.value) ∙ sym c.is_long.ensures ∙ c.if-is_long.true in
    kept_answer c.args.pairs.items c.sort_pairs.new.pairs.items c.keep_values.new.pairs.items (record { good = good; moved = c.sort_pairs.ensures.moved; in_order = c.sort_pairs.ensures.in_order }) up c.keep_values.ensures true long

pub returns-clause-set : goal.returns-clause-set
returns-clause-set c =
    let good = ap names_are_good (sym c.deref.ensures.value) ∙ sym c.names_are_good.ensures ∙ c.if-not-names_are_good.false in
    let up = ap rises (sym c.deref-2.ensures.value) ∙ sym c.names_rise.ensures ∙ c.if-not-names_rise.false in
    let short = ap (λ pairs. nat_lt longest_text (length (labels_text pairs))) (sym c.deref-3.ensures.value) ∙ sym c.is_long.ensures ∙ c.if-is_long.false in
    kept_answer c.args.pairs.items c.sort_pairs.new.pairs.items c.keep_values.new.pairs.items (record { good = good; moved = c.sort_pairs.ensures.moved; in_order = c.sort_pairs.ensures.in_order }) up c.keep_values.ensures false short

pub returns-clause-by_name : goal.returns-clause-by_name
returns-clause-by_name c =
    let good = ap names_are_good (sym c.deref.ensures.value) ∙ sym c.names_are_good.ensures ∙ c.if-not-names_are_good.false in
    let up = ap rises (sym c.deref-2.ensures.value) ∙ sym c.names_rise.ensures ∙ c.if-not-names_rise.false in
    ap are_labels c.keep_values.ensures ∙ labels_sorts c.args.pairs.items c.sort_pairs.new.pairs.items (record { good = good; moved = c.sort_pairs.ensures.moved; in_order = c.sort_pairs.ensures.in_order }) up
