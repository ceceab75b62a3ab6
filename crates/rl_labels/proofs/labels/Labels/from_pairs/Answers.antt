-- Each clause follows from the answer as a whole.
use Rattle.std.proofs.Common.{ap, sym, ◌∙◌, Ok}
use Rattle.rl_labels.specs.LabelSet.{label_set_of}
use Rattle.rl_labels.proofs.PairAnswers.{given_answer, stream_answer}
use Rattle.rl_labels.proofs.labels.Labels.from_pairs.Goals as goal

pub returns-clause-given : goal.returns-clause-given
returns-clause-given c =
    let made = c.in_ok-from_labels.ensures ∙ ap label_set_of (c.in_ok-labels.ensures ∙ c.deref.ensures.value) in
    given_answer c.args.pairs.items c.in_ok-from_labels.field-0 (c.in_ok-pairs.ensures.set ∙ ap Ok (sym made))

pub returns-clause-of_stream : goal.returns-clause-of_stream
returns-clause-of_stream c =
    let made = c.in_ok-from_labels.ensures ∙ ap label_set_of (c.in_ok-labels.ensures ∙ c.deref.ensures.value) in
    stream_answer c.args.pairs.items c.in_ok-from_labels.field-0 (c.in_ok-pairs.ensures.set ∙ ap Ok (sym made))
