-- A label more is read, or the labels end there.
use Rattle.std.proofs.Common.{◌+◌, ◌-◌, List, ℕ, Bor, Option, Ok, length, sym, ap, subst, ◌∙◌, arith}
use Rattle.std.specs.Option.{option_map}
use Rattle.rl_labels.specs.LabelSet.{Pair}
use Rattle.rl_plain.specs.Answers.{Fails, with_front}
use Rattle.rl_segments.specs.FrameReading.{Found}
use Rattle.rl_segments.specs.LabelReading.{pairs_in}
use Rattle.rl_segments.proofs.Labels.{label_ends, label_fails, label_goes_on, labels_cut}
use Rattle.rl_segments.proofs.label_text.pairs_in.Goals as goal

abbrev next : Pair → Option (Bor (List ℕ)) → Found (Pair × Option (List ℕ))
next pair following = Ok (pair, option_map (λ rest. rest.now) following)

pub returns-in-Err : goal.returns-in-Err
returns-in-Err c =
    let left = length c.args.bytes.now - c.loop.counter in
    subst (Fails c.in-Err.error) c.loop.invariant (label_fails c.loop.pairs.items c.loop.rest.now c.in-Err.error left (length c.args.bytes.now - (c.loop.counter + 1)) c.in-Err.ensures (omega (arith, c.loop-test.true)))

pub loop-preserved : goal.loop-preserved
loop-preserved c =
    let left = length c.args.bytes.now - c.loop.counter in
    let after = length c.args.bytes.now - (c.loop.counter + 1) in
    ap (λ (pairs : List Pair). with_front pairs (pairs_in after c.in-Some.others.now)) c.in_ok-push.ensures.items
    ∙ label_goes_on c.loop.pairs.items c.loop.rest.now c.in-Some.others.now c.in-Ok.next.0 left after (c.in-Ok.ensures ∙ ap (next c.in-Ok.next.0) c.in-Some.is) (omega (arith, c.loop-test.true)) ∙ c.loop.invariant

pub returns-in-None : goal.returns-in-None
returns-in-None c =
    let left = length c.args.bytes.now - c.loop.counter in
    sym c.loop.invariant
    ∙ label_ends c.loop.pairs.items c.loop.rest.now c.in-Ok.next.0 left (length c.args.bytes.now - (c.loop.counter + 1)) (c.in-Ok.ensures ∙ ap (next c.in-Ok.next.0) c.in-None.is) (omega (arith, c.loop-test.true))
    ∙ ap (λ (pairs : List Pair). Ok pairs) (sym c.in_ok-push.ensures.items)

pub returns : goal.returns
returns c = subst (λ error. Fails error (pairs_in (length c.args.bytes.now) c.args.bytes.now)) (sym c.into.ensures) (sym c.loop.invariant ∙ labels_cut c.loop.pairs.items c.loop.rest.now (length c.args.bytes.now - c.loop.counter) (omega (arith, c.loop-test.false)))
