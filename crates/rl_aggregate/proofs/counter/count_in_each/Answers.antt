-- The line is counted in one accumulator more; refused, in those before it.
use Rattle.std.proofs.Common.{slice_set, sym, ap, subst, ◌+◌, ◌∙◌, arith}
use Rattle.std.specs.List.{AllByRecursion}
use Rattle.std.proofs.lemmas.List.{set-get_or}
use Rattle.std.proofs.lemmas.List.Edits.{map_over_more}
use Rattle.rl_aggregate.specs.Limited.{IsWithin}
use Rattle.rl_aggregate.specs.Accumulators.{AccumulatorView, with_line}
use Rattle.rl_aggregate.proofs.Counters.{partly_counted}
use Rattle.rl_aggregate.proofs.counter.count_in_each.Goals as goal

pub loop-index-preserved : goal.loop-index-preserved
loop-index-preserved c =
    let loop = c.loop-index in record {
      counted =
          ap (slice_set loop.accumulators loop.index) (c.in_ok-count.ensures.ok ∙ ap (with_line c.args.labels.now c.args.text.now) (sym c.index-accumulators-index.is))
          ∙ map_over_more (with_line c.args.labels.now c.args.text.now) c.args.accumulators.now loop.accumulators loop.index c.index-accumulators-index.result (omega arith) loop.invariant.counted c.index-accumulators-index.is;
      line = c.in_ok-count.ensures.line ∙ loop.invariant.line;
    }

pub returns-in_err-count-clause-within : goal.returns-in_err-count-clause-within
returns-in_err-count-clause-within c = λ lines all.
    let loop = c.loop-index in
    let same = ap (slice_set loop.accumulators loop.index) c.in_err-count.ensures.err ∙ set-get_or loop.accumulators loop.index c.index-accumulators-index.result in
    subst (λ accumulators. AllByRecursion (λ (accumulator : AccumulatorView). IsWithin (lines + 1) accumulator.found) accumulators) (sym (same ∙ loop.invariant.counted))
    (partly_counted c.args.labels.now c.args.text.now c.requires.fits c.args.accumulators.now loop.index lines all)

pub returns-clause-within : goal.returns-clause-within
returns-clause-within c = λ lines all.
    subst (λ accumulators. AllByRecursion (λ (accumulator : AccumulatorView). IsWithin (lines + 1) accumulator.found) accumulators) (sym c.loop-index.invariant.counted)
    (partly_counted c.args.labels.now c.args.text.now c.requires.fits c.args.accumulators.now c.loop-index.index lines all)
