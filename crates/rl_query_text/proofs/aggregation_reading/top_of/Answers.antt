-- A row of digits has no point.
use Rattle.std.proofs.Common.{◌∙◌, sym, ap}
use Rattle.rl_labels.specs.Decimals.{number_of}
use Rattle.rl_query_text.proofs.Numbers.{top_read}
use Rattle.rl_query_text.proofs.aggregation_reading.top_of.Goals as goal

pub returns-then-top-le65535-clause-top : goal.returns-then-top-le65535-clause-top
returns-then-top-le65535-clause-top c = sym (top_read c.args.number.now c.in_ok-top.top (ap (number_of 15) (sym c.as_bytes.ensures.value) ∙ sym c.in_ok-top.ensures.value) c.if-top-ge1.true c.if-top-le65535.true)
