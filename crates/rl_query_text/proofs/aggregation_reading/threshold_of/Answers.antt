-- What has few digits is a threshold.
use Rattle.std.proofs.Common.{◌∙◌, sym, ap}
use Rattle.rl_labels.specs.Decimals.{decimal_of}
use Rattle.rl_query_text.proofs.Numbers.{threshold_proper}
use Rattle.rl_query_text.proofs.aggregation_reading.threshold_of.Goals as goal

pub returns-then-has_few_digits-clause-proper : goal.returns-then-has_few_digits-clause-proper
returns-then-has_few_digits-clause-proper c = threshold_proper c.args.number.now c.in_ok-value.value (ap (decimal_of 9) (sym c.as_bytes.ensures.value) ∙ sym c.in_ok-value.ensures) (sym c.has_few_digits.ensures ∙ c.if-has_few_digits.true)
