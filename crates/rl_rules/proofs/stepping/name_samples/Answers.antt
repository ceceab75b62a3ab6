-- Each turn names one sample more.
use Rattle.std.proofs.Common.{get_or, ap, ◌∙◌}
use Rattle.rl_rules.specs.Naming.{final_by}
use Rattle.rl_rules.proofs.Recorded.{named_more}
use Rattle.rl_rules.proofs.stepping.name_samples.Goals as goal

pub loop-sample-preserved : goal.loop-sample-preserved
loop-sample-preserved c = record {
  named = named_more c.args.label_set_cache.now c.args.samples.now c.loop-sample.samples c.loop-sample.sample-index c.sample-item.result c.in_ok-sample.field-0 c.loop-sample-test.true c.loop-sample.invariant.named
      (c.in_ok-sample.ensures.named ∙ ap (λ naming. final_by naming (get_or c.loop-sample.samples c.loop-sample.sample-index c.sample-item.result).labels) c.loop-sample.invariant.same);
  same = c.named.ensures.same ∙ c.loop-sample.invariant.same;
}
