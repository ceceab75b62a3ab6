-- The samples so far are named, the others as they were.
use Rattle.std.proofs.Common.{◌≡◌, ◌++◌, map, take, drop}
use Rattle.rl_rules.specs.Recording.{named_by}
use Rattle.rl_rules.proofs.stepping.name_samples.Given as goal

abbrev pub invariant-loop-sample : goal.invariant-loop-sample
invariant-loop-sample l = record {
  named : l.samples ≡ map (named_by l.fn.label_set_cache) (take l.sample-index l.initial.samples) ++ drop l.sample-index l.initial.samples;
  same : l.label_set_cache ≡ l.fn.label_set_cache;
}
