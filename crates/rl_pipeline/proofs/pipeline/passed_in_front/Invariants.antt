-- The stages so far are line filters that let the line pass.
use Rattle.std.proofs.Common.{◌≡◌, drop, map, true}
use Rattle.rl_labels.specs.LabelSet.{LabelSet}
use Rattle.rl_pipeline.specs.Running.{run, text_leaves_out}
use Rattle.rl_pipeline.specs.Steps.{code_stage}
use Rattle.rl_pipeline.proofs.pipeline.passed_in_front.Given as goal

abbrev pub invariant-loop-position : goal.invariant-loop-position
invariant-loop-position l = record {
  run : (labels : LabelSet) → run (map code_stage l.codes) l.line labels ≡ run (map code_stage (drop l.position l.codes)) l.line labels;
  left_out : text_leaves_out (map code_stage l.codes) l.line ≡ true → text_leaves_out (map code_stage (drop l.position l.codes)) l.line ≡ true;
}
