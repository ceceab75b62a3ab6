-- The stages so far stand at the end, each after a space.
use Rattle.std.proofs.Common.{◌≡◌, ◌++◌, ◌∷◌, take, map, string_bytes}
use Rattle.std.specs.List.{flat_map}
use Rattle.rl_query.specs.Form.{stage_form}
use Rattle.rl_query.specs.Printing.{stage_print}
use Rattle.rl_query.proofs.printer.push_stages.Given as goal

abbrev pub invariant-loop-stage : goal.invariant-loop-stage
invariant-loop-stage l = string_bytes l.text ≡ string_bytes l.fn.text ++ flat_map (λ stage. 32 ∷ stage_print stage) (map stage_form (take l.stage-index l.stages))
