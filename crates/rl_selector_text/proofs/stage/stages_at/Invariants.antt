-- The stages so far, and those that are left.
use Rattle.std.proofs.Common.{◌≡◌, ℕ, ◌+◌, map}
use Rattle.rl_query.specs.Form.{stage_form}
use Rattle.rl_selector_text.specs.Parsing.{stages_at, stages_in}
use Rattle.rl_selector_text.proofs.Items.{with_front}
use Rattle.rl_selector_text.proofs.stage.stages_at.Given as goal

abbrev pub invariant-loop-turn : goal.invariant-loop-turn
invariant-loop-turn l = (n : ℕ) → n + l._turn ≡ l.room.stages → with_front (map stage_form l.stages.items) (stages_at l.parsed l.room.depth l.left n l.rest) ≡ stages_in l.room l.lexemes
