-- Which entries a step makes visible, and which it hides.
use Rattle.std.specs.Prelude.{◌≡◌, ℕ, ◌+◌, ◌==◌, Bool, not, ◌&&◌, List, [], ◌∷◌, if◌then◌else◌}
use Rattle.std.specs.List.{filter, sum_by}
use Rattle.std.specs.FinMap.{keys}
use Rattle.rl_labels.specs.declared.entry.Entry.{Entry}
use Rattle.rl_labels.specs.declared.limits.Limits.{Limits}
use Rattle.rl_deletes.specs.Deletes.{RequestsView, asked, covered, covered_beside, covers_one, is_new_request}
use Rattle.rl_deletes.specs.Horizons.{advanced, is_below}
use Rattle.rl_shard.specs.ShardState.{ShardState, visible}
use Rattle.rl_shard.specs.ShardStep.{is_taken}
use Rattle.rl_records.specs.declared.step.ShardStep.{ShardStep}
use Rattle.rl_records.specs.declared.step.ShardStep.TheVariants as steps

-- the received request with the number covers the entry, and no other does
abbrev pub covered_alone : RequestsView → ℕ → Entry → Bool
covered_alone requests id entry = covered requests entry && not (covered_beside requests id entry)

-- the entries that a step makes visible: one that is taken and not covered, and those that the cancelled request alone covers
abbrev pub gains : Limits → ShardState → ShardStep → List Entry
gains limits shard (steps.Push entry) = if is_taken limits shard entry && not (covered shard.requests entry) then entry ∷ [] else []
gains limits shard (steps.Cancel id) = filter (covered_alone shard.requests id) (keys shard.held)
gains limits shard step = []

-- the visible entries that it hides or removes: those that a new request covers, and those below the new horizon
abbrev pub losses : Limits → ShardState → ShardStep → List Entry
losses limits shard (steps.Delete deletion) = if is_new_request shard.requests deletion.id then filter (covers_one (asked deletion)) (visible shard) else []
losses limits shard (steps.Retain now) = if limits.keep == 0 then [] else filter (is_below (advanced limits.keep shard.horizon now)) (visible shard)
losses limits shard step = []

-- what is visible after a step is what was visible, less what the step loses, and more what it gains, in whatever order
pub record Shows (limits : Limits) (shard : ShardState) (step : ShardStep) (after : List Entry) : Type 0 where
  pub sums : (number : Entry → ℕ) → sum_by number after + sum_by number (losses limits shard step) ≡ sum_by number (visible shard) + sum_by number (gains limits shard step)
