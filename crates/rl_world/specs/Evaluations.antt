-- What a whole evaluation of a group is: it begins, asks each shard and commits, turn after turn.
use Rattle.std.specs.Prelude.{◌≡◌, ℕ, zero, suc, ⊤, List, length, Option, Some, option_map, option_and_then, Result, Ok, Err, IfOk, slice_get}
use Rattle.rl_world.specs.WorldRun.{Turned}
use Rattle.rl_world.specs.WorldState.{WorldBooks}
use Rattle.rl_world.specs.WorldStep.{as_reply}
use Rattle.rl_world.specs.declared.fault.Refusal.{Refusal}
use Rattle.rl_world.specs.declared.step.Committed.{Committed}
use Rattle.rl_world.specs.declared.step.Reply.TheVariants as replies
use Rattle.rl_world.specs.declared.step.Step.TheVariants as steps

-- the name of the group at a number
abbrev pub name_at : WorldBooks → ℕ → Option (List ℕ)
name_at world group = option_map (λ book. book.history.group.name) (slice_get world.books group)

-- the moment of the evaluation that the group at a number has open
abbrev pub open_moment : WorldBooks → ℕ → Option ℕ
open_moment world group = option_and_then (λ book. option_map (λ opened. opened.t) book.history.opened) (slice_get world.books group)

-- after a step that was refused nothing is done
abbrev pub IfDoneThen : {D A F : Type 0} → Result D F → WorldBooks → (Result A F → WorldBooks → Type 0) → Result A F → WorldBooks → Type 0
IfDoneThen (Ok done) mid Next answer new = Next answer new
IfDoneThen (Err refusal) mid Next answer new = (answer ≡ Err refusal) × (new ≡ mid)

-- a shard is asked for the group
abbrev pub IsAskedFor : WorldBooks → ℕ → ℕ → Result ℕ Refusal → WorldBooks → Type 0
IsAskedFor old group number answer new = Turned old (steps.Gather group number) (as_reply replies.Gathered answer) new

-- a number of shards are asked in their order, from one on, up to the first refusal
abbrev pub AreAskedFor : WorldBooks → ℕ → ℕ → ℕ → Result ⊤ Refusal → WorldBooks → Type 0
AreAskedFor old group number zero answer new = (answer ≡ Ok tt) × (new ≡ old)
AreAskedFor old group number (suc left) answer new = (first : Result ℕ Refusal) × (mid : WorldBooks) × IsAskedFor old group number first mid × IfDoneThen first mid (AreAskedFor mid group (suc number) left) answer new

-- all shards are, and then the evaluation is committed
abbrev pub IsFinished : WorldBooks → ℕ → Result Committed Refusal → WorldBooks → Type 0
IsFinished old group answer new = (all : Result ⊤ Refusal) × (mid : WorldBooks) × AreAskedFor old group 0 (length old.shards) all mid × IfDoneThen all mid (λ committed after. Turned mid (steps.Commit group) (as_reply replies.Committed committed) after) answer new

-- one that was not committed is abandoned
abbrev pub IsLeft : WorldBooks → ℕ → Result Committed Refusal → WorldBooks → Type 0
IsLeft old group (Ok committed) new = new ≡ old
IsLeft old group (Err refusal) new = Turned old (steps.Abandon group) replies.Abandoned new

abbrev pub IsClosedOff : WorldBooks → ℕ → Result Committed Refusal → WorldBooks → Type 0
IsClosedOff old group answer new = (mid : WorldBooks) × IsFinished old group answer mid × IsLeft mid group answer new

-- an evaluation begins, asks each shard and commits, up to the first refusal; what was committed is of the group that was asked for
pub record IsEvaluated (old : WorldBooks) (group t : ℕ) (answer : Result Committed Refusal) (new : WorldBooks) : Type 0 where
  pub begun : Result ⊤ Refusal
  pub mid : WorldBooks
  pub begins : Turned old (steps.Begin group t) (as_reply (λ _. replies.Begun) begun) mid
  pub following : IfDoneThen begun mid (IsClosedOff mid group) answer new
  pub of_group : IfOk answer (λ committed. name_at old group ≡ Some committed.evaluation.group)
