-- What the replies of a run list of sinks that are behind, and what that says of each sink.
use Rattle.std.specs.Prelude.{◌≡◌, ◌==◌, ℕ, ◌+◌, ◌%◌, ◌^◌, Bool, false, List, [], ◌∷◌, Option, None, Some, MatchOption, slice_get, count_by, zip, if◌then◌else◌}
use Rattle.std.specs.List.{list_any}
use Rattle.rl_rules.specs.declared.evaluation.Evaluation.{Evaluation}
use Rattle.rl_sinks.specs.SinkState.{SinkState}
use Rattle.rl_world.specs.Offering.{is_behind}
use Rattle.rl_world.specs.WorldState.{BookState, sink_at}
use Rattle.rl_world.specs.declared.step.Step.{Step}
use Rattle.rl_world.specs.declared.step.Step.TheVariants as steps
use Rattle.rl_world.specs.declared.step.Reply.{Reply}
use Rattle.rl_world.specs.declared.step.Reply.TheVariants as replies

-- whether a list of a group's sinks that are behind has the sink; none where the group is another
abbrev pub listed_in : ℕ → ℕ → ℕ → List ℕ → Option Bool
listed_in group sink number behind = if number == group then Some (list_any (λ listed. listed == sink) behind) else None

-- whether a commit or a catch-up of the group that was not refused lists the sink; none where the turn is no such
abbrev pub listing : ℕ → ℕ → Step × Reply → Option Bool
listing group sink (steps.Commit number, replies.Committed answer) = listed_in group sink number answer.behind
listing group sink (steps.CatchUp number, replies.CaughtUp behind) = listed_in group sink number behind
listing group sink (step, reply) = None

abbrev pub is_listed : Option Bool → Bool
is_listed None = false
is_listed (Some listed) = listed

-- how many replies list the sink
abbrev pub listings : ℕ → ℕ → List (Step × Reply) → ℕ
listings group sink turns = count_by (λ turn. is_listed (listing group sink turn)) turns

abbrev pub latest : Option Bool → Option Bool → Option Bool
latest first None = first
latest first (Some listed) = Some listed

-- what the last such turn of the group says of the sink, if there is one
abbrev pub last_listing : ℕ → ℕ → List (Step × Reply) → Option Bool
last_listing group sink [] = None
last_listing group sink (turn ∷ turns) = latest (listing group sink turn) (last_listing group sink turns)

-- what a run made of one sink: each reply that lists it counts as a refusal, and it is behind where the last commit or catch-up
-- of its group says so; with none it took nothing
pub record Follows (turns : List (Step × Reply)) (group sink : ℕ) (evaluations : List Evaluation) (old new : SinkState) : Type 0 where
  pub refusals : new.refusals % 2 ^ 64 ≡ (old.refusals + listings group sink turns) % 2 ^ 64
  pub behind : MatchOption (last_listing group sink turns) (new.count ≡ old.count) (λ listed. is_behind evaluations new ≡ listed)

-- the sink is still there, and follows
pub record FollowsIn (turns : List (Step × Reply)) (group sink : ℕ) (old : SinkState) (books : List BookState) : Type 0 where
  pub book : BookState
  pub there : slice_get books group ≡ Some book
  pub new : SinkState
  pub here : slice_get book.sinks sink ≡ Some new
  pub follows : Follows turns group sink book.history.evaluations old new

-- each sink of each group
abbrev pub SinksFollow : List BookState → List Step → List Reply → List BookState → Type 0
SinksFollow old steps replies new = (group sink : ℕ) (before : SinkState) → sink_at old group sink ≡ Some before → FollowsIn (zip steps replies) group sink before new
