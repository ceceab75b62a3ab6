-- An engine that lets the sinks of a group catch up after each evaluation of it.
use Rattle.std.specs.Prelude.{◌≡◌, ℕ, Bool, true, List, Result, Ok, Err}
use Rattle.rl_world.specs.declared.fault.Refusal.{Refusal}
use Rattle.rl_world.specs.declared.step.Committed.{Committed}
use Rattle.rl_session.specs.Engine.{Calls}

-- what was committed, with the sinks that refused again instead of those that refused at first; where none could be offered
-- anything, with those
abbrev pub with_behind : Committed → Result (List ℕ) Refusal → Committed
with_behind committed (Ok behind) = record { number = committed.number; evaluation = committed.evaluation; behind = behind }
with_behind committed (Err refusal) = committed

module _ {E : Type 0} (calls : Calls E) where
  -- after what was committed the sinks of the group catch up, where that is asked for; after a refusal they do not
  abbrev pub CatchesUpAfter : Bool → E → ℕ → Result Committed Refusal → Result Committed Refusal → E → Type 0
  CatchesUpAfter true mid group (Ok committed) answer new = (caught : Result (List ℕ) Refusal) × calls.catches_up mid group caught new × (answer ≡ Ok (with_behind committed caught))
  CatchesUpAfter pumps mid group made answer new = (answer ≡ made) × (new ≡ mid)

  -- a group is evaluated, and then its sinks may catch up
  abbrev pub EvaluatesAndPumps : Bool → E → ℕ → ℕ → Result Committed Refusal → E → Type 0
  EvaluatesAndPumps pumps old group t answer new = (made : Result Committed Refusal) × (mid : E) × calls.evaluates old group t made mid × CatchesUpAfter pumps mid group made answer new

-- each call is one of the engine below, and an evaluation may be two; what was asked for stays
abbrev pub pumping_calls : {E S : Type 0} → (S → E) → (S → Bool) → Calls E → Calls S
pumping_calls below pumps calls = record {
  groups = λ s. calls.groups (below s);
  pushes = λ old entry answer new. calls.pushes (below old) entry answer (below new) × (pumps new ≡ pumps old);
  asks_all = λ old step result new. calls.asks_all (below old) step result (below new) × (pumps new ≡ pumps old);
  edits = λ old group to result new. calls.edits (below old) group to result (below new) × (pumps new ≡ pumps old);
  evaluates = λ old group t answer new. EvaluatesAndPumps calls (pumps old) (below old) group t answer (below new) × (pumps new ≡ pumps old);
  catches_up = λ old group result new. calls.catches_up (below old) group result (below new) × (pumps new ≡ pumps old);
  is_due = λ s group now due. calls.is_due (below s) group now due;
  shows = λ s group sink shown. calls.shows (below s) group sink shown;
  blocks = calls.blocks;
}
