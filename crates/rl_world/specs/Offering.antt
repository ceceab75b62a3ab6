-- What sinks have taken of the evaluations of their group, and what it makes of them to be offered the rest.
use Rattle.std.specs.Prelude.{◌≡◌, ℕ, suc, ◌+◌, ◌%◌, ◌^◌, ◌≤◌, nat_lt, Bool, List, [], ◌∷◌, map, length, take, if◌then◌else◌}
use Rattle.std.specs.List.{AllZip}
use Rattle.rl_rules.specs.declared.evaluation.Evaluation.{Evaluation}
use Rattle.rl_sinks.specs.SinkState.{SinkState, within}
use Rattle.rl_sinks.specs.Texts.{evaluation_text}
use Rattle.rl_sinks.specs.declared.sink.SinkKind.{SinkKind}

abbrev pub texts_of : SinkKind → List Evaluation → List (List ℕ)
texts_of kind evaluations = map (evaluation_text kind) evaluations

-- the sink took the texts of the first evaluations and no other, and keeps them within its limit
abbrev pub TookPrefix : List Evaluation → SinkState → Type 0
TookPrefix evaluations sink = (sink.count ≤ length evaluations) × (sink.kept ≡ within sink.limit (texts_of sink.kind (take sink.count evaluations)))

-- it has not taken all
abbrev pub is_behind : List Evaluation → SinkState → Bool
is_behind evaluations sink = nat_lt sink.count (length evaluations)

-- a sink that has taken the first evaluations, and may have refused the next
abbrev pub offered_to : List Evaluation → SinkState → ℕ → Bool → SinkState
offered_to evaluations sink count refused = record {
  kind = sink.kind;
  limit = sink.limit;
  count = count;
  kept = within sink.limit (texts_of sink.kind (take count evaluations));
  closed = sink.closed;
  refusals = if refused then (sink.refusals + 1) % 2 ^ 64 else sink.refusals;
  pumps = sink.pumps;
  failed = sink.failed;
}

-- a sink was offered all that it had not taken, until it refused: it refused exactly where it is behind
pub record Offered (evaluations : List Evaluation) (old new : SinkState) : Type 0 where
  pub more : old.count ≤ new.count
  pub few : new.count ≤ length evaluations
  pub state : new ≡ offered_to evaluations old new.count (is_behind evaluations new)

-- each of the sinks was
abbrev pub AllOffered : List Evaluation → List SinkState → List SinkState → Type 0
AllOffered evaluations old new = AllZip (Offered evaluations) old new

-- the numbers of the sinks that are behind, the first sink having this number
abbrev pub behind_from : ℕ → List Evaluation → List SinkState → List ℕ
behind_from number evaluations [] = []
behind_from number evaluations (sink ∷ sinks) = if is_behind evaluations sink then number ∷ behind_from (suc number) evaluations sinks else behind_from (suc number) evaluations sinks

abbrev pub behind_of : List Evaluation → List SinkState → List ℕ
behind_of evaluations sinks = behind_from 0 evaluations sinks
