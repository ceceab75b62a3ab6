-- What a session asks of an engine, and what is known of the answers.
use Rattle.std.specs.Prelude.{◌≡◌, ℕ, suc, ⊤, Bool, List, [], ◌∷◌, ◌++◌, Option, None, Some, is_some, option_map, Result, codes, if◌then◌else◌}
use Rattle.std.specs.List.{concat}
use Rattle.std.specs.Fmt.{decimal}
use Rattle.rl_labels.specs.Name.{is_text}
use Rattle.rl_labels.specs.declared.entry.Entry.{Entry}
use Rattle.rl_rules.specs.declared.rule.Group.{Group}
use Rattle.rl_records.specs.declared.step.ShardReply.{ShardReply}
use Rattle.rl_records.specs.declared.step.ShardStep.{ShardStep}
use Rattle.rl_world.specs.declared.fault.Refusal.{Refusal}
use Rattle.rl_world.specs.declared.step.Committed.{Committed}
use Rattle.rl_session.specs.Printer.{Printing, Prints}
use Rattle.rl_session.specs.declared.engine.Partly.{Partly}

-- a group as an engine lists it: its name, and how many sinks it has
pub record Listed : Type 0 where
  pub name : List ℕ
  pub sinks : ℕ

-- what a sink has: how many texts it has taken, and those that it keeps
pub record Shown : Type 0 where
  pub count : ℕ
  pub kept : List (List ℕ)

-- what an engine says of each call: by the engine before it, by what was asked and answered, and, where the call may change it, by
-- the engine after it
pub record Calls (E : Type 0) : Type 1 where
  -- its groups, by their numbers
  pub groups : E → List Listed
  -- an entry is handed in
  pub pushes : E → Entry → Result ShardReply Refusal → E → Type 0
  -- each shard is asked for a step, up to the first that does not decide it: the first reply that is a refusal
  pub asks_all : E → ShardStep → Result (Option ShardReply) Partly → E → Type 0
  -- a group replaces the one at a number
  pub edits : E → ℕ → Group → Result ⊤ Refusal → E → Type 0
  -- the group at a number is evaluated at a moment
  pub evaluates : E → ℕ → ℕ → Result Committed Refusal → E → Type 0
  -- the sinks of the group at a number are pumped and offered what they have not taken: those that are behind
  pub catches_up : E → ℕ → Result (List ℕ) Refusal → E → Type 0
  -- whether an evaluation of the group at a number is due at a moment
  pub is_due : E → ℕ → ℕ → Bool → Type 0
  -- what the sink at a number has of the group at a number, if there is one
  pub shows : E → ℕ → ℕ → Option Shown → Type 0
  -- whether a line may begin a block
  pub blocks : Bool

-- each call is one of the engine below
abbrev pub calls_below : {E S : Type 0} → (S → E) → Calls E → Calls S
calls_below below calls = record {
  groups = λ s. calls.groups (below s);
  pushes = λ old entry answer new. calls.pushes (below old) entry answer (below new);
  asks_all = λ old step result new. calls.asks_all (below old) step result (below new);
  edits = λ old group to result new. calls.edits (below old) group to result (below new);
  evaluates = λ old group t answer new. calls.evaluates (below old) group t answer (below new);
  catches_up = λ old group result new. calls.catches_up (below old) group result (below new);
  is_due = λ s group now due. calls.is_due (below s) group now due;
  shows = λ s group sink shown. calls.shows (below s) group sink shown;
  blocks = calls.blocks;
}

-- the number of the first group with a name, if there is one
abbrev pub number_named : List ℕ → List Listed → Option ℕ
number_named name [] = None
number_named name (group ∷ groups) = if is_text group.name name then Some 0 else option_map suc (number_named name groups)

-- what is printed of a sink: nothing where there is none
abbrev pub kept_text : Option Shown → List ℕ
kept_text None = []
kept_text (Some sink) = codes "count " ++ decimal sink.count ++ codes "\n" ++ concat sink.kept

-- this is the answer, and the text is printed
abbrev pub IsAnswered : {A : Type 0} → A → List ℕ → Printing → A → Printing → Type 0
IsAnswered answer text before result after = (result ≡ answer) × Prints before text after

-- the answer is whether a sink is there, and the text what it has
abbrev pub ShowsIn : {E : Type 0} → Calls E → E → ℕ → ℕ → Printing → Bool → Printing → Type 0
ShowsIn calls engine group sink old result new = (shown : Option Shown) × calls.shows engine group sink shown × IsAnswered (is_some shown) (kept_text shown) old result new
