-- Whether a ruler takes a rule file, and what a report says of that.
use Rattle.std.specs.Prelude.{◌≡◌, ◌⊎◌, ℕ, List, Option, None, Some, Result, Ok, Err}
use Rattle.rl_rules.specs.Answering.{LacksRoom}
use Rattle.rl_rules.specs.Document.{groups_of}
use Rattle.rl_rules.specs.Forms.{GroupForm}
use Rattle.rl_rules.specs.declared.fault.RulesFault.{RulesFault}

-- a text is a rule file that has groups
abbrev pub HasGroups : List ℕ → Type 0
HasGroups text = (groups : List GroupForm) × (groups_of text ≡ Ok groups)

-- a text has a fault, or a pattern of a rule in it lacks room
abbrev pub HasNoGroups : List ℕ → Type 0
HasNoGroups text = (fault : RulesFault) × ((groups_of text ≡ Err fault) ⊎ LacksRoom text fault)

-- what is found in a text is its groups, or none where it has none; an error says nothing
abbrev pub FindsGroups : {X E : Type 0} → (X → List GroupForm) → List ℕ → Result (Option X) E → Type 0
FindsGroups view text (Ok (Some groups)) = groups_of text ≡ Ok (view groups)
FindsGroups view text (Ok None) = HasNoGroups text
FindsGroups view text (Err error) = Unit {0}
