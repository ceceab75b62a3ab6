-- What the document of an edit gives: one group, or why it has not one.
use Rattle.std.specs.Prelude.{◌≡◌, ℕ, List, [], ◌∷◌, Option, None, Some, Result, Ok, Err}
use Rattle.rl_rules.specs.Answering.{LacksRoom, IsRefused}
use Rattle.rl_rules.specs.Document.{groups_of}
use Rattle.rl_rules.specs.Forms.{GroupForm, group_form}
use Rattle.rl_rules.specs.declared.rule.Group.{Group}
use Rattle.rl_session.specs.declared.edit.EditRefusal.{EditRefusal}
use Rattle.rl_session.specs.declared.edit.EditRefusal.TheVariants as refusals

-- what is there, if it is one and no other
abbrev pub only : {A : Type 0} → List A → Option A
only (one ∷ []) = Some one
only _ = None

-- the document has this group and no other
abbrev pub HasGroup : List ℕ → GroupForm → Type 0
HasGroup document group = groups_of document ≡ Ok (group ∷ [])

-- it has groups, and not one
abbrev pub HasNotOneGroup : List ℕ → Type 0
HasNotOneGroup document = (groups : List GroupForm) × (groups_of document ≡ Ok groups) × (only groups ≡ None)

-- the one group of a document, or why it has none: the lowest fault of the document comes first, then that it has not one group
abbrev pub GivesOneGroup : List ℕ → Result Group EditRefusal → Type 0
GivesOneGroup document (Ok group) = HasGroup document (group_form group)
GivesOneGroup document (Err (refusals.Rules error)) = IsRefused error (groups_of document) (LacksRoom document)
GivesOneGroup document (Err refusals.NotOneGroup) = HasNotOneGroup document
GivesOneGroup document (Err _) = ⊥
