-- The input of the program: a document of rules, a line that is the mark, and commands.
use Rattle.std.specs.Prelude.{◌≡◌, ◌⊎◌, ℕ, ◌==◌, Bool, true, List, [], ◌∷◌, ◌++◌, map, Option, None, Some, Result, Ok, Err, codes, if◌then◌else◌}
use Rattle.std.specs.List.{slice_split, join_with_byte}
use Rattle.std.specs.Option.{option_map}
use Rattle.std.specs.Str.{is_utf8}
use Rattle.rl_plain.specs.Answers.{◌>>=◌}
use Rattle.rl_labels.specs.Name.{is_text}
use Rattle.rl_rules.specs.Forms.{GroupForm, group_form}
use Rattle.rl_rules.specs.Answering.{LacksRoom}
use Rattle.rl_rules.specs.Document.{groups_of}
use Rattle.rl_rules.specs.declared.fault.RulesFault.{RulesFault}
use Rattle.rl_session.specs.declared.front.Front.{Front}
use Rattle.rl_session.specs.declared.front.fault.FrontFault.{FrontFault}
use Rattle.rl_session.specs.declared.front.fault.FrontFault.TheVariants as faults

-- the lines of a text, without their line feeds
abbrev pub lines_of : List ℕ → List (List ℕ)
lines_of text = slice_split (λ byte. byte == 10) text

-- the first line of a text, and what follows its line feed, if it has one
abbrev pub IsFirstLine : List ℕ → List ℕ → Option (List ℕ) → Type 0
IsFirstLine text line None = lines_of text ≡ line ∷ []
IsFirstLine text line (Some following) = (lines_of text ≡ line ∷ lines_of following) × (text ≡ line ++ 10 ∷ following)

-- a line is the mark: two percent signs, and nothing else
abbrev pub is_mark : List ℕ → Bool
is_mark line = is_text line (codes "%%")

-- a line more, with its line feed, in front of a document
abbrev pub after_line : List ℕ → List ℕ × List ℕ → List ℕ × List ℕ
after_line line parts = (line ++ 10 ∷ parts.0, parts.1)

-- the lines before the first mark as a document, and those after it as commands
abbrev pub front_of_lines : List (List ℕ) → Option (List ℕ × List ℕ)
front_of_lines [] = None
front_of_lines (line ∷ lines) = if is_mark line then Some ([], join_with_byte 10 lines) else option_map (after_line line) (front_of_lines lines)

-- the document and the commands of a text
abbrev pub front_of : List ℕ → Option (List ℕ × List ℕ)
front_of text = front_of_lines (lines_of text)

-- a text is its document, the mark, and its commands after a line feed; or the mark ends it
abbrev pub IsCut : List ℕ → List ℕ × List ℕ → Type 0
IsCut text parts = (text ≡ parts.0 ++ (codes "%%\n" ++ parts.1)) ⊎ ((text ≡ parts.0 ++ codes "%%") × (parts.1 ≡ []))

-- groups, and the text of the commands
pub record FrontForm : Type 0 where
  pub groups : List GroupForm
  pub commands : List ℕ

abbrev pub front_form : Front → FrontForm
front_form front = record { groups = map group_form front.groups.items; commands = front.commands }

-- the groups of a document, or its fault
abbrev pub with_rules_fault : Result (List GroupForm) RulesFault → Result (List GroupForm) FrontFault
with_rules_fault (Ok groups) = Ok groups
with_rules_fault (Err fault) = Err (faults.Rules fault)

-- the commands beside the groups
abbrev pub with_commands : List ℕ → Result (List GroupForm) FrontFault → Result FrontForm FrontFault
with_commands commands read = read >>= λ groups. Ok (record { groups = groups; commands = commands })

-- what the two parts of a text say as if each pattern had room
abbrev pub front_from : Option (List ℕ × List ℕ) → Result FrontForm FrontFault
front_from None = Err faults.NoMark
front_from (Some parts) = with_commands parts.1 (with_rules_fault (groups_of parts.0))

-- what bytes say as if each pattern had room, or the lowest fault that they have
abbrev pub front_in : List ℕ → Result FrontForm FrontFault
front_in bytes = if is_utf8 bytes then front_from (front_of bytes) else Err faults.NotText

-- the rules of a document are refused for want of room
abbrev pub RulesLackRoom : {A : Type 0} → List ℕ → Result A FrontFault → Type 0
RulesLackRoom document answer = (fault : RulesFault) × (answer ≡ Err (faults.Rules fault)) × LacksRoom document fault

-- the groups that a document is answered to have, or its fault
abbrev pub HasGroups : List ℕ → Result (List GroupForm) FrontFault → Type 0
HasGroups document answer = (answer ≡ with_rules_fault (groups_of document)) ⊎ RulesLackRoom document answer

-- bytes are a text with the mark, and the rules before it are refused for want of room
abbrev pub FrontLacksRoom : List ℕ → Result FrontForm FrontFault → Type 0
FrontLacksRoom bytes answer = (parts : List ℕ × List ℕ) × (is_utf8 bytes ≡ true) × (front_of bytes ≡ Some parts) × RulesLackRoom parts.0 answer

-- what bytes are answered to say
abbrev pub Says : List ℕ → Result FrontForm FrontFault → Type 0
Says bytes answer = (answer ≡ front_in bytes) ⊎ FrontLacksRoom bytes answer
