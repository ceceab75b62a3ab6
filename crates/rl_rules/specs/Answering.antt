-- What a reader of rules may answer. No definition says which patterns take too much room, so a query that meets one may be refused for that too.
use Rattle.std.specs.Prelude.{◌≡◌, ◌⊎◌, ℕ, true, List, ◌∷◌, ◌++◌, length, Some, Result, Ok, Err, IsOk, codes}
use Rattle.toml.specs.Data.{Members}
use Rattle.toml.specs.Parse.{parse_document}
use Rattle.rl_plain.specs.declared.refusal.OrMemory.{OrMemory}
use Rattle.rl_plain.specs.declared.refusal.OrMemory.TheVariants.{Fault, Memory}
use Rattle.rl_query.specs.declared.fault.QueryFault.TheVariants.{BadRegex}
use Rattle.rl_query_text.specs.QueryReading.{query_meets_pattern}
use Rattle.rl_rules.specs.Document.{rule_at, group_at, each_from, tables_at, check_keys}
use Rattle.rl_rules.specs.Values.{text_at}
use Rattle.rl_rules.specs.declared.fault.RulesFault.{RulesFault}
use Rattle.rl_rules.specs.declared.fault.RulesFault.TheVariants as faults

-- the query of the rule at these indexes meets a pattern, and is refused for lack of room
abbrev pub QueryLacksRoom : ℕ → ℕ → List ℕ → RulesFault → Type 0
QueryLacksRoom group rule text fault = (fault ≡ faults.BadQuery group rule BadRegex) × (query_meets_pattern text ≡ true)

-- the query of a rule's table is
abbrev pub RuleLacksRoom : ℕ → ℕ → Members → RulesFault → Type 0
RuleLacksRoom group rule table = QueryLacksRoom group rule (text_at (codes "expr") table)

-- one of some tables is refused so at its index, and each before it is read
pub record OneLacksRoom {A : Type 0} (read : ℕ → Members → Result A RulesFault) (LacksRoom : ℕ → Members → RulesFault → Type 0) (tables : List Members) (fault : RulesFault) : Type 0 where
  pub before : List Members
  pub table : Members
  pub following : List Members
  pub are : tables ≡ before ++ table ∷ following
  pub are_read : IsOk (each_from read 0 before)
  pub lacks : LacksRoom (length before) table fault

-- a group is, for one of its rules
abbrev pub GroupLacksRoom : ℕ → Members → RulesFault → Type 0
GroupLacksRoom group table = OneLacksRoom (rule_at group) (RuleLacksRoom group) (tables_at (codes "rules") table)

-- a document is whose keys are in order, for one of its groups
abbrev pub DocumentLacksRoom : Members → RulesFault → Type 0
DocumentLacksRoom document fault = (check_keys document ≡ Ok tt) × OneLacksRoom group_at GroupLacksRoom (tables_at (codes "groups") document) fault

-- a text is, for the document that TOML reads it as
abbrev pub LacksRoom : List ℕ → RulesFault → Type 0
LacksRoom text fault = (document : Members) × (parse_document text ≡ Some document) × DocumentLacksRoom document fault

-- a refusal is the fault that is read, or one for lack of room; of memory nothing is said
abbrev pub IsRefused : {Y : Type 0} → OrMemory RulesFault → Result Y RulesFault → (RulesFault → Type 0) → Type 0
IsRefused Memory read Lacks = Unit {0}
IsRefused (Fault fault) read Lacks = (read ≡ Err fault) ⊎ Lacks fault

-- a value is what is read
abbrev pub Reads : {X Y : Type 0} → (X → Y) → Result X (OrMemory RulesFault) → Result Y RulesFault → (RulesFault → Type 0) → Type 0
Reads view (Ok x) read Lacks = read ≡ Ok (view x)
Reads view (Err e) read Lacks = IsRefused e read Lacks
