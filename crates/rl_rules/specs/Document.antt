-- Rule files: the groups that a TOML document has, or its lowest fault.
use Rattle.std.specs.Prelude.{ℕ, ◌+◌, nat_lt, Bool, true, false, not, ◌&&◌, ◌||◌, List, [], ◌∷◌, length, Option, None, Some, is_some, option_and_then, unwrap_or, Result, Ok, Err, is_ok, codes, if◌then◌else◌}
use Rattle.std.specs.List.{list_all, list_any}
use Rattle.std.specs.Option.{option_map_or}
use Rattle.toml.specs.Parse.{parse_document}
use Rattle.toml.specs.Data.{Data, array, as_str, as_array, as_table, Items, no_items, item, Members, no_members, member, get_member}
use Rattle.rl_plain.specs.Answers.{◌>>=◌}
use Rattle.rl_labels.specs.LabelSet.{Pair}
use Rattle.rl_labels.specs.Name.{is_text}
use Rattle.rl_labels.specs.Pairs.{labels_from}
use Rattle.rl_query.specs.Form.{QueryForm}
use Rattle.rl_query_text.specs.QueryReading.{query_of}
use Rattle.rl_query.specs.declared.fault.QueryFault.{QueryFault}
use Rattle.rl_rules.specs.Forms.{KeyForm, RuleForm, GroupForm}
use Rattle.rl_rules.specs.RuleNames.{is_metric_name, is_group_name}
use Rattle.rl_rules.specs.Values.{seconds_in, number_in, are_texts, text_at, texts_at, labels_at, kind_of, name_of}
use Rattle.rl_rules.specs.declared.rule.RuleKind.{RuleKind}
use Rattle.rl_rules.specs.declared.rule.RuleKind.TheVariants as rules
use Rattle.rl_rules.specs.declared.shape.Kind.{Kind}
use Rattle.rl_rules.specs.declared.shape.Kind.TheVariants as kinds
use Rattle.rl_rules.specs.declared.shape.Need.{Need}
use Rattle.rl_rules.specs.declared.shape.Need.TheVariants as needs
use Rattle.rl_rules.specs.declared.shape.Test.{Test}
use Rattle.rl_rules.specs.declared.shape.Test.TheVariants as tests
use Rattle.rl_rules.specs.declared.fault.RulesFault.{RulesFault}
use Rattle.rl_rules.specs.declared.fault.RulesFault.TheVariants as faults

-- the shortest interval of a group and the one that it has where it names none, in seconds, and the greatest limit
abbrev pub shortest_interval : ℕ
shortest_interval = 1

abbrev pub usual_interval : ℕ
usual_interval = 60

abbrev pub greatest_limit : ℕ
greatest_limit = 1000000

-- the keys of a document
abbrev pub document_keys : List KeyForm
document_keys =
    record { name = codes "groups"; kind = kinds.Tables; need = needs.Required }
    ∷ []

-- the keys of a group
abbrev pub group_keys : List KeyForm
group_keys =
    record { name = codes "name"; kind = kinds.Text; need = needs.Required }
    ∷ record { name = codes "rules"; kind = kinds.Tables; need = needs.Required }
    ∷ record { name = codes "interval"; kind = kinds.Seconds shortest_interval; need = needs.Optional }
    ∷ record { name = codes "limit"; kind = kinds.Number greatest_limit; need = needs.Optional }
    ∷ []

-- the keys of a recording rule
abbrev pub recording_keys : List KeyForm
recording_keys =
    record { name = codes "record"; kind = kinds.Text; need = needs.Required }
    ∷ record { name = codes "expr"; kind = kinds.Text; need = needs.Required }
    ∷ record { name = codes "labels"; kind = kinds.Texts; need = needs.Optional }
    ∷ []

-- the keys of an alerting rule
abbrev pub alerting_keys : List KeyForm
alerting_keys =
    record { name = codes "alert"; kind = kinds.Text; need = needs.Required }
    ∷ record { name = codes "expr"; kind = kinds.Text; need = needs.Required }
    ∷ record { name = codes "for"; kind = kinds.Seconds 0; need = needs.Optional }
    ∷ record { name = codes "labels"; kind = kinds.Texts; need = needs.Optional }
    ∷ record { name = codes "annotations"; kind = kinds.Texts; need = needs.Optional }
    ∷ []

abbrev pub rule_keys : RuleKind → List KeyForm
rule_keys rules.Recording = recording_keys
rule_keys rules.Alerting = alerting_keys

-- the items of an array, none where there is none
abbrev pub items_in : Option Data → Items
items_in (Some (array items)) = items
items_in _ = no_items

-- the tables of an array
abbrev pub tables_of : Items → List Members
tables_of no_items = []
tables_of (item value items) = option_map_or (λ table. table ∷ tables_of items) (as_table value) (tables_of items)

abbrev pub tables_at : List ℕ → Members → List Members
tables_at key members = tables_of (items_in (get_member key members))

-- each item is a table
abbrev pub are_tables : Items → Bool
are_tables no_items = true
are_tables (item value items) = is_some (as_table value) && are_tables items

-- a value of the kind
abbrev pub is_of : Kind → Data → Bool
is_of kinds.Text value = is_some (as_str value)
is_of kinds.Tables value = option_map_or are_tables (as_array value) false
is_of (kinds.Seconds least) value = is_some (seconds_in least value)
is_of (kinds.Number most) value = is_some (number_in most value)
is_of kinds.Texts value = option_map_or are_texts (as_table value) false

abbrev pub is_optional : Need → Bool
is_optional needs.Required = false
is_optional needs.Optional = true

-- what stands at a key is of its kind
abbrev pub has_kind : Members → KeyForm → Bool
has_kind table key = option_map_or (is_of key.kind) (get_member key.name table) true

-- a key that has to be there is there
abbrev pub has_needed : Members → KeyForm → Bool
has_needed table key = is_optional key.need || is_some (get_member key.name table)

-- what stands at the keys is of their kinds
abbrev pub is_typed : List KeyForm → Members → Bool
is_typed keys table = list_all (has_kind table) keys

-- no other key is there
abbrev pub is_known : List KeyForm → Members → Bool
is_known keys no_members = true
is_known keys (member name value members) = list_any (λ key. is_text key.name name) keys && is_known keys members

-- the keys that have to be there are
abbrev pub is_whole : List KeyForm → Members → Bool
is_whole keys table = list_all (has_needed table) keys

-- the one of these three tests that is asked
abbrev pub passes : Test → List KeyForm → Members → Bool
passes tests.Typed = is_typed
passes tests.Known = is_known
passes tests.Whole = is_whole

-- a test of a table by the keys that it may have holds of a rule, by those of its kind
abbrev pub rule_passes : (List KeyForm → Members → Bool) → Members → Bool
rule_passes test rule = test (rule_keys (kind_of rule)) rule

-- it holds of a group and of each of its rules
abbrev pub group_passes : (List KeyForm → Members → Bool) → Members → Bool
group_passes test group = test group_keys group && list_all (rule_passes test) (tables_at (codes "rules") group)

-- it holds of a document, of each of its groups and of each of their rules
abbrev pub document_passes : (List KeyForm → Members → Bool) → Members → Bool
document_passes test document = test document_keys document && list_all (group_passes test) (tables_at (codes "groups") document)

-- the query of a rule, or its fault with the indexes of the group and of the rule, counted from 0
abbrev pub query_at : ℕ → ℕ → Result QueryForm QueryFault → Result QueryForm RulesFault
query_at group rule (Ok query) = Ok query
query_at group rule (Err fault) = Err (faults.BadQuery group rule fault)

-- for how long a series has to be there, in seconds: not at all where no time is named
abbrev pub hold_of : Members → ℕ
hold_of members = unwrap_or (option_and_then (seconds_in 0) (get_member (codes "for") members)) 0

abbrev pub rule_at : ℕ → ℕ → Members → Result RuleForm RulesFault
rule_at group rule members = do
  query ← query_at group rule (query_of (text_at (codes "expr") members))
  Ok (record { kind = kind_of members; name = name_of members; query = query; labels = texts_at (codes "labels") members; hold = hold_of members; annotations = labels_at (codes "annotations") members })

-- what is read of tables one after the other, each with its index
abbrev pub each_from : {A : Type 0} → (ℕ → Members → Result A RulesFault) → ℕ → List Members → Result (List A) RulesFault
each_from read position [] = Ok []
each_from read position (table ∷ tables) = do
  first ← read position table
  others ← each_from read (position + 1) tables
  Ok (first ∷ others)

-- the interval of a group in seconds, and its limit, 0 where it names none
abbrev pub interval_of : Members → ℕ
interval_of members = unwrap_or (option_and_then (seconds_in shortest_interval) (get_member (codes "interval") members)) usual_interval

abbrev pub limit_of : Members → ℕ
limit_of members = unwrap_or (option_and_then (number_in greatest_limit) (get_member (codes "limit") members)) 0

abbrev pub group_at : ℕ → Members → Result GroupForm RulesFault
group_at group members = do
  rules ← each_from (rule_at group) 0 (tables_at (codes "rules") members)
  Ok (record { name = text_at (codes "name") members; interval = interval_of members; limit = limit_of members; rules = rules })

-- texts that make a label set
abbrev pub make_labels : List Pair → Bool
make_labels texts = is_ok (labels_from texts)

-- a name that a metric may have, or alerts
abbrev pub is_rule_name : RuleKind → List ℕ → Bool
is_rule_name rules.Recording = is_metric_name
is_rule_name rules.Alerting = is_group_name

-- the name of a rule is one of its kind, and its labels and its annotations make sets
abbrev pub rule_is_named_well : Members → Bool
rule_is_named_well rule = is_rule_name (kind_of rule) (name_of rule) && (make_labels (texts_at (codes "labels") rule) && make_labels (texts_at (codes "annotations") rule))

-- the name of a group is one that a group may have, and each of its rules is named well
abbrev pub group_is_named_well : Members → Bool
group_is_named_well group = is_group_name (text_at (codes "name") group) && list_all rule_is_named_well (tables_at (codes "rules") group)

abbrev pub groups_are_named_well : List Members → Bool
groups_are_named_well = list_all group_is_named_well

-- two groups have one name
abbrev pub has_same_group : List GroupForm → Bool
has_same_group [] = false
has_same_group (group ∷ groups) = list_any (λ other. is_text group.name other.name) groups || has_same_group groups

-- the most groups, and the most rules of a group
abbrev pub most_groups : ℕ
most_groups = 64

abbrev pub most_rules : ℕ
most_rules = 256

abbrev pub has_too_many : List GroupForm → Bool
has_too_many groups = nat_lt most_groups (length groups) || list_any (λ group. nat_lt most_rules (length group.rules)) groups

-- what is read, unless a name or a number is refused
abbrev pub checked : Bool → List GroupForm → Result (List GroupForm) RulesFault
checked named groups =
    if not named then Err faults.BadName
    else (if has_same_group groups then Err faults.SameGroup
    else (if has_too_many groups then Err faults.TooMany else Ok groups))

-- the lowest fault of the keys, if they have one
abbrev pub check_keys : Members → Result (Unit {0}) RulesFault
check_keys document =
    if not (document_passes is_typed document) then Err faults.BadToml
    else (if not (document_passes is_known document) then Err faults.UnknownKey
    else (if not (document_passes is_whole document) then Err faults.MissingKey else Ok tt))

-- the groups of a document as if each pattern had room
abbrev pub document_groups : Members → Result (List GroupForm) RulesFault
document_groups document = do
  _ ← check_keys document
  groups ← each_from group_at 0 (tables_at (codes "groups") document)
  checked (groups_are_named_well (tables_at (codes "groups") document)) groups

abbrev pub groups_in : Option Members → Result (List GroupForm) RulesFault
groups_in None = Err faults.BadToml
groups_in (Some document) = document_groups document

-- the groups of a text, as TOML reads it, or its lowest fault
unfoldable pub groups_of : List ℕ → Result (List GroupForm) RulesFault
groups_of text = groups_in (parse_document text)
