-- What stands at the keys of a rule file: durations, whole numbers, tables of texts, and the name of a rule.
use Rattle.std.specs.Result.{result_unwrap_or}
use Rattle.std.specs.Prelude.{ℕ, ◌==◌, nat_le, Bool, true, ◌&&◌, List, [], ◌∷◌, length, Option, None, Some, is_some, option_and_then, pos, codes, if◌then◌else◌}
use Rattle.toml.specs.Data.{Data, string, integer, table, as_str, get_member, Members, no_members, member}
use Rattle.rl_labels.specs.LabelSet.{Pair, LabelSet, no_labels}
use Rattle.rl_labels.specs.Name.{is_text}
use Rattle.rl_labels.specs.Pairs.{labels_from}
use Rattle.rl_query.specs.Durations.{duration_of}
use Rattle.rl_query.specs.Limits.{longest_range}
use Rattle.rl_rules.specs.declared.rule.RuleKind.{RuleKind}
use Rattle.rl_rules.specs.declared.rule.RuleKind.TheVariants as kinds

-- the number, if it is one of those from the least to the most
abbrev pub within : ℕ → ℕ → ℕ → Option ℕ
within least most number = if nat_le least number && nat_le number most then Some number else None

-- the seconds of a text: 0, or at least one part of digits and a unit
abbrev pub seconds_of : List ℕ → Option ℕ
seconds_of text =
    if is_text text (codes "0") then Some 0
    else (if length text == 0 then None else duration_of text)

-- the seconds that a value is, from the least up to 30 days
abbrev pub seconds_in : ℕ → Data → Option ℕ
seconds_in least (string text) = option_and_then (within least longest_range) (seconds_of text)
seconds_in least _ = None

-- the whole number that a value is, up to the most
abbrev pub number_in : ℕ → Data → Option ℕ
number_in most (integer (pos number)) = within 0 most number
number_in most _ = None

-- each value is a text
abbrev pub are_texts : Members → Bool
are_texts no_members = true
are_texts (member name value members) = is_some (as_str value) && are_texts members

-- the text that a value is, empty where it is none
abbrev pub text_in : Option Data → List ℕ
text_in (Some (string text)) = text
text_in _ = []

-- the texts of a table with their keys, by rising key
abbrev pub texts_of : Members → List Pair
texts_of no_members = []
texts_of (member name value members) = (name, text_in (Some value)) ∷ texts_of members

-- the members of a table, none where there is none
abbrev pub members_in : Option Data → Members
members_in (Some (table members)) = members
members_in _ = no_members

abbrev pub text_at : List ℕ → Members → List ℕ
text_at key members = text_in (get_member key members)

abbrev pub texts_at : List ℕ → Members → List Pair
texts_at key members = texts_of (members_in (get_member key members))

-- the label set that the texts at a key make, the empty one where they make none
abbrev pub labels_at : List ℕ → Members → LabelSet
labels_at key members = result_unwrap_or (labels_from (texts_at key members)) no_labels

-- a rule with the key record is a recording rule
abbrev pub kind_of : Members → RuleKind
kind_of rule = if is_some (get_member (codes "record") rule) then kinds.Recording else kinds.Alerting

-- the key at which its name stands
abbrev pub name_key : RuleKind → List ℕ
name_key kinds.Recording = codes "record"
name_key kinds.Alerting = codes "alert"

abbrev pub name_of : Members → List ℕ
name_of rule = text_at (name_key (kind_of rule)) rule
