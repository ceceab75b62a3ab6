-- Keys, rules and groups as definitions speak of them, without the facts that their types keep.
use Rattle.std.specs.Prelude.{ℕ, List, map}
use Rattle.rl_labels.specs.LabelSet.{Pair, LabelSet}
use Rattle.rl_query.specs.Form.{QueryForm, query_form}
use Rattle.rl_rules.specs.declared.rule.Group.{Group}
use Rattle.rl_rules.specs.declared.rule.Rule.{Rule}
use Rattle.rl_rules.specs.declared.rule.RuleKind.{RuleKind}
use Rattle.rl_rules.specs.declared.shape.Key.{Key}
use Rattle.rl_rules.specs.declared.shape.Kind.{Kind}
use Rattle.rl_rules.specs.declared.shape.Need.{Need}

-- a key that a table may have, with what stands there and whether it has to be there
pub record KeyForm : Type 0 where
  pub name : List ℕ
  pub kind : Kind
  pub need : Need

pub record RuleForm : Type 0 where
  pub kind : RuleKind
  pub name : List ℕ
  pub query : QueryForm
  pub labels : List Pair
  pub hold : ℕ
  pub annotations : LabelSet

pub record GroupForm : Type 0 where
  pub name : List ℕ
  pub interval : ℕ
  pub limit : ℕ
  pub rules : List RuleForm

abbrev pub key_form : Key → KeyForm
key_form key = record { name = key.0.now; kind = key.1; need = key.2 }

abbrev pub rule_form : Rule → RuleForm
rule_form rule = record { kind = rule.kind; name = rule.name; query = query_form rule.query; labels = rule.labels; hold = rule.hold; annotations = rule.annotations }

abbrev pub group_form : Group → GroupForm
group_form group = record { name = group.name; interval = group.interval; limit = group.limit; rules = map rule_form group.rules }
