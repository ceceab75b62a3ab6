-- Lines as pipelines see them.
use Rattle.std.specs.Prelude.{ℕ, List, refl}
use Rattle.std.specs.Coded.{Coded, code_by, coded×, coded_list, coded_ℕ}
use Rattle.rl_labels.specs.LabelSet.{LabelSet, label_set_code}

-- a line and the labels of its stream
pub record StreamLine : Type 0 where
  pub labels : LabelSet
  pub text : List ℕ

-- as a pair, for a store
abbrev pub line_code : Coded StreamLine
line_code = code_by (LabelSet × List ℕ) (coded× label_set_code (coded_list coded_ℕ)) (λ line. (line.labels, line.text)) (λ p. record { labels = p.0; text = p.1 }) (λ _. refl)
