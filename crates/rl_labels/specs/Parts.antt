-- How a label set is held: its labels by rising name, and its canonical text.
use Rattle.std.specs.Prelude.{◌≡◌, IsTrue}
use Rattle.rl_labels.specs.LabelSet.{LabelSet, are_labels, label_set_of}
use Rattle.rl_labels.specs.LabelText.{labels_text}
use Rattle.rl_labels.specs.declared.labels.Labels.TheInside.{Inside}

abbrev pub set_of : Inside → LabelSet
set_of inside = label_set_of inside.parts.labels

-- the labels are in order, and the text is theirs
pub record AreParts (inside : Inside) : Type 0 where
  pub in_order : IsTrue (are_labels inside.parts.labels)
  pub text_is : inside.parts.text ≡ labels_text inside.parts.labels
