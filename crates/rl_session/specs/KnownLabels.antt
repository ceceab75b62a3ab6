-- The label sets of objects whose values are texts.
use Rattle.std.specs.Prelude.{List, [], ◌∷◌, Result}
use Rattle.json.specs.Json as json
use Rattle.serde_json.specs.Data.{no_members}
use Rattle.rl_json.specs.JsonData.{members_data}
use Rattle.rl_labels.specs.LabelSet.{LabelSet, Pair}
use Rattle.rl_session.specs.PushBody.{labels_in}
use Rattle.rl_session.specs.declared.push.PushFault.{PushFault}

-- members with these names and texts, as they stand in a document
abbrev pub texts_view : List Pair → json.Members
texts_view [] = json.no_members
texts_view (pair ∷ pairs) = json.member pair.0 (json.string pair.1) (texts_view pairs)

-- the labels of an object with such members
abbrev pub labels_of_texts : List Pair → Result LabelSet PushFault
labels_of_texts pairs = labels_in (members_data (texts_view pairs) no_members)
