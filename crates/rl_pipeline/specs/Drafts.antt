-- The labels of a line on its way through stages.
use Rattle.rl_labels.specs.LabelSet.{LabelSet}
use Rattle.rl_pipeline.specs.declared.draft.Form.{Form}
use Rattle.rl_pipeline.specs.declared.draft.Form.TheVariants.{Stream, Parsed, Own}

abbrev pub labels_in : Form → LabelSet
labels_in (Stream labels) = labels.now
labels_in (Parsed found) = found.now
labels_in (Own own) = own
