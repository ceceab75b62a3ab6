-- The labels that a stream's line has after a parser.
use Rattle.std.specs.Prelude.{ℕ, List, codes}
use Rattle.std.specs.Option.{option_map_or}
use Rattle.rl_labels.specs.LabelSet.{LabelSet}
use Rattle.rl_query.specs.declared.stages.Parser.{Parser}
use Rattle.rl_query.specs.declared.stages.Parser.TheVariants.{Json, Logfmt}
use Rattle.rl_pipeline.specs.Extracting.{with_pairs, with_error}
use Rattle.rl_pipeline.specs.JsonLeaves.{json_leaves}
use Rattle.rl_pipeline.specs.LogfmtPairs.{logfmt_pairs}

-- a line that is no JSON object has an error
abbrev pub json_labels : LabelSet → (line : List ℕ) → LabelSet
json_labels labels line = option_map_or (with_pairs labels labels) (json_leaves line) (with_error labels (codes "JSONParserErr"))

abbrev pub logfmt_labels : LabelSet → (line : List ℕ) → LabelSet
logfmt_labels labels line = with_pairs labels labels (logfmt_pairs line)

abbrev pub parsed : Parser → LabelSet → (line : List ℕ) → LabelSet
parsed Json = json_labels
parsed Logfmt = logfmt_labels
