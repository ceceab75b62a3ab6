-- What a log entry may have.
use Rattle.std.specs.Prelude.{ℕ, ◌==◌, nat_le, Bool, not, ◌&&◌, length}
use Rattle.rl_labels.specs.LabelSet.{LabelSet, labels_of}
use Rattle.rl_labels.specs.LabelText.{canonical_text}
use Rattle.rl_labels.specs.Pairs.{names_are_good, longest_text}

-- labels such as those of pairs: no pipeline set one of them, and their text is short enough
abbrev pub are_stream_labels : LabelSet → Bool
are_stream_labels labels = names_are_good (labels_of labels) && nat_le (length (canonical_text labels)) longest_text

abbrev pub has_no_label : LabelSet → Bool
has_no_label labels = length (labels_of labels) == 0

-- a stream has such labels, and at least one
abbrev pub is_stream : LabelSet → Bool
is_stream labels = are_stream_labels labels && not (has_no_label labels)

-- the longest line, in bytes
abbrev pub longest_line : ℕ
longest_line = 65535
