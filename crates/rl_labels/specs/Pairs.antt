-- What `Labels::from_pairs` answers.
use Rattle.std.specs.Prelude.{ℕ, Bool, not, nat_lt, List, length, Result, Ok, Err, if◌then◌else◌}
use Rattle.std.specs.List.{list_all, list_any, count_by}
use Rattle.rl_labels.specs.Name.{is_text, is_stream_name}
use Rattle.rl_labels.specs.LabelSet.{Pair, LabelSet, label_set_of}
use Rattle.rl_labels.specs.LabelText.{canonical_text}
use Rattle.rl_labels.specs.declared.labels.LabelsFault.{LabelsFault}
use Rattle.rl_labels.specs.declared.labels.LabelsFault.TheVariants.{BadName, SameName, TooLong}

-- each name is one that a stream may have
abbrev pub names_are_good : List Pair → Bool
names_are_good = list_all (λ pair. is_stream_name pair.0)

-- how many of the pairs have the name
abbrev pub times_named : List ℕ → List Pair → ℕ
times_named name = count_by (λ pair. is_text pair.0 name)

-- some name is that of two pairs
abbrev pub has_same_name : List Pair → Bool
has_same_name pairs = list_any (λ pair. nat_lt 1 (times_named pair.0 pairs)) pairs

-- the longest canonical text of a stream, in bytes
abbrev pub longest_text : ℕ
longest_text = 4096

-- the label set of the pairs, or the first fault that they have
unfoldable pub labels_from : List Pair → Result LabelSet LabelsFault
labels_from pairs =
    if not (names_are_good pairs) then Err BadName
    else (if has_same_name pairs then Err SameName
    else (if nat_lt longest_text (length (canonical_text (label_set_of pairs))) then Err TooLong
    else Ok (label_set_of pairs)))
