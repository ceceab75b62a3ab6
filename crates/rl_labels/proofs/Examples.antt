-- What no running code shows: which lists are labels, and which sets are streams.
use Rattle.std.specs.Prelude.{◌≡◌, nat_le, true, false, not, ◌&&◌, ◌==◌, [], ◌∷◌, codes, length, refl}
use Rattle.std.proofs.Common.{ap}
use Rattle.rl_labels.specs.EntryParts.{is_stream}
use Rattle.rl_labels.specs.laws.LabelLaws.{labels_of-label_set_of}
use Rattle.rl_labels.specs.LabelSet.{are_labels, label_set_of}
use Rattle.rl_labels.specs.LabelText.{labels_text, canonical_text}
use Rattle.rl_labels.specs.Pairs.{names_are_good, longest_text}

labels_by_rising_name : are_labels ((codes "a", codes "x") ∷ (codes "b", codes "y") ∷ []) ≡ true
labels_by_rising_name = refl

no_labels_by_falling_name : are_labels ((codes "b", codes "y") ∷ (codes "a", codes "x") ∷ []) ≡ false
no_labels_by_falling_name = refl

no_labels_with_one_name_twice : are_labels ((codes "a", codes "x") ∷ (codes "a", codes "y") ∷ []) ≡ false
no_labels_with_one_name_twice = refl

no_labels_with_an_empty_value : are_labels ((codes "a", []) ∷ []) ≡ false
no_labels_with_an_empty_value = refl

no_stream_with_an_error : is_stream (label_set_of ((codes "__error__", codes "e") ∷ [])) ≡ false
unfolding canonical_text
no_stream_with_an_error = ap (λ es. (names_are_good es && nat_le (length (labels_text es)) longest_text) && not (length es == 0)) (labels_of-label_set_of ((codes "__error__", codes "e") ∷ []) refl)
