-- Pairs one after the other.
use Rattle.std.proofs.Common.{◌≡◌, List, [], ◌∷◌, ◌++◌, refl}
use Rattle.rl_labels.specs.LabelSet.{LabelSet, Pair}
use Rattle.rl_pipeline.specs.Extracting.{with_pair, with_pairs}

pub with_more : (stream labels : LabelSet) (pairs others : List Pair) → with_pairs stream labels (pairs ++ others) ≡ with_pairs stream (with_pairs stream labels pairs) others
with_more stream labels [] others = refl
with_more stream labels (pair ∷ pairs) others = with_more stream (with_pair stream labels pair) pairs others
