-- Members as texts, one after the other.
use Rattle.std.proofs.Common.{◌≡◌, List, [], ◌∷◌, ◌++◌, refl, ap}
use Rattle.json.specs.Json as json
use Rattle.rl_labels.specs.LabelSet.{Pair}
use Rattle.rl_session.specs.KnownLabels.{texts_view}

-- such members before others
abbrev pub texts_before : List Pair → json.Members → json.Members
texts_before [] rest = rest
texts_before (pair ∷ pairs) rest = json.member pair.0 (json.string pair.1) (texts_before pairs rest)

-- one more of them
pub texts_more : (pairs : List Pair) (pair : Pair) (rest : json.Members) → texts_before (pairs ++ pair ∷ []) rest ≡ texts_before pairs (json.member pair.0 (json.string pair.1) rest)
texts_more [] pair rest = refl
texts_more (first ∷ pairs) pair rest = ap (json.member first.0 (json.string first.1)) (texts_more pairs pair rest)

-- all of them
pub texts_all : (pairs : List Pair) → texts_before pairs json.no_members ≡ texts_view pairs
texts_all [] = refl
texts_all (pair ∷ pairs) = ap (json.member pair.0 (json.string pair.1)) (texts_all pairs)
