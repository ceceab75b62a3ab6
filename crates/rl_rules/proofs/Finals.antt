-- Label sets with their final ones.
use Rattle.std.proofs.Common.{◌≡◌, ℕ, zero, suc, ◌<◌, List, [], ◌∷◌, ◌++◌, length, get_or, take, arith}
use Rattle.rl_labels.specs.LabelSet.{LabelSet}
use Rattle.rl_rules.specs.Naming.{Naming, AreFinal, final_by}

pub final_more : (naming : Naming) (pairs : List (LabelSet × LabelSet)) (pair : LabelSet × LabelSet) → AreFinal naming pairs → pair.1 ≡ final_by naming pair.0 → AreFinal naming (pairs ++ pair ∷ [])
final_more naming [] pair are is = (is, tt)
final_more naming (p ∷ pairs) pair are is = (are.0, final_more naming pairs pair are.1 is)

pub final_at : (naming : Naming) (pairs : List (LabelSet × LabelSet)) (i : ℕ) (d : LabelSet × LabelSet) → AreFinal naming pairs → i < length pairs → (get_or pairs i d).1 ≡ final_by naming (get_or pairs i d).0
final_at naming [] i d are lt = absurd (omega (arith, lt))
final_at naming (p ∷ pairs) zero d are lt = are.0
final_at naming (p ∷ pairs) (suc i) d are lt = final_at naming pairs i d are.1 (omega (arith, lt))

pub final_take : (naming : Naming) (pairs : List (LabelSet × LabelSet)) (n : ℕ) → AreFinal naming pairs → AreFinal naming (take n pairs)
final_take naming [] zero are = tt
final_take naming [] (suc n) are = tt
final_take naming (p ∷ pairs) zero are = tt
final_take naming (p ∷ pairs) (suc n) are = (are.0, final_take naming pairs n are.1)
