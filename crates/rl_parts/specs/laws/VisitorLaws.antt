-- What visitors become by lines, and what holds of two lists item by item.
use Rattle.std.specs.Prelude.{◌≡◌, List, [], ◌∷◌, ◌++◌}
use Rattle.std.proofs.Common.{sym, ◌∙◌, append-nil, append_assoc}
use Rattle.std.specs.List.{AllZip, fold}

-- a list to which each line is appended has all of them after what it had
pub fold-pushed : {A : Type 0} (xs ys : List A) → fold (λ lines line. lines ++ line ∷ []) xs ys ≡ xs ++ ys
fold-pushed xs [] = sym (append-nil xs)
fold-pushed xs (y ∷ ys) = fold-pushed (xs ++ y ∷ []) ys ∙ append_assoc xs (y ∷ []) ys

-- what holds of two pairs of lists holds of the one appended to the other
pub AllZip-append : {A B : Type 0} (R : A → B → Type 0) (xs : List A) (us : List B) (ys : List A) (vs : List B) → AllZip R xs us → AllZip R ys vs → AllZip R (xs ++ ys) (us ++ vs)
AllZip-append R [] [] ys vs h k = k
AllZip-append R [] (u ∷ us) ys vs h k = absurd h
AllZip-append R (x ∷ xs) [] ys vs h k = absurd h
AllZip-append R (x ∷ xs) (u ∷ us) ys vs h k = (h.0, AllZip-append R xs us ys vs h.1 k)
