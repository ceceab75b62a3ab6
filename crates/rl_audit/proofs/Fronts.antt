-- What holds of each item of a list, item by item.
use Rattle.std.proofs.Common.{◌≡◌, ℕ, ◌+◌, ◌<◌, List, [], ◌∷◌, ◌++◌, length, take, get_or, sym, ap, subst, ◌∙◌}
use Rattle.std.proofs.lemmas.List.{take_more}
use Rattle.std.specs.List.{AllByRecursion}

all_push : {X : Type 0} (P : X → Type 0) (xs : List X) (x : X) → AllByRecursion P xs → P x → AllByRecursion P (xs ++ x ∷ [])
all_push P [] x all holds = (holds, tt)
all_push P (y ∷ xs) x all holds = (all.0, all_push P xs x all.1 holds)

-- of the item at an index too
pub all_more : {X : Type 0} (P : X → Type 0) (xs : List X) (n : ℕ) (x : X) → n < length xs → x ≡ get_or xs n x → AllByRecursion P (take n xs) → P x → AllByRecursion P (take (n + 1) xs)
all_more P xs n x below is all holds =
    subst (AllByRecursion P) (sym (take_more xs n x below ∙ ap (λ y. take n xs ++ y ∷ []) (sym is))) (all_push P (take n xs) x all holds)
