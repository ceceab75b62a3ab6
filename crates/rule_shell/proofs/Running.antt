-- Lists of callers that are made of passes, one after the other, and of passes that are taken back.
use Rattle.std.proofs.Common.{◌≡◌, ◌∙◌, ℕ, List, [], ◌∷◌, ◌++◌, map, length, refl, ap, sym, arith}
use Rattle.std.specs.List.{AllZip}
use Rattle.std.proofs.lemmas.List.{append-nil, append_assoc}

pub map_twice : {A B C : Type 0} (f : B → C) (g : A → B) (xs : List A) → map (λ x. f (g x)) xs ≡ map f (map g xs)
map_twice f g [] = refl
map_twice f g (x ∷ xs) = ap (λ ys. f (g x) ∷ ys) (map_twice f g xs)

pub map_more : {A B : Type 0} (f : A → B) (xs : List A) (x : A) → map f (xs ++ x ∷ []) ≡ map f xs ++ f x ∷ []
map_more f [] x = refl
map_more f (y ∷ ys) x = ap (λ zs. f y ∷ zs) (map_more f ys x)

pub zip_more : {A B : Type 0} (R : A → B → Type 0) (xs : List A) (ys : List B) (x : A) (y : B) → AllZip R xs ys → R x y → AllZip R (xs ++ x ∷ []) (ys ++ y ∷ [])
zip_more R [] [] x y all one = (one, tt)
zip_more R [] (b ∷ ys) x y all one = absurd all
zip_more R (a ∷ xs) [] x y all one = absurd all
zip_more R (a ∷ xs) (b ∷ ys) x y all one = (all.0, zip_more R xs ys x y all.1 one)

-- one that was left was yielded
pub one_yielded : {A : Type 0} (yielded left all rest : List A) (x : A) → yielded ++ left ≡ all → left ≡ x ∷ rest → (yielded ++ x ∷ []) ++ rest ≡ all
one_yielded yielded left all rest x split next = append_assoc yielded (x ∷ []) rest ∙ ap (λ xs. yielded ++ xs) (sym next) ∙ split

-- where none is left, all were yielded
pub all_yielded : {A : Type 0} (yielded left all : List A) → yielded ++ left ≡ all → length left ≡ 0 → yielded ≡ all
all_yielded yielded [] all split none = sym (append-nil yielded) ∙ split
all_yielded yielded (x ∷ left) all split none = absurd (omega (arith, none))
