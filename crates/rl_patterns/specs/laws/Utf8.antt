-- The bytes of a text are below 256.
use Rattle.std.specs.Prelude.{◌≡◌, ℕ, zero, suc, ◌<◌, true, List, [], ◌∷◌, ◌++◌, get_or, IsUtf8}
use Rattle.std.proofs.Common.{sym, subst, arith}
use Rattle.std.proofs.lemmas.Bool.{and_parts}
use Rattle.std.below.core.proofs.str.Laws.{Shape, shape, of1, of2, of3, of4}
use lib.Utf8.{scalar, scalars, scalar_cases, encode, encodes}

abbrev AreBytes : List ℕ → Type 0
AreBytes bytes = (k : ℕ) → get_or bytes k 0 < 256

onto : (byte : ℕ) (rest : List ℕ) → byte < 256 → AreBytes rest → AreBytes (byte ∷ rest)
onto byte rest fits all zero = fits
onto byte rest fits all (suc k) = all k

before : (c : ℕ) (rest : List ℕ) → Shape c → AreBytes rest → AreBytes (encode c ++ rest)
before c rest (of1 h e) all = subst (λ (l : List ℕ). AreBytes (l ++ rest)) (sym e) (onto c rest (omega arith) all)
before c rest (of2 a b l h f s e) all =
    subst (λ (l : List ℕ). AreBytes (l ++ rest)) (sym e) (onto a (b ∷ rest) (omega arith) (onto b rest (omega arith) all))
before c rest (of3 a b d l h f g s e) all =
    subst (λ (l : List ℕ). AreBytes (l ++ rest)) (sym e)
    (onto a (b ∷ d ∷ rest) (omega arith) (onto b (d ∷ rest) (omega arith) (onto d rest (omega arith) all)))
before c rest (of4 a b d x l h f g k s e) all =
    subst (λ (l : List ℕ). AreBytes (l ++ rest)) (sym e)
    (onto a (b ∷ d ∷ x ∷ rest) (omega arith) (onto b (d ∷ x ∷ rest) (omega arith) (onto d (x ∷ rest) (omega arith) (onto x rest (omega arith) all))))

encodes-AreBytes : (cs : List ℕ) → scalars cs ≡ true → AreBytes (encodes cs)
encodes-AreBytes [] h = λ k. omega arith
encodes-AreBytes (c ∷ cs) h =
    let parts = and_parts (scalar c) (scalars cs) h in
    before c (encodes cs) (shape c (scalar_cases c parts.0)) (encodes-AreBytes cs parts.1)

pub utf8_bytes : (text : List ℕ) → IsUtf8 text → (k : ℕ) → get_or text k 0 < 256
utf8_bytes text (cs, (h, e)) = subst AreBytes e (encodes-AreBytes cs h)
