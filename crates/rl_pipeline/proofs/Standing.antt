-- A search for a text finds it exactly where it stands in the line.
use Rattle.std.proofs.Common.{◌≡◌, ◌+◌, ℕ, zero, suc, true, nat_eq, slice_index, List, [], ◌∷◌, Option, Some, None, is_some, length, length-take, take, sym, ap, ◌∙◌, arith, ⊎_elim}
use Rattle.std.specs.List.{starts_with}
use Rattle.std.proofs.lemmas.Bool.{cases_Bool, or_cases, or_left, or_right, eq-eqb, eqb-true}
use Rattle.std.proofs.lemmas.Slice.Eq.{bytes_eq-Decides}
use Rattle.memchr.specs.Find.{OccursAt, FindsNeedle}
use Rattle.memchr.proofs.lemmas.MatchLemmas.{OccursAt-part, OccursAt-from_part}
use Rattle.rl_pipeline.specs.Filtering.{stands_in}

-- an offset after the first byte
at_suc : (byte : ℕ) (bytes : List ℕ) (k j : ℕ) → slice_index bytes (k + j) ≡ slice_index (byte ∷ bytes) (suc k + j)
at_suc byte bytes k j = let same : suc (k + j) ≡ suc k + j = omega arith in ap (λ m. slice_index (byte ∷ bytes) m) same

-- a text that occurs at some offset stands in the line
stands : (text line : List ℕ) (k : ℕ) → OccursAt line text k → stands_in text line ≡ true
stands text [] k at = eq-eqb (length text) 0 (let fits = at.fits in omega arith)
stands text (byte ∷ bytes) zero at = or_left _ _ ((bytes_eq-Decides text _).1 (sym (OccursAt-part (byte ∷ bytes) text 0 at)))
stands text (byte ∷ bytes) (suc k) at =
    let fits = at.fits in
    let later : OccursAt bytes text k = record { fits = omega arith; reads = λ j below. at_suc byte bytes k j ∙ at.reads j below } in
    or_right (starts_with nat_eq (byte ∷ bytes) text) _ (stands text bytes k later)

-- and one that stands there occurs at some offset
occurs : (text line : List ℕ) → stands_in text line ≡ true → (k : ℕ) × OccursAt line text k
occurs text [] is =
    let empty : length text ≡ 0 = eqb-true (length text) 0 is in
    (0, record { fits = omega arith; reads = λ j below. absurd (omega arith) })
occurs text (byte ∷ bytes) is = ⊎_elim
    (λ begins.
    let same : text ≡ take (length text) (byte ∷ bytes) = (bytes_eq-Decides text _).0 begins in
    (0, OccursAt-from_part (byte ∷ bytes) text 0 (let short = ap length same in omega (arith, length-take (length text) (byte ∷ bytes))) (sym same)))
    (λ stands_later.
    let (k, at) = occurs text bytes stands_later in
    (suc k, record { fits = let fits = at.fits in omega arith; reads = λ j below. sym (at_suc byte bytes k j) ∙ at.reads j below }))
    (or_cases (starts_with nat_eq (byte ∷ bytes) text) (stands_in text bytes) is)

-- a search says whether the text stands in the line
pub found : (text line : List ℕ) (r : Option ℕ) → FindsNeedle line text 0 r → is_some r ≡ stands_in text line
found text line (Some k) (first, at) = sym (stands text line k at)
found text line None nowhere = ⊎_elim
    (λ is.
    let (k, at) = occurs text line is in
    let fits = at.fits in
    absurd (nowhere k (omega arith) (omega arith) at))
    sym (cases_Bool (stands_in text line))
