-- Reading a list one item after the other, as a loop does.
use Rattle.std.specs.Prelude.{◌≡◌, List, [], ◌∷◌, ◌++◌, Result, Ok, Err, refl}
use Rattle.std.proofs.Common.{sym, ap, ◌∙◌, append_assoc, append-nil}
use Rattle.rl_plain.specs.Answers.{◌>>=◌, Fails, with_front}
use Rattle.rl_plain.specs.declared.refusal.OrMemory.{OrMemory}
use Rattle.rl_plain.specs.declared.refusal.OrMemory.TheVariants.{Fault, Memory}

module _ {A F : Type 0} where
  -- an item and those after it
  abbrev pub first_then : Result A F → Result (List A) F → Result (List A) F
  first_then first others = first >>= λ x. others >>= λ xs. Ok (x ∷ xs)

  -- a list and another after it
  abbrev pub both : Result (List A) F → Result (List A) F → Result (List A) F
  both first others = first >>= λ xs. others >>= λ ys. Ok (xs ++ ys)

  pub with_nothing : (read : Result (List A) F) → with_front [] read ≡ read
  with_nothing (Ok xs) = refl
  with_nothing (Err e) = refl

  -- one more was read
  pub one_more : (front : List A) (x : A) (first : Result A F) (others whole : Result (List A) F) → first ≡ Ok x → with_front front (first_then first others) ≡ whole → with_front (front ++ x ∷ []) others ≡ whole
  one_more front x first others whole here so_far = sym (ap (λ r. with_front front (first_then r others)) here ∙ regroup others) ∙ so_far
    where
      regroup : (read : Result (List A) F) → with_front front (read >>= λ xs. Ok (x ∷ xs)) ≡ with_front (front ++ x ∷ []) read
      regroup (Ok xs) = ap (λ ys. Ok ys) (sym (append_assoc front (x ∷ []) xs))
      regroup (Err e) = refl

  -- one was refused
  pub first_fails : (e : OrMemory F) (front : List A) (first : Result A F) (others whole : Result (List A) F) → Fails e first → with_front front (first_then first others) ≡ whole → Fails e whole
  first_fails Memory front first others whole here so_far = tt
  first_fails (Fault f) front first others whole here so_far = sym so_far ∙ ap (λ r. with_front front (first_then r others)) here

  -- none is left
  pub none_left : (front : List A) (whole : Result (List A) F) → with_front front (Ok []) ≡ whole → whole ≡ Ok front
  none_left front whole so_far = sym so_far ∙ ap (λ xs. Ok xs) (append-nil front)

  -- a whole list more was read
  pub both_read : (front grown : List A) (first others whole : Result (List A) F) → with_front front first ≡ Ok grown → with_front front (both first others) ≡ whole → with_front grown others ≡ whole
  both_read front grown first others whole is so_far = sym (together first others is) ∙ so_far
    where
      together : (first others : Result (List A) F) → with_front front first ≡ Ok grown → with_front front (both first others) ≡ with_front grown others
      together (Ok xs) (Ok ys) is = ap (λ zs. Ok zs) (sym (append_assoc front xs ys)) ∙ ap (λ r. r >>= λ zs. Ok (zs ++ ys)) is
      together (Ok xs) (Err e) is = refl
      together (Err e) others is = cc

  -- a whole list was refused
  pub both_fail : (e : OrMemory F) (front : List A) (first others whole : Result (List A) F) → Fails e (with_front front first) → with_front front (both first others) ≡ whole → Fails e whole
  both_fail Memory front first others whole here so_far = tt
  both_fail (Fault f) front first others whole here so_far = sym so_far ∙ refused first here
    where
      refused : (first : Result (List A) F) → with_front front first ≡ Err f → with_front front (both first others) ≡ Err f
      refused (Ok xs) is = cc
      refused (Err e) is = is
