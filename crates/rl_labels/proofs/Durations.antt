-- A duration part by part.
use Rattle.std.proofs.Common.{◌≡◌, ◌==◌, ℕ, zero, suc, ◌+◌, ◌<◌, true, false, List, [], ◌∷◌, ◌++◌, length, Option, Some, None, refl, sym, ap, ◌∙◌, append_assoc, length-append, arith}
use Rattle.std.specs.Option.{option_map, option_and_then}
use Rattle.std.proofs.lemmas.Bool.{eqb-true, eqb-false}
use Rattle.rl_labels.specs.declared.duration.DurationPart.{DurationPart}
use Rattle.rl_labels.specs.Quantities.{part_at, part_then, parts_of, duration_of}

-- at most `left` parts are left to read, after those so far
pub record Left (text : List ℕ) (parts : List DurationPart) (left : ℕ) (rest : List ℕ) : Type 0 where
  pub read : option_map (λ others. parts ++ others) (parts_of left rest) ≡ duration_of text
  pub fit : length parts + left ≡ 8

-- nothing was read yet
pub all_left : (text : List ℕ) → Left text [] 8 text
unfolding duration_of
all_left text = record { read = whole (parts_of 8 text); fit = refl }
  where
    whole : (read : Option (List DurationPart)) → option_map (λ others. [] ++ others) read ≡ read
    whole (Some parts) = refl
    whole None = refl

-- the last part
pub last_there : (text : List ℕ) (parts : List DurationPart) (left : ℕ) (rest following : List ℕ) (part : DurationPart) → Some (part, following) ≡ part_at rest → (length following == 0) ≡ true → 0 < left → Left text parts left rest → duration_of text ≡ Some (parts ++ part ∷ [])
last_there text parts zero rest following part is last some so_far = absurd (omega (arith, some))
last_there text parts (suc left) rest [] part is last some so_far = sym so_far.read ∙ ap (λ first. option_map (λ others. parts ++ others) (option_and_then (part_then (parts_of left)) first)) (sym is)
last_there text parts (suc left) rest (byte ∷ bytes) part is last some so_far = let none : length (byte ∷ bytes) ≡ 0 = eqb-true _ 0 last in absurd (omega (arith, none))

-- a part, and more after it
pub part_there : (text : List ℕ) (parts : List DurationPart) (left : ℕ) (rest following : List ℕ) (part : DurationPart) → Some (part, following) ≡ part_at rest → (length following == 0) ≡ false → Left text parts (suc left) rest → Left text (parts ++ part ∷ []) left following
part_there text parts left rest [] part is more so_far = absurd (eqb-false 0 0 more refl)
part_there text parts left rest (byte ∷ bytes) part is more so_far = record {
  read = regroup (parts_of left (byte ∷ bytes)) ∙ ap (λ first. option_map (λ others. parts ++ others) (option_and_then (part_then (parts_of left)) first)) is ∙ so_far.read;
  fit = omega (arith, length-append parts (part ∷ []), so_far.fit);
}
  where
    regroup : (read : Option (List DurationPart)) → option_map (λ others. (parts ++ part ∷ []) ++ others) read ≡ option_map (λ others. parts ++ others) (option_map (λ others. part ∷ others) read)
    regroup (Some others) = ap (λ all. Some all) (append_assoc parts (part ∷ []) others)
    regroup None = refl
