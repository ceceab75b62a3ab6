-- What a reader gave, turn by turn.
use Rattle.std.proofs.Common.{◌≡◌, ℕ, ◌+◌, ◌<◌, ◌≤◌, ◌⊎◌, inl, inr, List, [], ◌∷◌, ◌++◌, length, Option, None, Some, Err, sym, ap, subst, ◌∙◌, arith, append_assoc, length-append}
use Rattle.std.specs.List.{concat}
use Rattle.std.specs.Io.KnownBytes.{Consumes, Keeps}
use Rattle.std.proofs.lemmas.List.{append-nil}
use Rattle.rl_plain.specs.declared.refusal.OrMemory.{OrMemory}
use Rattle.rl_plain.specs.declared.refusal.OrMemory.TheVariants as errors
use Rattle.rl_session.specs.Reading.{Reads, GivesOne}
use Rattle.rl_session.specs.declared.front.fault.FrontFault.{FrontFault}
use Rattle.rl_session.specs.declared.front.fault.FrontFault.TheVariants as faults

-- one piece after another
Consumes-trans : (o m n : Option (List ℕ)) (f g : List ℕ) → Consumes o m f → Consumes m n g → Consumes o n (f ++ g)
Consumes-trans None m n f g a b = tt
Consumes-trans (Some xs) None n f g a b = absurd a
Consumes-trans (Some xs) (Some ys) None f g a b = absurd b
Consumes-trans (Some xs) (Some ys) (Some zs) f g a b = a ∙ ap (λ l. f ++ l) b ∙ sym (append_assoc f g zs)

Consumes-kept : (o n : Option (List ℕ)) → Keeps o n → Consumes o n []
Consumes-kept None n k = tt
Consumes-kept (Some xs) None k = absurd k
Consumes-kept (Some xs) (Some ys) k = sym k

concat-one : (pieces : List (List ℕ)) (piece : List ℕ) → concat (pieces ++ piece ∷ []) ≡ concat pieces ++ piece
concat-one [] piece = append-nil piece
concat-one (first ∷ pieces) piece = ap (λ l. first ++ l) (concat-one pieces piece) ∙ sym (append_assoc first (concat pieces) piece)

-- `turns` turns gave these bytes
pub record Gathered (old new : Option (List ℕ)) (turns : ℕ) (bytes : List ℕ) : Type 0 where
  pub pieces : List (List ℕ)
  pub each : length pieces ≡ turns
  pub taken : Consumes old new (concat pieces)
  pub whole : bytes ≡ concat pieces

-- one turn more
pub Gathered-turn : (o m n : Option (List ℕ)) (turns : ℕ) (bytes piece after : List ℕ) → Gathered o m turns bytes → Consumes m n piece → after ≡ bytes ++ piece → Gathered o n (turns + 1) after
Gathered-turn o m n turns bytes piece after g took grown = record {
  pieces = g.pieces ++ piece ∷ [];
  each = omega (arith, g.each, length-append g.pieces (piece ∷ []));
  taken = subst (Consumes o n) (sym (concat-one g.pieces piece)) (Consumes-trans o m n (concat g.pieces) piece g.taken took);
  whole = grown ∙ ap (λ l. l ++ piece) g.whole ∙ sym (concat-one g.pieces piece);
}

-- more bytes than may be
pub Reads-more : (most : ℕ) (o n : Option (List ℕ)) (turns : ℕ) (bytes : List ℕ) → Gathered o n turns bytes → turns ≤ most → most < length bytes → Reads most o n (Err faults.TooLong)
Reads-more most o n turns bytes g room more = (g.pieces, omega (arith, g.each), g.taken, inl (omega (arith, more, ap length g.whole)))

-- a turn that failed
Reads-failed : (most : ℕ) (o m n : Option (List ℕ)) (turns : ℕ) (bytes : List ℕ) → Gathered o m turns bytes → turns < most → length bytes ≤ most → Keeps m n → Reads most o n (Err faults.ReadFault)
Reads-failed most o m n turns bytes g room fits kept =
    let last = Gathered-turn o m n turns bytes [] bytes g (Consumes-kept m n kept) (sym (append-nil bytes)) in
    (last.pieces, omega (arith, last.each), last.taken, omega (arith, fits, ap length last.whole))

-- a turn without an answer
pub GivesOne-failed : {X : Type 0} (view : X → List ℕ) (most : ℕ) (o m n : Option (List ℕ)) (turns : ℕ) (bytes : List ℕ) (error : OrMemory FrontFault) → Gathered o m turns bytes → turns < most → length bytes ≤ most
    → (error ≡ errors.Memory) ⊎ ((error ≡ errors.Fault faults.ReadFault) × Keeps m n) → GivesOne view (Reads most o n) (Err error)
GivesOne-failed view most o m n turns bytes error g room fits (inl memory) = subst (λ e. GivesOne view (Reads most o n) (Err e)) (sym memory) tt
GivesOne-failed view most o m n turns bytes error g room fits (inr failed) = subst (λ e. GivesOne view (Reads most o n) (Err e)) (sym failed.0) (Reads-failed most o m n turns bytes g room fits failed.1)
