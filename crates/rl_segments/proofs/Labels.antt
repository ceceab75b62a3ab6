-- Label sets that are read from texts.
use Rattle.std.proofs.Common.{◌≡◌, ℕ, zero, suc, ◌+◌, ◌==◌, ◌<◌, true, false, List, [], ◌∷◌, ◌++◌, length, get_or, drop, Some, None, Ok, Err, refl, sym, ap, ◌∙◌, append_assoc, append-nil}
use Rattle.std.proofs.lemmas.Bool.{eqb-true, eq-eqb, false_from_ne_true}
use Rattle.std.proofs.lemmas.List.{drop_more}
use Rattle.rl_labels.specs.LabelSet.{LabelSet, Pair}
use Rattle.rl_labels.specs.LabelText.{label_escapes}
use Rattle.rl_plain.specs.Answers.{◌>>=◌, Fails, with_front}
use Rattle.rl_plain.specs.Escapes.{unescape}
use Rattle.rl_plain.specs.declared.refusal.OrMemory.{OrMemory}
use Rattle.rl_plain.specs.declared.refusal.OrMemory.TheVariants.{Fault, Memory}
use Rattle.rl_segments.specs.FrameReading.{Found, Read}
use Rattle.rl_segments.specs.LabelReading.{pair_then, pairs_in, set_of, value_in, with_byte, with_more, with_new}
use Rattle.rl_segments.specs.declared.fault.RecordFault.TheVariants.{NotARecord}
use Rattle.rl_segments.specs.declared.fault.RecordFault.{RecordFault}

-- a value that is read, with what was read of it before
abbrev pub behind : List ℕ → Read (List ℕ) → Read (List ℕ)
behind front read = read >>= λ value. Ok (front ++ value.0, value.1)

regroup : (front : List ℕ) (byte : ℕ) (read : Read (List ℕ)) → behind front (with_byte byte read) ≡ behind (front ++ byte ∷ []) read
regroup front byte (Ok value) = ap (λ bytes. Ok (bytes, value.1)) (sym (append_assoc front (byte ∷ []) value.0))
regroup front byte (Err fault) = refl

same : {a b : ℕ} → a ≡ b → (a == b) ≡ true
same {a} {b} e = eq-eqb a b e

other : {a b : ℕ} → (a ≡ b → ⊥) → (a == b) ≡ false
other {a} {b} ne = false_from_ne_true (a == b) (λ e. ne (eqb-true a b e))

-- the quote ends it
pub value_ends : (front rest : List ℕ) (byte : ℕ) (all : Read (List ℕ)) → byte ≡ 34 → behind front (value_in (byte ∷ rest)) ≡ all → all ≡ Ok (front, rest)
unfolding value_in
value_ends front [] byte all quote so_far = sym so_far ∙ rw (same quote) (ap (λ bytes. Ok (bytes, [])) (append-nil front))
value_ends front (next ∷ rest) byte all quote so_far = sym so_far ∙ rw (same quote) (ap (λ bytes. Ok (bytes, next ∷ rest)) (append-nil front))

-- a byte stands for itself
pub plain_value : (rest : List ℕ) (byte : ℕ) → byte == 34 ≡ false → byte == 92 ≡ false → value_in (byte ∷ rest) ≡ with_byte byte (value_in rest)
unfolding value_in
plain_value [] byte quote slash = rw quote refl
plain_value (next ∷ rest) byte quote slash = rw (quote, slash) refl

pub value_goes_on : (front rest : List ℕ) (byte : ℕ) → (byte ≡ 34 → ⊥) → (byte ≡ 92 → ⊥) → behind (front ++ byte ∷ []) (value_in rest) ≡ behind front (value_in (byte ∷ rest))
value_goes_on front rest byte quote slash = sym (ap (behind front) (plain_value rest byte (other quote) (other slash)) ∙ regroup front byte (value_in rest))

-- a backslash with its letter stands for a byte
pub value_escapes : (front rest : List ℕ) (byte letter own : ℕ) → (byte ≡ 34 → ⊥) → byte ≡ 92 → unescape label_escapes letter ≡ Some own → behind (front ++ own ∷ []) (value_in rest) ≡ behind front (value_in (byte ∷ letter ∷ rest))
unfolding value_in
value_escapes front rest byte letter own quote slash is = sym (regroup front own (value_in rest)) ∙ rw (other quote, same slash, is) refl

-- where a letter is none, or is missing, or where no quote comes, no value is
pub value_cut : (front rest : List ℕ) (byte letter : ℕ) → (byte ≡ 34 → ⊥) → byte ≡ 92 → unescape label_escapes letter ≡ None → behind front (value_in (byte ∷ letter ∷ rest)) ≡ Err NotARecord
unfolding value_in
value_cut front rest byte letter quote slash is = rw (other quote, same slash, is) refl

pub value_alone : (front : List ℕ) (byte : ℕ) → (byte ≡ 34 → ⊥) → behind front (value_in (byte ∷ [])) ≡ Err NotARecord
unfolding value_in
value_alone front byte quote = rw (other quote) refl

pub value_none : (front : List ℕ) → behind front (value_in []) ≡ Err NotARecord
unfolding value_in
value_none front = refl

-- ---- labels

pub label_goes_on : (front : List Pair) (rest others : List ℕ) (pair : Pair) (k n : ℕ) → pair_then rest ≡ Ok (pair, Some others) → k ≡ suc n → with_front (front ++ pair ∷ []) (pairs_in n others) ≡ with_front front (pairs_in k rest)
unfolding pairs_in
label_goes_on front rest others pair k n here is =
    grouped (pairs_in n others) ∙ sym (ap (λ k. with_front front (pairs_in k rest)) is ∙ ap (λ next. with_front front (next >>= with_more (pairs_in n))) here)
  where
    grouped : (read : Found (List Pair)) → with_front (front ++ pair ∷ []) read ≡ with_front front (read >>= λ others. Ok (pair ∷ others))
    grouped (Ok more) = ap Ok (append_assoc front (pair ∷ []) more)
    grouped (Err fault) = refl

pub label_ends : (front : List Pair) (rest : List ℕ) (pair : Pair) (k n : ℕ) → pair_then rest ≡ Ok (pair, None) → k ≡ suc n → with_front front (pairs_in k rest) ≡ Ok (front ++ pair ∷ [])
unfolding pairs_in
label_ends front rest pair k n here is = ap (λ k. with_front front (pairs_in k rest)) is ∙ ap (λ next. with_front front (next >>= with_more (pairs_in n))) here

pub label_fails : (front : List Pair) (rest : List ℕ) (error : OrMemory RecordFault) (k n : ℕ) → Fails error (pair_then rest) → k ≡ suc n → Fails error (with_front front (pairs_in k rest))
unfolding pairs_in
label_fails front rest Memory k n here is = tt
label_fails front rest (Fault fault) k n here is = ap (λ k. with_front front (pairs_in k rest)) is ∙ ap (λ next. with_front front (next >>= with_more (pairs_in n))) here

pub labels_cut : (front : List Pair) (rest : List ℕ) (k : ℕ) → k ≡ 0 → with_front front (pairs_in k rest) ≡ Err NotARecord
unfolding pairs_in
labels_cut front rest k is = ap (λ k. with_front front (pairs_in k rest)) is

-- ---- sets

-- one label more
pub one_more : (pairs : List Pair) (k : ℕ) (pair : Pair) → k < length pairs → pair ≡ get_or pairs k pair → set_of (drop k pairs) ≡ (set_of (drop (k + 1) pairs) >>= λ set. with_new pair set)
unfolding set_of
one_more pairs k pair within is = ap set_of (drop_more pairs k pair within ∙ ap (λ (first : Pair). first ∷ drop (k + 1) pairs) (sym is))

-- a label that is refused makes no set, nor do those before it
pub refused_from : (pairs : List Pair) (k : ℕ) (error : OrMemory RecordFault) → Fails error (set_of (drop k pairs)) → Fails error (set_of pairs)
unfolding set_of
refused_from pairs k Memory refused = tt
refused_from pairs zero (Fault fault) refused = refused
refused_from [] (suc k) (Fault fault) refused = refused
refused_from (pair ∷ pairs) (suc k) (Fault fault) refused = ap (λ (set : Found LabelSet). set >>= with_new pair) (refused_from pairs k (Fault fault) refused)
