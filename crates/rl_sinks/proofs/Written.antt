-- What was written, step by step.
use Rattle.std.proofs.Common.{◌≡◌, ◌≢◌, ◌⊎◌, inl, inr, Bool, true, false, ℕ, zero, suc, ◌∷◌, slice_index_or, ◌+◌, ◌-◌, ◌<◌, ◌≤◌, List, [], ◌++◌, length, take, drop, get_or, Option, None, Some, Result, Ok, Err, OnOk, OnErr, sym, ap, subst, ◌∙◌, refl, arith, append_assoc, length-append}
use Rattle.std.proofs.lemmas.List.{get_or_append_left, take-append-drop, take_all, drop-append-le, drop_more, length-drop}
use Rattle.std.specs.List.{flat_map}
use Rattle.std.specs.Io.KnownBytes.{Appends}
use Rattle.rl_sinks.specs.Pieces.{Writes, IsPosition, end_pieces, pieces, rest_of}

-- one write after another
pub Appends-trans : (o m n : Option (List ℕ)) (f g : List ℕ) → Appends o m f → Appends m n g → Appends o n (f ++ g)
Appends-trans None m n f g a b = tt
Appends-trans (Some xs) None n f g a b = absurd a
Appends-trans (Some xs) (Some ys) None f g a b = absurd b
Appends-trans (Some xs) (Some ys) (Some zs) f g a b = b ∙ ap (λ l. l ++ g) a ∙ append_assoc xs f g

-- a write that took some bytes of the rest
pub Writes-step : (o m n : Option (List ℕ)) (all rest : List ℕ) (count : ℕ) → Writes o m all rest → Appends m n (take count rest) → Writes o n all (drop count rest)
Writes-step o m n all rest count w a = (w.0 ++ take count rest, w.1 ∙ ap (λ l. w.0 ++ l) (sym (take-append-drop count rest)) ∙ sym (append_assoc w.0 (take count rest) (drop count rest)), Appends-trans o m n w.0 (take count rest) w.2 a)

pub Writes-trans : (o m n : Option (List ℕ)) (a b c : List ℕ) → Writes o m a b → Writes m n b c → Writes o n a c
Writes-trans o m n a b c v w = (v.0 ++ w.0, v.1 ∙ ap (λ l. v.0 ++ l) w.1 ∙ sym (append_assoc v.0 w.0 c), Appends-trans o m n v.0 w.0 v.2 w.2)

-- with more to write after it
pub Writes-following : (o n : Option (List ℕ)) (a b more : List ℕ) → Writes o n a b → Writes o n (a ++ more) (b ++ more)
Writes-following o n a b more w = (w.0, ap (λ l. l ++ more) w.1 ∙ append_assoc w.0 b more, w.2)

-- all that follows some bytes
pub following : (n : ℕ) (bytes : List ℕ) → take (length bytes - n) (drop n bytes) ≡ drop n bytes
following n bytes = take_all (length bytes - n) (drop n bytes) (omega (arith, length-drop n bytes))

-- a position is no byte past its piece
pub fits_at : (all : List (List ℕ)) (next part : ℕ) → IsPosition all next part → part ≤ length (slice_index_or all next [])
fits_at all next part is = no_further is.fits
  where
    no_further : (part ≡ 0) ⊎ (part < length (slice_index_or all next [])) → part ≤ length (slice_index_or all next [])
    no_further (inl start) = omega (arith, start)
    no_further (inr inside) = omega (arith, inside)

-- what is left: the rest of the next piece, and those after it
pub rest_of-next : (all : List (List ℕ)) (next part : ℕ) → next < length all → part ≤ length (get_or all next []) → rest_of all next part ≡ drop part (get_or all next []) ++ rest_of all (next + 1) 0
rest_of-next all next part within fits =
    ap (λ left. drop part (flat_map (λ piece. piece) left)) (drop_more all next [] within)
    ∙ drop-append-le part (get_or all next []) (flat_map (λ piece. piece) (drop (next + 1) all)) fits

-- a piece was written to its end
piece_done : (o n : Option (List ℕ)) (all : List (List ℕ)) (next part : ℕ) → next < length all → part ≤ length (get_or all next []) → Writes o n (drop part (get_or all next [])) [] → Writes o n (rest_of all next part) (rest_of all (next + 1) 0)
piece_done o n all next part within fits w =
    subst (λ left. Writes o n left (rest_of all (next + 1) 0)) (sym (rest_of-next all next part within fits)) (Writes-following o n (drop part (get_or all next [])) [] (rest_of all (next + 1) 0) w)

-- a piece was written up to a byte
piece_begun : (o n : Option (List ℕ)) (all : List (List ℕ)) (next part new : ℕ) → next < length all → part ≤ length (get_or all next []) → new ≤ length (get_or all next []) → Writes o n (drop part (get_or all next [])) (drop new (get_or all next [])) → Writes o n (rest_of all next part) (rest_of all next new)
piece_begun o n all next part new within fits room w =
    subst (λ left. Writes o n left (rest_of all next new)) (sym (rest_of-next all next part within fits))
    (subst (λ left. Writes o n (drop part (get_or all next []) ++ rest_of all (next + 1) 0) left) (sym (rest_of-next all next new within room))
    (Writes-following o n (drop part (get_or all next [])) (drop new (get_or all next [])) (rest_of all (next + 1) 0) w))

-- a piece was written, in whole or in part
piece_written : {A E : Type 0} (r : Result A E) (o n : Option (List ℕ)) (all : List (List ℕ)) (next part next_after part_after : ℕ) (piece : List ℕ) → next < length all → part ≤ length (get_or all next []) → piece ≡ get_or all next []
    → OnOk r ((next_after ≡ next + 1) × (part_after ≡ 0) × Writes o n (drop part piece) [])
    → OnErr r ((next_after ≡ next) × (part_after < length piece) × Writes o n (drop part piece) (drop part_after piece))
    → Writes o n (rest_of all next part) (rest_of all next_after part_after)
piece_written (Ok x) o n all next part next_after part_after piece within fits read ok err =
    subst (λ position. Writes o n (rest_of all next part) (rest_of all position part_after)) (sym ok.0)
    (subst (λ byte. Writes o n (rest_of all next part) (rest_of all (next + 1) byte)) (sym ok.1)
    (piece_done o n all next part within fits (subst (λ text. Writes o n (drop part text) []) read ok.2)))
piece_written (Err e) o n all next part next_after part_after piece within fits read ok err =
    subst (λ position. Writes o n (rest_of all next part) (rest_of all position part_after)) (sym err.0)
    (piece_begun o n all next part part_after within fits (subst (λ text. part_after ≤ length text) read (omega (arith, err.1))) (subst (λ text. Writes o n (drop part text) (drop part_after text)) read err.2))

-- bytes of the next piece are left
rest_of-left : (all : List (List ℕ)) (next part : ℕ) → next < length all → part < length (get_or all next []) → rest_of all next part ≢ []
rest_of-left all next part within fits none =
    let piece = get_or all next [] in
    omega (arith, fits, length-drop part piece, length-append (drop part piece) (rest_of all (next + 1) 0), ap length (sym (rest_of-next all next part within (omega (arith, fits))) ∙ none))

-- the last line wanted or not, a piece stays as it is
piece_wanted : (ended : Bool) (texts : List (List ℕ)) (count i : ℕ) → i < length (pieces ended texts count) → get_or (pieces true texts count) i [] ≡ get_or (pieces ended texts count) i []
piece_wanted false texts count i within = get_or_append_left texts (end_pieces count) [] i within
piece_wanted true texts count i within = refl

-- a piece of those that are wanted was written, in whole or in part
pub wanted_written : {A E : Type 0} (r : Result A E) (o n : Option (List ℕ)) (ended : Bool) (texts : List (List ℕ)) (count next part next_after part_after : ℕ) (piece : List ℕ) → next < length (pieces ended texts count) → part ≤ length (get_or (pieces true texts count) next []) → piece ≡ get_or (pieces true texts count) next []
    → OnOk r ((next_after ≡ next + 1) × (part_after ≡ 0) × Writes o n (drop part piece) [])
    → OnErr r ((next_after ≡ next) × (part_after < length piece) × Writes o n (drop part piece) (drop part_after piece))
    → Writes o n (rest_of (pieces ended texts count) next part) (rest_of (pieces ended texts count) next_after part_after)
wanted_written r o n ended texts count next part next_after part_after piece within fits read ok err =
    let same = piece_wanted ended texts count next within in
    piece_written r o n (pieces ended texts count) next part next_after part_after piece within (subst (λ p. part ≤ length p) same fits) (read ∙ same) ok err

-- and the writing stands in them
pub wanted_position : {A E : Type 0} (P Q : Type 0) (r : Result A E) (ended : Bool) (texts : List (List ℕ)) (count next next_after part_after : ℕ) (piece : List ℕ) → next < length (pieces ended texts count) → piece ≡ get_or (pieces true texts count) next []
    → OnOk r ((next_after ≡ next + 1) × (part_after ≡ 0) × P) → OnErr r ((next_after ≡ next) × (part_after < length piece) × Q) → IsPosition (pieces ended texts count) next_after part_after
wanted_position P Q (Ok x) ended texts count next next_after part_after piece within read ok err = record { within = omega (arith, ok.0, within); fits = inl ok.1 }
wanted_position P Q (Err e) ended texts count next next_after part_after piece within read ok err =
    let below = subst (λ text. part_after < length text) (read ∙ piece_wanted ended texts count next within) err.1 in
    record { within = omega (arith, err.0, within); fits = inr (subst (λ n. part_after < length (get_or (pieces ended texts count) n [])) (sym err.0) below) }

-- a write that failed leaves bytes of those that are wanted
pub wanted_left : (ended : Bool) (texts : List (List ℕ)) (count next next_after part_after : ℕ) (piece : List ℕ) → next < length (pieces ended texts count) → piece ≡ get_or (pieces true texts count) next [] → next_after ≡ next → part_after < length piece → rest_of (pieces ended texts count) next_after part_after ≢ []
wanted_left ended texts count next next_after part_after piece within read same short =
    let below = subst (λ text. part_after < length text) (read ∙ piece_wanted ended texts count next within) short in
    subst (λ position. rest_of (pieces ended texts count) position part_after ≢ []) (sym same) (rest_of-left (pieces ended texts count) next part_after within below)

-- a piece that is wanted is one of all
pub piece_within : (ended : Bool) (texts : List (List ℕ)) (count i : ℕ) → i < length (pieces ended texts count) → i < length (pieces true texts count)
piece_within false texts count i within = omega (arith, within, length-append texts (end_pieces count))
piece_within true texts count i within = within

inside_after : (xs ys : List (List ℕ)) (n p : ℕ) → p < length (slice_index_or xs n []) → p < length (slice_index_or (xs ++ ys) n [])
inside_after [] ys n p f = absurd (omega (arith, f))
inside_after (x ∷ xs) ys zero p f = f
inside_after (x ∷ xs) ys (suc n) p f = inside_after xs ys n p f

fits_after : (xs ys : List (List ℕ)) (n p : ℕ) → (p ≡ 0) ⊎ (p < length (slice_index_or xs n [])) → (p ≡ 0) ⊎ (p < length (slice_index_or (xs ++ ys) n []))
fits_after xs ys n p (inl start) = inl start
fits_after xs ys n p (inr inside) = inr (inside_after xs ys n p inside)

-- a position among pieces is one with more after them
pub place_after : (xs ys : List (List ℕ)) (n p : ℕ) → IsPosition xs n p → IsPosition (xs ++ ys) n p
place_after xs ys n p is = record { within = let within = is.within in omega (arith, within, length-append xs ys); fits = fits_after xs ys n p is.fits }
