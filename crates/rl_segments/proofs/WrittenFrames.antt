-- Frames are walked one by one, and what is written in them is found again.
use Rattle.std.proofs.Common.{◌≡◌, ℕ, zero, suc, ◌-◌, ◌^◌, ◌<◌, ltb, false, List, [], ◌∷◌, ◌++◌, length, Some, None, refl, ap, ◌∙◌, append_assoc, length-append, arith}
use Rattle.std.specs.Prelude.{option_map, option_and_then, slice_get, codes}
use Rattle.std.specs.Int.{w32, w64, from_be_bytes, to_be_bytes}
use Rattle.std.specs.List.{flat_map}
use Rattle.std.proofs.lemmas.Bool.{le-ltb}
use Rattle.std.proofs.lemmas.List.{take_at, drop_at}
use Rattle.std.proofs.lemmas.Nat.{from_be_bytes-to_be_bytes_8}
use Rattle.rl_segments.specs.SegmentText.{at_place, segment_text}
use Rattle.rl_segments.specs.SegmentReading.{frame_at, head_in, record_in}
use Rattle.rl_segments.specs.FrameReading.{frame_in, number_in}
use Rattle.rl_records.specs.RecordBytes.{frame, number}

-- behind a frame the one that is sought is one nearer
pub nearer : (bytes : List ℕ) (k n : ℕ) (found : List ℕ × List ℕ) → frame_in bytes ≡ Some found → k ≡ suc n → frame_at k bytes ≡ frame_at n found.1
unfolding frame_at
nearer bytes k n found here is = ap (λ k. frame_at k bytes) is ∙ ap (option_and_then (λ found. frame_at n found.1)) here

-- where no frame is none is found
pub none_there : (bytes : List ℕ) (k : ℕ) → frame_in bytes ≡ None → frame_at k bytes ≡ None
unfolding frame_at
none_there bytes zero none = ap (option_map (λ found. found.0)) none
none_there bytes (suc n) none = ap (option_and_then (λ found. frame_at n found.1)) none

-- the frame in front is the one that is sought
pub is_there : (bytes : List ℕ) (k : ℕ) (found : List ℕ × List ℕ) → frame_in bytes ≡ Some found → k ≡ 0 → frame_at k bytes ≡ Some found.0
unfolding frame_at
is_there bytes k found here is = ap (λ k. frame_at k bytes) is ∙ ap (option_map (λ found. found.0)) here

-- ---- what was written is read

-- a number stands in eight bytes
number_front : (front rest : List ℕ) → length front ≡ 8 → number_in (front ++ rest) ≡ Some (from_be_bytes w64 front, rest)
unfolding number_in
number_front front rest len =
    let long : ltb (length (front ++ rest)) 8 ≡ false = le-ltb _ _ (omega (arith, length-append front rest)) in
    rw (long, take_at front rest 8 len, drop_at front rest 8 len) refl

-- and is read again where it was written
pub number_again : (n : ℕ) (rest : List ℕ) → n < 2 ^ 64 → number_in (number n ++ rest) ≡ Some (n, rest)
unfolding number
number_again n rest fits = number_front (to_be_bytes w64 n) rest refl ∙ ap (λ (value : ℕ). Some (value, rest)) (from_be_bytes-to_be_bytes_8 n fits)

-- and a frame
pub frame_again : (text rest : List ℕ) → length (frame text ++ rest) < 2 ^ 64 → frame_in (frame text ++ rest) ≡ Some (text, rest)
unfolding frame_in
frame_again text rest fits =
    let regrouped : frame text ++ rest ≡ number (length text) ++ (text ++ rest) = append_assoc (number (length text)) text rest in
    let longer : ltb (length (text ++ rest)) (length text) ≡ false = le-ltb _ _ (omega (arith, length-append text rest)) in
    ap frame_in regrouped ∙ rw (number_again (length text) (text ++ rest) (omega (arith, ap length regrouped, length-append (number (length text)) (text ++ rest), length-append text rest)), longer, take_at text rest (length text) refl, drop_at text rest (length text) refl) refl

-- no frame is where nothing is
no_frame : frame_in [] ≡ None
unfolding frame_in number_in
no_frame = refl

-- the frame at an index has the text there, and past the last there is none
pub frames_again : (texts : List (List ℕ)) (index : ℕ) → length (flat_map frame texts) < 2 ^ 64 → frame_at index (flat_map frame texts) ≡ slice_get texts index
unfolding frame_at
frames_again [] index fits = none_there [] index no_frame
frames_again (text ∷ texts) zero fits = ap (option_map (λ found. found.0)) (frame_again text (flat_map frame texts) fits)
frames_again (text ∷ texts) (suc index) fits =
    ap (option_and_then (λ found. frame_at index found.1)) (frame_again text (flat_map frame texts) fits)
    ∙ frames_again texts index (omega (arith, length-append (frame text) (flat_map frame texts), fits))

-- after the number of records come their frames
after_count : (first : ℕ) (count frames : List ℕ) → length count ≡ 4 → first < 2 ^ 64 → head_in (codes "RLJ1" ++ (number first ++ (count ++ frames))) ≡ Some (first, frames)
unfolding head_in
after_count first count frames len fits =
    let long : ltb (length (codes "RLJ1" ++ (number first ++ (count ++ frames)))) 4 ≡ false = le-ltb _ _ (omega arith) in
    let counted : ltb (length (count ++ frames)) 4 ≡ false = le-ltb _ _ (omega (arith, length-append count frames)) in
    rw (long, number_again first (count ++ frames) fits, counted, drop_at count frames 4 len) refl

-- the record at a place of the journal is found in a segment
pub record_again : (first : ℕ) (records : List (List ℕ)) (place : ℕ) → first < 2 ^ 64 → length (segment_text first records) < 2 ^ 64 → record_in place (segment_text first records) ≡ at_place first records place
unfolding record_in
record_again first records place fits within =
    let count = to_be_bytes w32 (length records) in
    let frames = flat_map frame records in
    let grouped : segment_text first records ≡ codes "RLJ1" ++ (number first ++ (count ++ frames)) = ap (λ (rest : List ℕ). codes "RLJ1" ++ rest) (append_assoc (number first) count frames) in
    let short : length frames < 2 ^ 64 = omega (arith, within, length-append (number first ++ count) frames) in
    ap (record_in place) grouped ∙ rw (after_count first count frames refl fits, frames_again records (place - first) short) refl
