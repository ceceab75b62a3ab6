-- A field that was written is read again.
use Rattle.std.proofs.Common.{◌≡◌, ℕ, zero, suc, ◌==◌, ◌^◌, ◌<◌, true, false, List, [], ◌∷◌, ◌++◌, length, Result, Ok, Err, refl, sym, ap, ◌∙◌, length-append, arith}
use Rattle.std.specs.Prelude.{IsTrue}
use Rattle.std.specs.List.{AllByRecursion, list_all}
use Rattle.std.specs.FinMap.Entries.{is_sorted}
use Rattle.std.proofs.lemmas.Bool.{and_parts, le-leb, true≢false}
use Rattle.rl_plain.specs.Answers.{◌>>=◌}
use Rattle.rl_plain.specs.laws.Bools.{true_from}
use Rattle.rl_labels.specs.EntryParts.{is_stream}
use Rattle.rl_labels.specs.LabelSet.{LabelSet, Pair, is_label, labels_are_proper, labels_of}
use Rattle.rl_labels.specs.LabelText.{canonical_text, label_text, labels_text}
use Rattle.rl_labels.specs.Name.{name_cmp}
use Rattle.rl_labels.specs.Pairs.{labels_from}
use Rattle.rl_labels.specs.declared.labels.LabelsFault.{LabelsFault}
use Rattle.rl_chunks.proofs.Labels.{of_stream as stream_facts, stream_again}
use Rattle.rl_chunks.specs.ChunkReading.{in_chunk}
use Rattle.rl_query.specs.Form.{query_form, sieve_form, term_form}
use Rattle.rl_query.specs.Printing.{query_text}
use Rattle.rl_query.specs.declared.filter.Sieve.{Sieve}
use Rattle.rl_query.specs.declared.query.Term.{Term}
use Rattle.rl_query_text.proofs.AnsweredQueries.{queries}
use Rattle.rl_query_text.proofs.SameQuery.{as_query, text_as_query}
use Rattle.rl_query_text.specs.QueryReading.{query_of}
use Rattle.rl_selector_text.proofs.Answered.{sieves}
use Rattle.rl_selector_text.specs.Sieving.{sieve_of}
use Rattle.rl_selector_text.specs.Stops.{fault_of}
use Rattle.rl_records.specs.Prints.{sieve_print, term_print}
use Rattle.rl_records.specs.RecordBytes.{frame, number}
use Rattle.rl_segments.specs.FrameReading.{Found, Read, after}
use Rattle.rl_segments.specs.LabelReading.{pairs_in}
use Rattle.rl_segments.specs.RecordReading.{labels_at, moment_at, of_stream, sieve_at, stream_at, term_at, text_at}
use Rattle.rl_segments.specs.Records.{AreTextual, IsMoment, IsText, IsTextual}
use Rattle.rl_segments.proofs.WrittenFrames.{frame_again, number_again}
use Rattle.rl_segments.proofs.WrittenLabels.{few_others, joined, labels_again, others_text, pairs_again}

-- bytes that a slice may have
abbrev pub IsShort : List ℕ → Type 0
IsShort bytes = length bytes < 2 ^ 64

pub short_rest : (front rest : List ℕ) → IsShort (front ++ rest) → IsShort rest
short_rest front rest short = omega (arith, length-append front rest, short)

pub moment_again : (t : ℕ) (rest : List ℕ) → IsMoment t → moment_at (number t ++ rest) ≡ Ok (t, rest)
unfolding moment_at
moment_again t rest is = rw (number_again t rest (omega (arith, is)), le-leb _ _ is) refl

pub text_again : (text rest : List ℕ) → IsText text → IsShort (frame text ++ rest) → text_at (frame text ++ rest) ≡ Ok (text, rest)
unfolding text_at
text_again text rest is short = rw (frame_again text rest short, is) refl

pub labels_at_again : (labels : LabelSet) (rest : List ℕ) → AreTextual labels → IsShort (frame (canonical_text labels) ++ rest) → labels_at (frame (canonical_text labels) ++ rest) ≡ Ok (labels, rest)
unfolding labels_at
labels_at_again labels rest is short = rw (frame_again (canonical_text labels) rest short, labels_again labels is) refl

-- the labels of a stream are those of its pairs
stream_from : (labels : LabelSet) → IsTrue (is_stream labels) → labels_from (labels_of labels) ≡ Ok labels
stream_from labels is = by_result (labels_from (labels_of labels)) (stream_again labels (stream_facts labels is))
  where
    by_result : (made : Result LabelSet LabelsFault) → in_chunk made ≡ Ok labels → made ≡ Ok labels
    by_result (Ok own) e = ap (λ (labels : LabelSet). Ok labels) cc
    by_result (Err fault) e = absurd cc

-- the text of a stream's labels has them after its brace
pairs_of : (pairs : List Pair) → is_sorted name_cmp pairs ≡ true → list_all is_label pairs ≡ true → AllByRecursion IsTextual pairs → 0 < length pairs → (after 123 (labels_text pairs) >>= λ rest. pairs_in (length rest) rest) ≡ Ok pairs
pairs_of [] sorted labels texts some = absurd (omega (arith, some))
pairs_of (pair ∷ pairs) sorted labels texts some =
    ap (λ (rest : List ℕ). pairs_in (length rest) rest) (joined pair pairs)
    ∙ pairs_again pair pairs (length (label_text pair ++ others_text pairs)) (omega (arith, few_others pairs, length-append (label_text pair) (others_text pairs))) labels texts

grouped : {A B C : Type 0} (read : Found A) (f : A → Found B) (g : B → Found C) → (read >>= λ x. f x >>= g) ≡ ((read >>= f) >>= g)
grouped (Ok x) f g = refl
grouped (Err fault) f g = refl

above_zero : (n : ℕ) → (n == 0) ≡ false → 0 < n
above_zero zero h = absurd (true≢false h)
above_zero (suc n) h = omega arith

text_of_stream : (labels : LabelSet) → IsTrue (is_stream labels) → AreTextual labels → (after 123 (canonical_text labels) >>= λ rest. pairs_in (length rest) rest) ≡ Ok (labels_of labels)
unfolding canonical_text
text_of_stream labels stream is =
    let pairs = labels_of labels in
    let proper = and_parts (is_sorted name_cmp pairs) (list_all is_label pairs) (true_from _ (labels_are_proper labels)) in
    pairs_of pairs proper.0 proper.1 is (above_zero (length pairs) (stream_facts labels stream).some)

pub stream_at_again : (labels : LabelSet) (rest : List ℕ) → IsTrue (is_stream labels) → AreTextual labels → IsShort (frame (canonical_text labels) ++ rest) → stream_at (frame (canonical_text labels) ++ rest) ≡ Ok (labels, rest)
unfolding stream_at
stream_at_again labels rest stream is short =
    let made : List Pair → Read LabelSet = λ pairs. of_stream (labels_from pairs) >>= λ labels. Ok (labels, rest) in
    rw (frame_again (canonical_text labels) rest short)
    (grouped (after 123 (canonical_text labels)) (λ rest. pairs_in (length rest) rest) made
    ∙ ap (λ read. read >>= made) (text_of_stream labels stream is)
    ∙ ap (λ found. of_stream found >>= λ labels. Ok (labels, rest)) (stream_from labels stream))

pub sieve_at_again : (sieve : Sieve) (rest : List ℕ) → IsText (sieve_print sieve) → IsShort (frame (sieve_print sieve) ++ rest) → sieve_at (frame (sieve_print sieve) ++ rest) ≡ Ok (sieve_form sieve, rest)
unfolding sieve_at
sieve_at_again sieve rest is short =
    let read : sieve_of (sieve_print sieve) ≡ Ok (sieve_form sieve) = ap fault_of (sieves.complete (sieve_print sieve) (sieve_form sieve) (sieves.printed sieve)) in
    rw (text_again (sieve_print sieve) rest is short, read) refl

pub term_at_again : (term : Term) (rest : List ℕ) → IsText (term_print term) → IsShort (frame (term_print term) ++ rest) → term_at (frame (term_print term) ++ rest) ≡ Ok (term_form term, rest)
unfolding term_at
term_at_again term rest is short =
    let whole : query_of (query_text (query_form (as_query term))) ≡ Ok (query_form (as_query term)) = ap fault_of (queries.complete (query_text (query_form (as_query term))) (query_form (as_query term)) (queries.printed (as_query term))) in
    let read : query_of (term_print term) ≡ Ok (query_form (as_query term)) = ap query_of (sym (text_as_query term)) ∙ whole in
    rw (text_again (term_print term) rest is short, read) refl
