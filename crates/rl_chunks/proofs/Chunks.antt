-- The two laws: bytes that are read as a chunk are its text, and its text is read again.
use Rattle.std.proofs.Common.{◌≡◌, ℕ, zero, suc, ◌^◌, ◌<◌, ◌==◌, ltb, true, false, cond, List, [], ◌∷◌, ◌++◌, length, take, drop, Option, Some, None, Result, Ok, Err, refl, sym, ap, subst, ◌∙◌, append_assoc, append-nil, arith}
use Rattle.std.specs.Prelude.{IfOk}
use Rattle.std.specs.Int.{w16, w32, to_be_bytes}
use Rattle.std.specs.List.{All, AllByRecursion, flat_map}
use Rattle.std.specs.List.Sorted.{IsStrictlySortedBy}
use Rattle.std.specs.Ordering.{is_lt}
use Rattle.std.specs.declared.cmp.Ordering.{Ordering}
use Rattle.std.specs.declared.cmp.Ordering.TheVariants.{Less, Equal, Greater}
use Rattle.std.specs.Cmp.{IsTotalOrder}
use Rattle.std.proofs.lemmas.Bool.{eqb-true, le-ltb, true≢false}
use Rattle.std.proofs.lemmas.Cmp.{on_total, then_total, nat_cmp_total, nat_list_cmp_total}
use Rattle.std.proofs.lemmas.List.{nil_from_length, take-append-drop, length-append}
use Rattle.std.proofs.lemmas.List.Elements.{recursion_from_All, All-from_recursion}
use Rattle.rl_plain.specs.Answers.{◌>>=◌, Gives}
use Rattle.rl_plain.specs.declared.refusal.OrMemory.{OrMemory}
use Rattle.rl_labels.specs.LabelSet.{LabelSet, labels_of}
use Rattle.rl_labels.specs.Name.{is_text}
use Rattle.rl_labels.specs.Pairs.{labels_from}
use Rattle.rl_labels.specs.laws.LabelLaws.{same_text}
use Rattle.rl_chunks.specs.ChunkText.{magic, label_bytes, line_bytes, labels_bytes, lines_bytes, chunk_text, line_cmp, IsText, IsLine, IsChunk, IsChunkText}
use Rattle.rl_chunks.specs.ChunkReading.{number_at, format_at, label_at, label_count_at, in_chunk, labels_at, next_line_at, lines_at, in_turn, read_chunk}
use Rattle.rl_chunks.specs.declared.chunk.Chunk.{Chunk}
use Rattle.rl_chunks.specs.declared.fault.ChunkFault.{ChunkFault}
use Rattle.rl_chunks.specs.declared.fault.ChunkFault.TheVariants.{NotAChunk, CutShort, TrailingBytes}
use Rattle.rl_chunks.specs.declared.format.Format.{Format}
use Rattle.rl_chunks.specs.declared.format.Format.TheVariants.{Short}
use Rattle.rl_chunks.specs.declared.line.Line.{Line}
use Rattle.rl_chunks.proofs.Fields.{IsBytes, IsBytes-drop, bind_ok, ok_is, passed, not_met, Takes, Takes-then, wide16, wide32, number_takes, number_again}
use Rattle.rl_chunks.proofs.Items.{Chain, in_turn_takes, in_turn_again, IsNextLabel, label_takes, label_again, IsNextLine, next_line_takes, next_line_again}
use Rattle.rl_chunks.proofs.Labels.{good_from_chain, OfStream, of_stream, stream_from, few_labels, chain_of_stream, stream_again, stream_of_chain}

-- ---- lines that rise

line_cmp_total : IsTotalOrder line_cmp
line_cmp_total = then_total (on_total (λ (line : Line). line.timestamp) nat_cmp_total) (on_total (λ (line : Line). line.text) nat_list_cmp_total)

less : (o : Ordering) → is_lt o ≡ true → o ≡ Less
less Less e = refl
less Equal e = absurd (true≢false (sym e))
less Greater e = absurd (true≢false (sym e))

abbrev IsAbove : Line → Line → Type 0
IsAbove line other = line_cmp line other ≡ Less

above_more : (a b : Line) (lines : List Line) → line_cmp a b ≡ Less → AllByRecursion (IsAbove b) lines → AllByRecursion (IsAbove a) lines
above_more a b [] below h = tt
above_more a b (line ∷ lines) below h = (line_cmp_total.trans a b line below h.0, above_more a b lines below h.1)

sorted_after : (line : Line) (lines : List Line) → Chain IsNextLine (Some line) lines → AllByRecursion (IsAbove line) lines × IsStrictlySortedBy line_cmp lines
unfolding IsStrictlySortedBy
sorted_after line [] h = (tt, tt)
sorted_after line (next ∷ lines) h =
    let rest = sorted_after next lines h.1 in
    let below = less _ h.0.above in
    ((below, above_more line next lines below rest.0), rest)

lines_rise : (lines : List Line) → Chain IsNextLine None lines → IsStrictlySortedBy line_cmp lines
unfolding IsStrictlySortedBy
lines_rise [] h = tt
lines_rise (line ∷ lines) h = sorted_after line lines h.1

each_line : (before : Option Line) (lines : List Line) → Chain IsNextLine before lines → AllByRecursion IsLine lines
each_line before [] h = tt
each_line before (line ∷ lines) h = (h.0.good, each_line (Some line) lines h.1)

chain_after : (before : Line) (lines : List Line) → AllByRecursion IsLine lines → AllByRecursion (IsAbove before) lines → IsStrictlySortedBy line_cmp lines → Chain IsNextLine (Some before) lines
unfolding IsStrictlySortedBy
chain_after before [] good above sorted = tt
chain_after before (line ∷ lines) good above sorted = (record { good = good.0; above = ap is_lt above.0 }, chain_after line lines good.1 sorted.0 sorted.1)

chain_of_lines : (lines : List Line) → AllByRecursion IsLine lines → IsStrictlySortedBy line_cmp lines → Chain IsNextLine None lines
unfolding IsStrictlySortedBy
chain_of_lines [] good sorted = tt
chain_of_lines (line ∷ lines) good sorted = (record { good = good.0; above = refl }, chain_after line lines good.1 sorted.0 sorted.1)

-- ---- the parts of a chunk

format_takes : (bytes : List ℕ) (x : Format × List ℕ) → IsBytes bytes → format_at bytes ≡ Ok x → Takes bytes (magic x.0) x.1
unfolding format_at
format_takes bytes x fits e =
    let read : Format × List ℕ = (Short, drop 4 bytes) in
    let g = not_met (ltb (length bytes) 4) CutShort (cond (is_text (take 4 bytes) (magic Short)) (Ok read) (Err NotAChunk)) x e in
    let h = passed (is_text (take 4 bytes) (magic Short)) NotAChunk read x g.1 in
    let front : take 4 bytes ≡ magic Short = same_text (take 4 bytes) (magic Short) h.0 in
    subst (λ (y : Format × List ℕ). Takes bytes (magic y.0) y.1) h.1 (record { parts = sym (ap (λ t. t ++ drop 4 bytes) (sym front) ∙ take-append-drop 4 bytes); rest_fits = IsBytes-drop 4 bytes fits })

format_again : (format : Format) (rest : List ℕ) → format_at (magic format ++ rest) ≡ Ok (format, rest)
unfolding format_at
format_again Short rest =
    let long : ltb (length (magic Short ++ rest)) 4 ≡ false = le-ltb _ _ (omega (arith, length-append (magic Short) rest)) in
    ap (λ b. cond b (Err CutShort) (Ok (Short, rest))) long

count_takes : (bytes : List ℕ) (x : ℕ × List ℕ) → IsBytes bytes → label_count_at bytes ≡ Ok x → Takes bytes (to_be_bytes w16 x.0) x.1 × ((x.0 == 0) ≡ false)
unfolding label_count_at
count_takes bytes x fits e =
    let b = bind_ok (number_at w16 bytes) (λ count. cond (count.0 == 0) (Err NotAChunk) (Ok count)) x e in
    let g = not_met (b.0.0 == 0) NotAChunk (Ok b.0) x b.2 in
    let t = number_takes w16 (2 ^ 16) wide16 bytes b.0 fits b.1 in
    subst (λ (y : ℕ × List ℕ). Takes bytes (to_be_bytes w16 y.0) y.1 × ((y.0 == 0) ≡ false)) (ok_is b.0 x g.1) (t.0, g.0)

count_again : (count : ℕ) (rest : List ℕ) → count < 2 ^ 16 → (count == 0) ≡ false → label_count_at (to_be_bytes w16 count ++ rest) ≡ Ok (count, rest)
unfolding label_count_at
count_again count rest few some =
    ap (λ read. read >>= λ count. cond (count.0 == 0) (Err NotAChunk) (Ok count)) (number_again w16 (2 ^ 16) wide16 count rest few)
    ∙ ap (λ b. cond b (Err NotAChunk) (Ok (count, rest))) some

-- the labels that were read
record IsStream (labels : LabelSet) : Type 0 where
  of : OfStream labels
  texts : All IsText (labels_of labels)

not_none : (n : ℕ) → (n == 0) ≡ false → 0 < n
not_none zero h = absurd (true≢false h)
not_none (suc n) h = omega arith

labels_take : (bytes : List ℕ) (x : LabelSet × List ℕ) → IsBytes bytes → labels_at bytes ≡ Ok x → Takes bytes (labels_bytes (labels_of x.0)) x.1 × IsStream x.0
unfolding labels_at
labels_take bytes x fits e =
    let b = bind_ok (label_count_at bytes) (λ count. in_turn label_at count.0 None count.1 >>= λ pairs. in_chunk (labels_from pairs.0) >>= λ labels. Ok (labels, pairs.1)) x e in
    let c = bind_ok (in_turn label_at b.0.0 None b.0.1) (λ pairs. in_chunk (labels_from pairs.0) >>= λ labels. Ok (labels, pairs.1)) x b.2 in
    let d = bind_ok (in_chunk (labels_from c.0.0)) (λ labels. Ok (labels, c.0.1)) x c.2 in
    let t = count_takes bytes b.0 fits b.1 in
    let u = in_turn_takes label_at label_bytes IsNextLabel label_takes b.0.0 None b.0.1 c.0 t.0.rest_fits c.1 in
    let some : 0 < length c.0.0 = let full = not_none b.0.0 t.1 in let as_many = u.1 in omega arith in
    let made = stream_of_chain c.0.0 d.0 u.2 some d.1 in
    let both = Takes-then bytes (to_be_bytes w16 b.0.0) b.0.1 (flat_map label_bytes c.0.0) c.0.1 t.0 u.0 in
    let counted : Takes bytes (labels_bytes c.0.0) c.0.1 = subst (λ (n : ℕ). Takes bytes (to_be_bytes w16 n ++ flat_map label_bytes c.0.0) c.0.1) (sym u.1) both in
    let own : Takes bytes (labels_bytes (labels_of d.0)) c.0.1 = subst (λ pairs. Takes bytes (labels_bytes pairs) c.0.1) (sym made.0) counted in
    let texts : All IsText (labels_of d.0) = subst (All IsText) (sym made.0) (All-from_recursion IsText c.0.0 (good_from_chain c.0.0 u.2).texts) in
    let read : LabelSet × List ℕ = (d.0, c.0.1) in
    subst (λ (y : LabelSet × List ℕ). Takes bytes (labels_bytes (labels_of y.0)) y.1 × IsStream y.0) (ok_is read x d.2) (own, record { of = made.1; texts = texts })

labels_again : (labels : LabelSet) (rest : List ℕ) → OfStream labels → All IsText (labels_of labels) → labels_at (labels_bytes (labels_of labels) ++ rest) ≡ Ok (labels, rest)
unfolding labels_at
labels_again labels rest of texts =
    let pairs = labels_of labels in
    let regrouped : labels_bytes pairs ++ rest ≡ to_be_bytes w16 (length pairs) ++ (flat_map label_bytes pairs ++ rest) = append_assoc (to_be_bytes w16 (length pairs)) (flat_map label_bytes pairs) rest in
    ap labels_at regrouped
    ∙ ap (λ read. read >>= λ count. in_turn label_at count.0 None count.1 >>= λ pairs. in_chunk (labels_from pairs.0) >>= λ labels. Ok (labels, pairs.1)) (count_again (length pairs) (flat_map label_bytes pairs ++ rest) (few_labels labels of) of.some)
    ∙ ap (λ read. read >>= λ pairs. in_chunk (labels_from pairs.0) >>= λ labels. Ok (labels, pairs.1)) (in_turn_again label_at label_bytes IsNextLabel label_again None pairs rest (chain_of_stream labels of texts))
    ∙ ap (λ read. read >>= λ labels. Ok (labels, rest)) (stream_again labels of)

-- the lines that were read
record AreLines (lines : List Line) : Type 0 where
  each : All IsLine lines
  rising : IsStrictlySortedBy line_cmp lines
  few : length lines < 2 ^ 32

lines_take : (format : Format) (bytes : List ℕ) (x : List Line × List ℕ) → IsBytes bytes → lines_at format bytes ≡ Ok x → Takes bytes (lines_bytes format x.0) x.1 × AreLines x.0
unfolding lines_at
lines_take format bytes x fits e =
    let b = bind_ok (number_at w32 bytes) (λ count. in_turn (next_line_at format) count.0 None count.1) x e in
    let t = number_takes w32 (2 ^ 32) wide32 bytes b.0 fits b.1 in
    let u = in_turn_takes (next_line_at format) (line_bytes format) IsNextLine (next_line_takes format) b.0.0 None b.0.1 x t.0.rest_fits b.2 in
    let both = Takes-then bytes (to_be_bytes w32 b.0.0) b.0.1 (flat_map (line_bytes format) x.0) x.1 t.0 u.0 in
    let counted : Takes bytes (lines_bytes format x.0) x.1 = subst (λ (n : ℕ). Takes bytes (to_be_bytes w32 n ++ flat_map (line_bytes format) x.0) x.1) (sym u.1) both in
    (counted, record { each = All-from_recursion IsLine x.0 (each_line None x.0 u.2); rising = lines_rise x.0 u.2; few = subst (λ n. n < 2 ^ 32) (sym u.1) t.1 })

lines_again : (format : Format) (lines : List Line) (rest : List ℕ) → All IsLine lines → IsStrictlySortedBy line_cmp lines → length lines < 2 ^ 32 → lines_at format (lines_bytes format lines ++ rest) ≡ Ok (lines, rest)
unfolding lines_at
lines_again format lines rest each rising few =
    let regrouped : lines_bytes format lines ++ rest ≡ to_be_bytes w32 (length lines) ++ (flat_map (line_bytes format) lines ++ rest) = append_assoc (to_be_bytes w32 (length lines)) (flat_map (line_bytes format) lines) rest in
    ap (lines_at format) regrouped
    ∙ ap (λ read. read >>= λ count. in_turn (next_line_at format) count.0 None count.1) (number_again w32 (2 ^ 32) wide32 (length lines) (flat_map (line_bytes format) lines ++ rest) few)
    ∙ in_turn_again (next_line_at format) (line_bytes format) IsNextLine (next_line_again format) None lines rest (chain_of_lines lines (recursion_from_All IsLine lines each) rising)

-- ---- the whole

-- the text with its parts joined from the right
abbrev joined : Format → Chunk → List ℕ
joined format chunk = magic format ++ (labels_bytes (labels_of chunk.labels) ++ lines_bytes format chunk.lines)

joined_is : (format : Format) (chunk : Chunk) → chunk_text format chunk ≡ joined format chunk
joined_is format chunk = append_assoc (magic format) (labels_bytes (labels_of chunk.labels)) (lines_bytes format chunk.lines)

one_format : (format : Format) → format ≡ Short
one_format Short = refl

-- what is read is its text
pub chunk_takes : (bytes : List ℕ) (chunk : Chunk) → IsBytes bytes → read_chunk bytes ≡ Ok chunk → IsChunkText bytes chunk
unfolding read_chunk
chunk_takes bytes chunk fits e =
    let b = bind_ok (format_at bytes) (λ format. labels_at format.1 >>= λ labels. lines_at format.0 labels.1 >>= λ lines. cond (length lines.1 == 0) (Ok (record { labels = labels.0; lines = lines.0 })) (Err TrailingBytes)) chunk e in
    let c = bind_ok (labels_at b.0.1) (λ labels. lines_at b.0.0 labels.1 >>= λ lines. cond (length lines.1 == 0) (Ok (record { labels = labels.0; lines = lines.0 })) (Err TrailingBytes)) chunk b.2 in
    let d = bind_ok (lines_at b.0.0 c.0.1) (λ lines. cond (length lines.1 == 0) (Ok (record { labels = c.0.0; lines = lines.0 })) (Err TrailingBytes)) chunk c.2 in
    let made : Chunk = record { labels = c.0.0; lines = d.0.0 } in
    let g = passed (length d.0.1 == 0) TrailingBytes made chunk d.2 in
    let ended : d.0.1 ≡ [] = nil_from_length d.0.1 (eqb-true _ _ g.0) in
    let t = format_takes bytes b.0 fits b.1 in
    let u = labels_take b.0.1 c.0 t.rest_fits c.1 in
    let v = lines_take b.0.0 c.0.1 d.0 u.0.rest_fits d.1 in
    let tail = Takes-then b.0.1 (labels_bytes (labels_of c.0.0)) c.0.1 (lines_bytes b.0.0 d.0.0) d.0.1 u.0 v.0 in
    let all = Takes-then bytes (magic b.0.0) b.0.1 (labels_bytes (labels_of c.0.0) ++ lines_bytes b.0.0 d.0.0) d.0.1 t tail in
    let spelt : bytes ≡ chunk_text b.0.0 made = all.parts ∙ ap (λ rest. joined b.0.0 made ++ rest) ended ∙ append-nil (joined b.0.0 made) ∙ sym (joined_is b.0.0 made) in
    subst (λ (y : Chunk). IsChunkText bytes y) g.1 (record {
      ranges = record { stream = stream_from c.0.0 u.1.of; texts = u.1.texts; lines = v.1.each; rising = v.1.rising; few = v.1.few };
      spelt = spelt ∙ ap (λ format. chunk_text format made) (one_format b.0.0);
    })

-- and its text is read again
pub chunk_again : (chunk : Chunk) → IsChunk chunk → read_chunk (chunk_text Short chunk) ≡ Ok chunk
unfolding read_chunk
chunk_again chunk ranges =
    let labels = chunk.labels in
    let lines = chunk.lines in
    let rest = lines_bytes Short lines in
    let of = of_stream labels ranges.stream in
    let regrouped : chunk_text Short chunk ≡ magic Short ++ (labels_bytes (labels_of labels) ++ rest) = append_assoc (magic Short) (labels_bytes (labels_of labels)) rest in
    let lines_read : lines_at Short rest ≡ Ok (lines, []) = ap (lines_at Short) (sym (append-nil rest)) ∙ lines_again Short lines [] ranges.lines ranges.rising ranges.few in
    ap read_chunk regrouped
    ∙ ap (λ read. read >>= λ format. labels_at format.1 >>= λ labels. lines_at format.0 labels.1 >>= λ lines. cond (length lines.1 == 0) (Ok (record { labels = labels.0; lines = lines.0 })) (Err TrailingBytes)) (format_again Short (labels_bytes (labels_of labels) ++ rest))
    ∙ ap (λ read. read >>= λ labels. lines_at Short labels.1 >>= λ lines. cond (length lines.1 == 0) (Ok (record { labels = labels.0; lines = lines.0 })) (Err TrailingBytes)) (labels_again labels rest of ranges.texts)
    ∙ ap (λ read. read >>= λ lines. cond (length lines.1 == 0) (Ok (record { labels = labels; lines = lines.0 })) (Err TrailingBytes)) lines_read

-- what the code found is its text, where reading found it
pub is_found : (bytes : List ℕ) (found : Result Chunk (OrMemory ChunkFault)) → IsBytes bytes → Gives (λ chunk. chunk) found (read_chunk bytes) → IfOk found (λ chunk. IsChunkText bytes chunk)
is_found bytes (Ok chunk) fits is = chunk_takes bytes chunk fits is
is_found bytes (Err e) fits is = tt

pub is_read : (bytes : List ℕ) (chunk : Chunk) → IsChunkText bytes chunk → read_chunk bytes ≡ Ok chunk
is_read bytes chunk is = ap read_chunk is.spelt ∙ chunk_again chunk is.ranges

-- bytes that were written part by part are the text of the chunk
pub spelt_in_turn : (labels : LabelSet) (lines : List Line) (none first second third : List ℕ) → none ≡ [] → first ≡ none ++ magic Short → second ≡ first ++ labels_bytes (labels_of labels) → third ≡ second ++ lines_bytes Short lines
    → third ≡ chunk_text Short (record { labels = labels; lines = lines })
spelt_in_turn labels lines none first second third p q r s =
    s ∙ ap (λ t. t ++ lines_bytes Short lines) (r ∙ ap (λ t. t ++ labels_bytes (labels_of labels)) (q ∙ ap (λ t. t ++ magic Short) p))
