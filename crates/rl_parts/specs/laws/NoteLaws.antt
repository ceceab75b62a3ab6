-- Parts that were given notes: what stays of them, and the numbers that they have.
use Rattle.std.specs.Prelude.{◌≡◌, ℕ, zero, suc, ◌+◌, ◌-◌, ◌≤◌, List, [], ◌∷◌, ◌++◌, map, length, nat_lt, if◌then◌else◌, Bool, true, false, Option, Some, None, refl}
use Rattle.std.proofs.Common.{sym, ap, subst, ◌∙◌, arith}
use Rattle.std.specs.Option.{is_none}
use Rattle.std.specs.List.{AllByRecursion, filter, flat_map, range_with_len}
use Rattle.std.specs.List.Sorted.{IsPermutation}
use Rattle.std.proofs.lemmas.List.{length-append, map-append}
use Rattle.std.proofs.lemmas.List.Elements.{filter-append}
use Rattle.std.proofs.lemmas.List.Sorted.{IsPermutation-refl, IsPermutation-cons, IsPermutation-trans, IsPermutation-middle, IsPermutation-map}
use Rattle.rl_labels.specs.declared.entry.Entry.{Entry}
use Rattle.rl_parts.specs.StreamParts.{Note, PartView, StreamView, listed, notes_of, unwritten}
use Rattle.rl_parts.specs.Changes.{unwritten_count, own_or_next, after_next, with_notes, AreNoted, IsStarted}

-- what is said of entries alone stays
pub with_notes-keeps : (P : List Entry → Type 0) (parts : List PartView) (notes : List Note) → AllByRecursion (λ part. P part.entries) parts → AllByRecursion (λ part. P part.entries) (with_notes parts notes)
with_notes-keeps P [] notes h = tt
with_notes-keeps P (part ∷ parts) notes h = (h.0, with_notes-keeps P parts (after_next part.note notes) h.1)

-- and so do the entries
pub entries-with_notes : (parts : List PartView) (notes : List Note) → flat_map (λ part. part.entries) (with_notes parts notes) ≡ flat_map (λ part. part.entries) parts
entries-with_notes [] notes = refl
entries-with_notes (part ∷ parts) notes = ap (λ es. part.entries ++ es) (entries-with_notes parts (after_next part.note notes))

-- a note of its own stays, and so does a part without one where none is left
own_stays : (note : Option Note) → own_or_next note [] ≡ note
own_stays None = refl
own_stays (Some note) = refl

none_left : (note : Option Note) → after_next note [] ≡ []
none_left None = refl
none_left (Some note) = refl

-- without notes nothing changes
pub with_notes-none : (parts : List PartView) → with_notes parts [] ≡ parts
with_notes-none [] = refl
with_notes-none (part ∷ parts) = λ i. record { entries = part.entries; note = own_stays part.note i } ∷ (ap (with_notes parts) (none_left part.note) ∙ with_notes-none parts) i

-- how many are unwritten from a part on, by its note
abbrev count_with : Option Note → ℕ → ℕ
count_with None count = suc count
count_with (Some note) count = count

count_is : (part : PartView) (parts : List PartView) → unwritten_count (part ∷ parts) ≡ count_with part.note (unwritten_count parts)
count_is part parts = at part.note
  where
    at : (note : Option Note) → length (filter (λ (p : PartView). is_none p.note) (record { entries = part.entries; note = note } ∷ parts)) ≡ count_with note (unwritten_count parts)
    at None = refl
    at (Some note) = refl

-- parts after those that have a note by now get the notes that are left
pub with_notes-append : (parts others : List PartView) (notes more : List Note) → length notes ≡ unwritten_count parts → with_notes (parts ++ others) (notes ++ more) ≡ with_notes parts notes ++ with_notes others more
with_notes-append [] others [] more all = refl
with_notes-append [] others (note ∷ notes) more all = cc
with_notes-append (part ∷ parts) others notes more all = at (λ left h. with_notes-append parts others left more h) part.note notes (all ∙ count_is part parts)
  where
    at : ((left : List Note) → length left ≡ unwritten_count parts → with_notes (parts ++ others) (left ++ more) ≡ with_notes parts left ++ with_notes others more)
        → (note : Option Note) (notes : List Note) → length notes ≡ count_with note (unwritten_count parts)
        → record { entries = part.entries; note = own_or_next note (notes ++ more) } ∷ with_notes (parts ++ others) (after_next note (notes ++ more)) ≡ record { entries = part.entries; note = own_or_next note notes } ∷ (with_notes parts (after_next note notes) ++ with_notes others more)
    at others_do (Some own) notes h = ap (λ ps. record { entries = part.entries; note = Some own } ∷ ps) (others_do notes h)
    at others_do None [] h = cc
    at others_do None (note ∷ notes) h = ap (λ ps. record { entries = part.entries; note = Some note } ∷ ps) (others_do notes (omega (arith, h)))

-- parts for which no note is left stay
pub with_notes-rest : (parts others : List PartView) (notes : List Note) → length notes ≤ unwritten_count parts → with_notes (parts ++ others) notes ≡ with_notes parts notes ++ others
with_notes-rest [] others [] few = with_notes-none others
with_notes-rest [] others (note ∷ notes) few = absurd (omega arith)
with_notes-rest (part ∷ parts) others notes few = at (λ left h. with_notes-rest parts others left h) part.note notes (subst (λ n. length notes ≤ n) (count_is part parts) few)
  where
    at : ((left : List Note) → length left ≤ unwritten_count parts → with_notes (parts ++ others) left ≡ with_notes parts left ++ others)
        → (note : Option Note) (notes : List Note) → length notes ≤ count_with note (unwritten_count parts)
        → record { entries = part.entries; note = own_or_next note notes } ∷ with_notes (parts ++ others) (after_next note notes) ≡ record { entries = part.entries; note = own_or_next note notes } ∷ (with_notes parts (after_next note notes) ++ others)
    at others_do (Some own) notes h = ap (λ ps. record { entries = part.entries; note = Some own } ∷ ps) (others_do notes h)
    at others_do None [] h = ap (λ ps. record { entries = part.entries; note = None } ∷ ps) (others_do [] (omega arith))
    at others_do None (note ∷ notes) h = ap (λ ps. record { entries = part.entries; note = Some note } ∷ ps) (others_do notes (omega (arith, h)))

-- each note leaves one part less without one
pub count-with_notes : (parts : List PartView) (notes : List Note) → length notes ≤ unwritten_count parts → unwritten_count (with_notes parts notes) + length notes ≡ unwritten_count parts
count-with_notes [] [] few = refl
count-with_notes [] (note ∷ notes) few = absurd (omega arith)
count-with_notes (part ∷ parts) notes few =
    at (λ left h. count-with_notes parts left h) part.note notes (subst (λ n. length notes ≤ n) (count_is part parts) few) ∙ sym (count_is part parts)
  where
    at : ((left : List Note) → length left ≤ unwritten_count parts → unwritten_count (with_notes parts left) + length left ≡ unwritten_count parts)
        → (note : Option Note) (notes : List Note) → length notes ≤ count_with note (unwritten_count parts)
        → unwritten_count (record { entries = part.entries; note = own_or_next note notes } ∷ with_notes parts (after_next note notes)) + length notes ≡ count_with note (unwritten_count parts)
    at others_do (Some own) notes h = others_do notes h
    at others_do None [] h = omega (arith, others_do [] (omega arith))
    at others_do None (note ∷ notes) h = omega (arith, others_do notes (omega (arith, h)))

-- so the next number grows by the parts that were written
pub many-noted : (old new : List PartView) (first next : ℕ) → AreNoted old first new next → next + unwritten_count new ≡ first + unwritten_count old
many-noted old new first next p = omega (arith, p.many, count-with_notes old p.notes p.few, ap unwritten_count p.given)

-- numbers one after another
pub range-append : (first many more : ℕ) → range_with_len first (many + more) ≡ range_with_len first many ++ range_with_len (first + many) more
range-append first zero more =
    let many : zero + more ≡ more = omega arith in
    let start : first + zero ≡ first = omega arith in
    ap (range_with_len first) many ∙ ap (λ n. range_with_len n more) (sym start)
range-append first (suc many) more =
    let sum : suc many + more ≡ suc (many + more) = omega arith in
    let start : first + 1 + many ≡ first + suc many = omega arith in
    ap (range_with_len first) sum ∙ ap (λ ns. first ∷ ns) (range-append (first + 1) many more ∙ ap (λ n. range_with_len (first + 1) many ++ range_with_len n more) start)

-- the notes of others follow, once all of the first parts have one
pub AreNoted-more : (old new : List PartView) (first mid : ℕ) (others now : List PartView) (next : ℕ) → AreNoted old first new mid → unwritten_count new ≡ 0 → AreNoted others mid now next → AreNoted (old ++ others) first (new ++ now) next
AreNoted-more old new first mid others now next p all q =
    let left : unwritten_count (with_notes old p.notes) ≡ 0 = ap unwritten_count (sym p.given) ∙ all in
    let many : length p.notes ≡ unwritten_count old = omega (arith, count-with_notes old p.notes p.few) in
    let both : unwritten_count (old ++ others) ≡ unwritten_count old + unwritten_count others = ap length (filter-append (λ (part : PartView). is_none part.note) old others) ∙ length-append _ _ in
    let start : first + length p.notes ≡ mid = sym p.many in
    record {
      notes = p.notes ++ q.notes;
      few = omega (arith, length-append p.notes q.notes, q.few);
      given = (λ i. p.given i ++ q.given i) ∙ sym (with_notes-append old others p.notes q.notes many);
      numbers = map-append (λ (note : Note). note.number) p.notes q.notes
          ∙ (λ i. p.numbers i ++ (q.numbers ∙ ap (λ n. range_with_len n (length q.notes)) (sym start)) i)
          ∙ sym (ap (range_with_len first) (length-append p.notes q.notes) ∙ range-append first (length p.notes) (length q.notes));
      many = omega (arith, length-append p.notes q.notes, p.many, q.many);
    }

-- parts after them stay
pub AreNoted-rest : (old new : List PartView) (first next : ℕ) (others : List PartView) → AreNoted old first new next → AreNoted (old ++ others) first (new ++ others) next
AreNoted-rest old new first next others p =
    let both : unwritten_count (old ++ others) ≡ unwritten_count old + unwritten_count others = ap length (filter-append (λ (part : PartView). is_none part.note) old others) ∙ length-append _ _ in
    record {
      notes = p.notes;
      few = omega (arith, p.few);
      given = ap (λ ps. ps ++ others) p.given ∙ sym (with_notes-rest old others p.notes p.few);
      numbers = p.numbers;
      many = p.many;
    }

-- the notes are those of before and the new ones
notes-with_notes : (parts : List PartView) (notes : List Note) → length notes ≤ unwritten_count parts → IsPermutation (notes_of parts ++ notes) (notes_of (with_notes parts notes))
notes-with_notes [] [] few = IsPermutation-refl []
notes-with_notes [] (note ∷ notes) few = absurd (omega arith)
notes-with_notes (part ∷ parts) notes few = at (λ left h. notes-with_notes parts left h) part.note notes (subst (λ n. length notes ≤ n) (count_is part parts) few)
  where
    at : ((left : List Note) → length left ≤ unwritten_count parts → IsPermutation (notes_of parts ++ left) (notes_of (with_notes parts left)))
        → (note : Option Note) (notes : List Note) → length notes ≤ count_with note (unwritten_count parts)
        → IsPermutation ((listed note ++ notes_of parts) ++ notes) (listed (own_or_next note notes) ++ notes_of (with_notes parts (after_next note notes)))
    at others_do (Some own) notes h = IsPermutation-cons own _ _ (others_do notes h)
    at others_do None [] h = others_do [] (omega arith)
    at others_do None (note ∷ notes) h = IsPermutation-trans _ _ _ (IsPermutation-middle (notes_of parts) note notes) (IsPermutation-cons note _ _ (others_do notes (omega (arith, h))))

-- and so are the numbers, of which the new ones go from the first up to the next
pub numbers-noted : (old new : List PartView) (first next : ℕ) → AreNoted old first new next
    → IsPermutation (map (λ note. note.number) (notes_of old) ++ range_with_len first (next - first)) (map (λ note. note.number) (notes_of new))
numbers-noted old new first next p =
    let many : length p.notes ≡ next - first = omega (arith, p.many) in
    let fresh : map (λ (note : Note). note.number) p.notes ≡ range_with_len first (next - first) = p.numbers ∙ ap (range_with_len first) many in
    subst (λ (ps : List PartView). IsPermutation (map (λ (note : Note). note.number) (notes_of old) ++ range_with_len first (next - first)) (map (λ (note : Note). note.number) (notes_of ps))) (sym p.given)
    (subst (λ ns. IsPermutation ns (map (λ (note : Note). note.number) (notes_of (with_notes old p.notes)))) (map-append (λ (note : Note). note.number) (notes_of old) p.notes ∙ ap (λ ns. map (λ (note : Note). note.number) (notes_of old) ++ ns) fresh)
    (IsPermutation-map (λ (note : Note). note.number) _ _ (notes-with_notes old p.notes p.few)))

-- a stream that was just started has no notes
pub notes-started : (most : ℕ) (entry : Entry) (stream : StreamView) → IsStarted most entry stream → notes_of stream.parts ≡ []
notes-started most entry stream started = ap notes_of started.parts ∙ at (nat_lt 1 most)
  where
    at : (room : Bool) → notes_of (if room then [] else unwritten (entry ∷ []) ∷ []) ≡ []
    at true = refl
    at false = refl
