-- What becomes of a part that a store has.
use Rattle.std.proofs.Common.{◌≡◌, ℕ, ◌+◌, ◌-◌, ◌<◌, ◌≤◌, inl, inr, not, Bool, true, false, List, [], ◌∷◌, length, get_or, map, refl, sym, ap, subst, ◌∙◌, append-nil, arith}
use Rattle.std.specs.Option.{unwrap_or}
use Rattle.std.specs.List.{All, range_with_len}
use Rattle.std.proofs.lemmas.List.{length-map, get_or-map}
use Rattle.std.proofs.lemmas.List.Elements.{All-filter, recursion_from_All}
use Rattle.std.specs.List.Sorted.{IsStrictlySortedBy}
use Rattle.rl_labels.specs.LabelSet.{LabelSet}
use Rattle.rl_labels.specs.declared.entry.Entry.{Entry}
use Rattle.rl_chunks.specs.ChunkText.{line_cmp}
use Rattle.rl_chunks.specs.EntryLines.{line_of}
use Rattle.rl_chunks.specs.declared.chunk.Chunk.{Chunk}
use Rattle.rl_chunks.specs.declared.line.Line.{Line}
use Rattle.rl_parts.specs.ChunksState.{ChunksView}
use Rattle.rl_parts.specs.StreamParts.{PartView, IsPart, unwritten}
use Rattle.rl_parts.specs.StoreUse.{IsKept, Reads}
use Rattle.rl_parts.specs.PartState.{IsRange, part_at}
use Rattle.rl_parts.specs.Fingerprints.{AreFingerprints}
use Rattle.rl_parts.specs.declared.part.Written.{Written}
use Rattle.rl_parts.specs.declared.part.Location.TheVariants.{InStore}
use Rattle.rl_parts.specs.Reading.{IsReadAs}
use Rattle.rl_parts.specs.Rewriting.{AreOfLines, AreReadAs, AreRewritten, uncovered}
use Rattle.rl_parts.specs.laws.UseLaws.{Reads-none}
use Rattle.rl_parts.specs.laws.RewriteLaws.{range-none}
use Rattle.rl_parts.proofs.Leaving.{filter_le, fingerprints_len, none_covered, part_left, read_is, rewritten_stays, rewritten_to, run_of_lines}
use Rattle.rl_parts.proofs.Times.{from_first, timestamp_is, up_to_last}

-- none of its range of time may be covered
pub unread_stays : (covers : Entry → Bool) (set : LabelSet) (written : Written) (chunks : ChunksView) → IsPart set (unwritten written.entries.value) → IsRange written.entries.value written.first written.last
    → ((entry : Entry) → entry.labels ≡ set → written.first ≤ entry.timestamp → entry.timestamp ≤ written.last → covers entry ≡ false)
    → AreRewritten covers set (part_at (InStore written) ∷ []) chunks (part_at (InStore written) ∷ []) [] chunks
unread_stays covers set written chunks is range none =
    let entries = written.entries.value in
    let all : All (λ entry. covers entry ≡ false) entries = λ k d within.
    let low = from_first set entries is.run k d within in
    let high = up_to_last set entries is.run k d within in
    none (get_or entries k d) (is.run.labels k d within) (omega (arith, low, range.start)) (omega (arith, high, range.end)) in
    rewritten_stays covers set (part_at (InStore written)) chunks chunks (Reads-none chunks) (record { run = is.run; some = is.some; few = is.few }) (inl (all, refl)) (λ honest kept. none_covered covers entries (recursion_from_All (λ entry. covers entry ≡ false) entries all))

-- the last timestamp of entries is no newer than what all of them are not newer than
last_below : (entries : List Entry) (from to top : ℕ) → 0 < length entries → IsRange entries from to → All (λ entry. entry.timestamp ≤ top) entries → to ≤ top
last_below [] from to top some range all = absurd (omega (arith, some))
last_below (e ∷ es) from to top some range all =
    let xs : List Entry = e ∷ es in
    let is = timestamp_is xs (length xs - 1) e (omega arith) in
    let le = all (length xs - 1) e (omega arith) in
    omega (arith, is, le, range.end)

-- of a part that was read again
module _ (covers : Entry → Bool) (set : LabelSet) (old : Written) (before : ChunksView) (lines : List Line) (read : List Entry)
    (is : IsPart set (unwritten old.entries.value)) (range : IsRange old.entries.value old.first old.last) (fingerprints : AreFingerprints old.entries.value old.fingerprints)
    (found : (chunk : Chunk) × IsReadAs old.digest chunk × (lines ≡ chunk.lines)) (many : length lines ≡ length old.fingerprints) (up_to : All (λ line. line.timestamp ≤ old.last) lines)
    (right : IsKept before set (part_at (InStore old)) → before.seen.honest ≡ true → lines ≡ map line_of old.entries.value) (are : AreOfLines set lines read) where
  abbrev entries : List Entry
  entries = old.entries.value

  abbrev part : PartView
  part = part_at (InStore old)

  is_part : IsPart set part
  is_part = record { run = is.run; some = is.some; few = is.few }

  read_as : AreReadAs old.digest set read
  read_as = (found.0, found.1, subst (λ ls. AreOfLines set ls read) found.2 are)

  same : before.seen.honest ≡ true → IsKept before set part → read ≡ entries
  same honest kept = read_is set lines read entries are is.run.labels (right kept honest)

  as_many : length read ≡ length entries
  as_many = sym (length-map read line_of) ∙ ap length are.same ∙ many ∙ fingerprints_len entries old.fingerprints fingerprints

  pub read_part : IsPart set (unwritten read)
  read_part = record {
    run = run_of_lines set lines read are (subst (IsStrictlySortedBy line_cmp) (sym found.2) found.1.1.ranges.rising);
    some = omega (arith, as_many, is.some);
    few = omega (arith, as_many, is.few);
  }

  no_newer : All (λ entry. entry.timestamp ≤ old.last) read
  no_newer = λ k d within.
      let line = subst (All (λ line. line.timestamp ≤ old.last)) (sym are.same) up_to k (line_of d) (omega (arith, within, length-map read line_of)) in
      let here = ap (λ (l : Line). l.timestamp) (get_or-map line_of read k d (line_of d) within) in
      omega (arith, line, here)

  -- what is left is less
  some_covered : (left : List Entry) → left ≡ uncovered covers read → length left < length read → length (uncovered covers read) < length read
  some_covered left of less = omega (arith, ap length of, less)

  module _ (after : ChunksView) where
    -- none of what was read is covered
    pub read_stays : Reads before after → uncovered covers read ≡ read → AreRewritten covers set (part ∷ []) before (part ∷ []) [] after
    read_stays reads none = rewritten_stays covers set part before after reads is_part (inr (read, read_as, inl (none, refl))) (λ honest kept. subst (λ es. uncovered covers es ≡ es) (same honest kept) none)

    -- all is covered
    pub read_goes : Reads before after → uncovered covers read ≡ [] → AreRewritten covers set (part ∷ []) before [] (old.number ∷ []) after
    read_goes reads all =
        rewritten_to covers set part before [] after (omega (arith, reads.next)) (sym (range-none before.next after.next reads.next)) (inr (read, read_as, inr (some_covered [] (sym all) (omega (arith, as_many, is.some)), sym all))) tt (omega arith) (λ top h. tt) tt
        (λ honest kept. sym all ∙ ap (uncovered covers) (same honest kept))

    -- what is left is a part that is written under the next number
    pub read_becomes : (written : Written) → written.entries.value ≡ uncovered covers read → 0 < length written.entries.value → length written.entries.value < length read → written.number ≡ before.next → after.next ≡ before.next + 1 → IsKept after set (part_at (InStore written))
        → AreRewritten covers set (part ∷ []) before (part_at (InStore written) ∷ []) (old.number ∷ []) after
    read_becomes written of some less number up kept =
        let left = written.entries.value in
        let one : after.next - before.next ≡ 1 = omega (arith, up) in
        let now : IsPart set (unwritten left) = subst (λ es. IsPart set (unwritten es)) (sym of) (part_left covers set read read_part (omega (arith, some, ap length of))) in
        let fewer = filter_le (λ entry. not (covers entry)) read in
        rewritten_to covers set part before (part_at (InStore written) ∷ []) after (omega (arith, up)) (ap (λ n. n ∷ []) number ∙ sym (ap (range_with_len before.next) one))
        (inr (read, read_as, inr (some_covered left of less, append-nil left ∙ of))) (record { run = now.run; some = now.some; few = now.few }, tt)
        (omega (arith, ap length (append-nil left), ap length of, fewer, as_many))
        (λ top h. (
          subst (All (λ entry. entry.timestamp ≤ unwrap_or top 0)) (sym of) (All-filter (λ entry. not (covers entry)) (λ entry. entry.timestamp ≤ unwrap_or top 0) read
              (λ k d within. let newer = no_newer k d within in let le = last_below entries old.first old.last (unwrap_or top 0) is.some range h in omega (arith, newer, le))),
          tt,
        ))
        (kept, tt) (λ honest were. append-nil left ∙ of ∙ ap (uncovered covers) (same honest were))
