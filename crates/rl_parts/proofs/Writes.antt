-- Parts that are written one after another.
use Rattle.std.proofs.Common.{◌≡◌, ℕ, zero, suc, ◌+◌, ◌<◌, ◌≤◌, List, [], ◌∷◌, ◌++◌, length, take, drop, set, get_or, Option, Some, None, IsSome, refl, sym, ap, subst, ◌∙◌, arith}
use Rattle.std.specs.Option.{is_none, unwrap_or}
use Rattle.std.specs.List.{All, AllByRecursion}
use Rattle.std.proofs.lemmas.List.{length-append, length-set, take-append-drop, take_more_set, drop-set-lt, drop-drop, get_or-drop}
use Rattle.std.proofs.lemmas.List.Elements.{All-from_recursion, filter-append}
use Rattle.rl_labels.specs.LabelSet.{LabelSet}
use Rattle.rl_labels.specs.declared.entry.Entry.{Entry}
use Rattle.rl_parts.specs.ChunksState.{ChunksView}
use Rattle.rl_parts.specs.StreamParts.{Note, PartView, IsPart, unwritten}
use Rattle.rl_parts.specs.StoreUse.{IsKept, Keeps}
use Rattle.rl_parts.specs.Changes.{AreNoted, unwritten_count, with_notes}
use Rattle.rl_parts.specs.StreamState.{IsInOrder}
use Rattle.rl_parts.specs.laws.NoteLaws.{with_notes-keeps, AreNoted-more, AreNoted-rest}
use Rattle.rl_parts.specs.laws.EachLaws.{all_weaker, take_next}
use Rattle.rl_parts.specs.laws.UseLaws.{IsKept-keeps}

-- one part was given the next number
pub one_noted : (part : PartView) (entries : List Entry) (first next : ℕ) (note : Note) → unwritten entries ≡ part → note.number ≡ first → next ≡ first + 1 → AreNoted (part ∷ []) first (record { entries = entries; note = Some note } ∷ []) next
one_noted part entries first next note is number many =
    subst (λ (p : PartView). AreNoted (p ∷ []) first (record { entries = entries; note = Some note } ∷ []) next) is
    (record { notes = note ∷ []; few = omega arith; given = refl; numbers = ap (λ n. n ∷ []) number; many = many })

-- an item that replaces another
each_set : {A : Type 0} (P : A → Type 0) (xs : List A) (i : ℕ) (x : A) → AllByRecursion P xs → P x → AllByRecursion P (set xs i x)
each_set P [] i x h p = tt
each_set P (y ∷ ys) zero x h p = (p, h.1)
each_set P (y ∷ ys) (suc i) x h p = (h.0, each_set P ys i x h.1 p)

-- the first parts were written, and the others are as they were
pub record Goes (labels : LabelSet) (old : List PartView) (before : ChunksView) (i : ℕ) (now : List PartView) (after : ChunksView) : Type 0 where
  pub many : length now ≡ length old
  pub noted : AreNoted (take i old) before.next (take i now) after.next
  pub rest : drop i now ≡ drop i old
  pub kept : AllByRecursion (IsKept before labels) old → AllByRecursion (IsKept after labels) now

module _ (labels : LabelSet) (old : List PartView) (before : ChunksView) (i : ℕ) (now : List PartView) (after : ChunksView) (goes : Goes labels old before i now after) where
  -- the part at the index is as it was
  pub untouched : (d : PartView) → get_or now i d ≡ get_or old i d
  untouched d =
      let here : i + 0 ≡ i = omega arith in
      subst (λ k. get_or now k d ≡ get_or old k d) here (sym (get_or-drop i now 0 d) ∙ ap (λ xs. get_or xs 0 d) goes.rest ∙ get_or-drop i old 0 d)

  pub is_part : (p : PartView) → i < length old → p ≡ get_or now i p → AllByRecursion (IsPart labels) old → IsPart labels p
  is_part p within is are = subst (IsPart labels) (sym (is ∙ untouched p)) (All-from_recursion (IsPart labels) old are i p within)

  -- one part more, also where it was refused
  pub turn : (p q : PartView) (last : ChunksView) → unwritten_count (take i now) ≡ 0 → i < length old → p ≡ get_or now i p → AreNoted (p ∷ []) after.next (q ∷ []) last.next
      → (IsKept after labels p → IsKept last labels q) → Keeps after last → Goes labels old before (i + 1) (set now i q) last
  turn p q last all within is noted kept keeps =
      let low : i < length now = omega (arith, goes.many) in
      record {
        many = length-set now i q ∙ goes.many;
        noted = subst (λ xs. AreNoted xs before.next (take (i + 1) (set now i q)) last.next) (sym (take_next old i p within (is ∙ untouched p)))
            (subst (λ ys. AreNoted (take i old ++ p ∷ []) before.next ys last.next) (sym (take_more_set now i q low)) (AreNoted-more (take i old) (take i now) before.next after.next (p ∷ []) (q ∷ []) last.next goes.noted all noted));
        rest = drop-set-lt (i + 1) now i q (omega arith) ∙ sym (drop-drop 1 i now) ∙ ap (drop 1) goes.rest ∙ drop-drop 1 i old;
        kept = λ were.
            let are : AllByRecursion (IsKept after labels) now = goes.kept were in
            let here : IsKept after labels p = subst (IsKept after labels) (sym is) (All-from_recursion (IsKept after labels) now are i p low) in
            each_set (IsKept last labels) now i q (all_weaker (IsKept after labels) (IsKept last labels) (λ part. IsKept-keeps labels after last part keeps) now are) (kept here);
      }

  -- the whole list
  pub over_all : AreNoted old before.next now after.next
  over_all =
      subst (λ xs. AreNoted xs before.next now after.next) (take-append-drop i old)
      (subst (λ ys. AreNoted (take i old ++ drop i old) before.next ys after.next) (ap (λ r. take i now ++ r) (sym goes.rest) ∙ take-append-drop i now)
      (AreNoted-rest (take i old) (take i now) before.next after.next (drop i old) goes.noted))

none_unwritten : (entries : List Entry) (note : Option Note) → IsSome note → unwritten_count (record { entries = entries; note = note } ∷ []) ≡ 0
none_unwritten entries None h = cc
none_unwritten entries (Some note) h = refl

-- one written part more
pub all_written : (now : List PartView) (i : ℕ) (q : PartView) → i < length now → unwritten_count (take i now) ≡ 0 → IsSome q.note → unwritten_count (take (i + 1) (set now i q)) ≡ 0
all_written now i q within all some =
    let one : unwritten_count (q ∷ []) ≡ 0 = none_unwritten q.entries q.note some in
    let both : unwritten_count (take i now ++ q ∷ []) ≡ unwritten_count (take i now) + unwritten_count (q ∷ []) = ap length (filter-append (λ (part : PartView). is_none part.note) (take i now) (q ∷ [])) ∙ length-append _ _ in
    ap unwritten_count (take_more_set now i q within) ∙ omega arith

-- a stream stays in order while its parts are written
pub in_order_noted : (labels : LabelSet) (old new : List PartView) (head : List Entry) (newest : ℕ) (top : Option ℕ) (first next : ℕ) → AreNoted old first new next → IsInOrder (record { labels = labels; parts = old; head = head; newest = newest }) top
    → IsInOrder (record { labels = labels; parts = new; head = head; newest = newest }) top
in_order_noted labels old new head newest top first next noted order =
    let alone = all_weaker (IsPart labels) (λ part. IsPart labels (unwritten part.entries)) (λ part is. record { run = is.run; some = is.some; few = is.few }) old order.parts.sealed in
    let with = with_notes-keeps (λ es. IsPart labels (unwritten es)) old noted.notes alone in
    let sealed : AllByRecursion (IsPart labels) (with_notes old noted.notes) = all_weaker (λ part. IsPart labels (unwritten part.entries)) (IsPart labels) (λ part is. record { run = is.run; some = is.some; few = is.few }) (with_notes old noted.notes) with in
    subst (λ (ps : List PartView). IsInOrder (record { labels = labels; parts = ps; head = head; newest = newest }) top) (sym noted.given)
    (record { parts = record { sealed = sealed; growing = order.parts.growing; few = order.parts.few }; up_to = with_notes-keeps (λ es. All (λ e. e.timestamp ≤ unwrap_or top 0) es) old noted.notes order.up_to })
