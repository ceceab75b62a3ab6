-- Streams that are asked one after the other, whatever the store does.
use Rattle.std.proofs.Common.{◌≡◌, ℕ, zero, suc, ◌+◌, ◌-◌, ◌≤◌, Some, List, [], ◌∷◌, ◌++◌, take, drop, slice_get, refl, sym, ap, subst, ◌∙◌, append-nil, append_assoc, arith}
use Rattle.std.specs.List.{AllByRecursion, AllZip, flat_map}
use Rattle.std.specs.Map.{values_of}
use Rattle.std.proofs.Math.Seq.{take-add}
use Rattle.std.proofs.lemmas.List.Concat.{flat_map-append}
use Rattle.rl_labels.specs.LabelSet.{LabelSet}
use Rattle.rl_labels.specs.declared.matcher.Matcher.{Matcher}
use Rattle.rl_chunks.specs.declared.line.Line.{Line}
use Rattle.rl_parts.specs.StreamParts.{StreamView}
use Rattle.rl_parts.specs.laws.VisitorLaws.{AllZip-append, fold-pushed}
use Rattle.rl_streams.specs.Asking.{AreOfRow, IsVisitedOf}
use Rattle.rl_streams.specs.CursorState.{AreAsked}
use Rattle.rl_streams.specs.StreamRows.{Row, IsOwn}
use Rattle.rl_streams.proofs.RowChanges.{at_row, not_none, same_some, with_key}

drop_none : {A : Type 0} (j : ℕ) → ◌≡◌ {A = List A} (drop j []) []
drop_none zero = refl
drop_none (suc j) = refl

drop_drop : {A : Type 0} (i j : ℕ) (xs : List A) → drop j (drop i xs) ≡ drop (i + j) xs
drop_drop zero j xs = let many : j ≡ 0 + j = omega arith in ap (λ n. drop n xs) many
drop_drop (suc i) j [] = drop_none j ∙ sym (drop_none (suc i + j))
drop_drop (suc i) j (x ∷ xs) = let many : suc (i + j) ≡ suc i + j = omega arith in drop_drop i j xs ∙ ap (λ n. drop n (x ∷ xs)) many

-- one item at an index
take_one : {A : Type 0} (xs : List A) (i : ℕ) (x : A) → slice_get xs i ≡ Some x → take 1 (drop i xs) ≡ x ∷ []
take_one [] i x at = absurd (not_none x at)
take_one (y ∷ ys) zero x at = ap (λ z. z ∷ []) (same_some y x at)
take_one (y ∷ ys) (suc i) x at = take_one ys i x at

-- items from one index to another, and from there to a third
take_through : {A : Type 0} (xs : List A) (a b c : ℕ) → a ≤ b → b ≤ c → take (c - a) (drop a xs) ≡ take (b - a) (drop a xs) ++ take (c - b) (drop b xs)
take_through xs a b c low high =
    let many : c - a ≡ (b - a) + (c - b) = omega arith in
    let start : a + (b - a) ≡ b = omega arith in
    ap (λ n. take n (drop a xs)) many ∙ take-add (b - a) (c - b) (drop a xs)
    ∙ ap (λ l. take (b - a) (drop a xs) ++ take (c - b) l) (drop_drop a (b - a) xs ∙ ap (λ n. drop n xs) start)

module _ (rows : List Row) (selector : List Matcher) (from to : ℕ) where
  -- some, and then others
  pub asked_then : (a : ℕ) (waiting : List (LabelSet × Line)) (b : ℕ) (between : List (LabelSet × Line)) (c : ℕ) (now : List (LabelSet × Line)) → AreAsked rows selector from to a waiting b between → AreAsked rows selector from to b between c now → AreAsked rows selector from to a waiting c now
  asked_then a waiting b between c now p q = record {
    up = omega (arith, p.up, q.up);
    lines = p.lines ++ q.lines;
    each = subst (λ rs. AllZip (AreOfRow selector from to) rs (p.lines ++ q.lines)) (sym (take_through rows a b c p.up q.up))
        (AllZip-append (AreOfRow selector from to) (take (b - a) (drop a rows)) p.lines (take (c - b) (drop b rows)) q.lines p.each q.each);
    all = ap (λ l. waiting ++ l) (flat_map-append (λ of_row. of_row) p.lines q.lines)
        ∙ sym (append_assoc waiting (flat_map (λ of_row. of_row) p.lines) (flat_map (λ of_row. of_row) q.lines))
        ∙ ap (λ l. l ++ flat_map (λ of_row. of_row) q.lines) p.all ∙ q.all;
  }

  -- one
  pub asked_one : (position : ℕ) (stream : StreamView) (before after : List (LabelSet × Line)) → AllByRecursion IsOwn rows → slice_get (values_of rows) position ≡ Some stream → IsVisitedOf (λ lines line. lines ++ line ∷ []) selector from to (stream.labels, stream) before after
      → AreAsked rows selector from to position before (position + 1) after
  asked_one position stream before after own at visited =
      let row = with_key rows position stream at in
      let labels = (at_row IsOwn rows position (row.0, stream) own row.1).labels in
      let stands = row.1 ∙ ap (λ key. Some (key, stream)) (sym labels) in
      let one : position + 1 - position ≡ 1 = omega arith in record {
        up = omega arith;
        lines = visited.lines ∷ [];
        each = subst (λ rs. AllZip (AreOfRow selector from to) rs (visited.lines ∷ [])) (sym (ap (λ n. take n (drop position rows)) one ∙ take_one rows position (stream.labels, stream) stands)) (visited.of_row, tt);
        all = ap (λ l. before ++ l) (append-nil visited.lines) ∙ sym (visited.visited ∙ fold-pushed before visited.lines);
      }
