-- A text is its document, the mark and its commands.
use Rattle.std.proofs.Common.{◌≡◌, ℕ, ◌+◌, ◌-◌, true, false, cond, inl, inr, List, [], ◌∷◌, ◌++◌, length, drop, get_or, Option, None, Some, refl, sym, ap, subst, ◌∙◌, arith, append_assoc, length-append, codes}
use Rattle.std.specs.List.{join_with_byte}
use Rattle.std.specs.Option.{option_map}
use Rattle.std.specs.Str.{IsUtf8, IsCharBoundary}
use Rattle.std.specs.Cmp.Lexicographic.{same_text}
use Rattle.std.proofs.lemmas.List.Splits.{join_with_byte-slice_split}
use Rattle.std.proofs.lemmas.Str.{IsUtf8-drop, IsCharBoundary-after_ascii, IsCharBoundary-end}
use Rattle.std.proofs.Math.Seq.{get_or-append_seam, drop-append_seam, drop-length}
use Rattle.rl_session.specs.Front.{lines_of, is_mark, after_line, front_of_lines, front_of, IsCut}

-- a line more in front
IsCut-following : (line text : List ℕ) (parts : List ℕ × List ℕ) → IsCut text parts → IsCut (line ++ 10 ∷ text) (after_line line parts)
IsCut-following line text parts (inl cut) = inl (ap (λ l. line ++ 10 ∷ l) cut ∙ sym (append_assoc line (10 ∷ parts.0) (codes "%%\n" ++ parts.1)))
IsCut-following line text parts (inr cut) = inr (ap (λ l. line ++ 10 ∷ l) cut.0 ∙ sym (append_assoc line (10 ∷ parts.0) (codes "%%")), cut.1)

-- the first line is the mark
IsCut-mark : (line : List ℕ) (lines : List (List ℕ)) → is_mark line ≡ true → IsCut (join_with_byte 10 (line ∷ lines)) ([], join_with_byte 10 lines)
IsCut-mark line [] mark = inr (same_text line (codes "%%") (sym mark), refl)
IsCut-mark line (next ∷ lines) mark = inl (ap (λ l. l ++ 10 ∷ join_with_byte 10 (next ∷ lines)) (same_text line (codes "%%") (sym mark)))

some_parts : (line text : List ℕ) (found : Option (List ℕ × List ℕ)) (parts : List ℕ × List ℕ) → ((inner : List ℕ × List ℕ) → found ≡ Some inner → IsCut text inner) → option_map (after_line line) found ≡ Some parts → IsCut (line ++ 10 ∷ text) parts
some_parts line text None parts cut is = let never : ⊥ = cc in absurd never
some_parts line text (Some inner) parts cut is =
    let same : after_line line inner ≡ parts = cc in
    subst (IsCut (line ++ 10 ∷ text)) same (IsCut-following line text inner (cut inner refl))

front_cut : (lines : List (List ℕ)) (parts : List ℕ × List ℕ) → front_of_lines lines ≡ Some parts → IsCut (join_with_byte 10 lines) parts
front_cut [] parts is = let never : ⊥ = cc in absurd never
front_cut (line ∷ []) parts is =
    elim (is_mark line) as (λ t. is_mark line ≡ t → cond t (Some ([], [])) None ≡ Some parts → IsCut line parts) [
      | true ↦ λ mark is. let same : ([], []) ≡ parts = cc in subst (IsCut line) same (IsCut-mark line [] mark)
      | false ↦ λ _ is. let never : ⊥ = cc in absurd never
    ] refl is
front_cut (line ∷ next ∷ lines) parts is =
    let following = next ∷ lines in
    elim (is_mark line) as (λ t. is_mark line ≡ t → cond t (Some ([], join_with_byte 10 following)) (option_map (after_line line) (front_of_lines following)) ≡ Some parts → IsCut (line ++ 10 ∷ join_with_byte 10 following) parts) [
      | true ↦ λ mark is. let same : ([], join_with_byte 10 following) ≡ parts = cc in subst (IsCut (line ++ 10 ∷ join_with_byte 10 following)) same (IsCut-mark line following mark)
      | false ↦ λ _ is. some_parts line (join_with_byte 10 following) (front_of_lines following) parts (front_cut (next ∷ lines)) is
    ] refl is

-- the document, the mark and the commands are the text
pub IsCut-front_of : (text : List ℕ) (parts : List ℕ × List ℕ) → front_of text ≡ Some parts → IsCut text parts
IsCut-front_of text parts is = subst (λ t. IsCut t parts) (join_with_byte-slice_split 10 text) (front_cut (lines_of text) parts is)

-- a text may be cut after a line feed
pub feed_boundary : (text front following : List ℕ) → IsUtf8 text → text ≡ front ++ 10 ∷ following → IsCharBoundary text (length front + 1)
feed_boundary text front following utf8 is =
    let feed : get_or text (length front) 0 ≡ 10 = ap (λ t. get_or t (length front) 0) is ∙ get_or-append_seam front 10 following 0 in
    IsCharBoundary-after_ascii text (length front) utf8 (omega (arith, ap length is, length-append front (10 ∷ following))) (omega (arith, feed))

after_feed : (text front following : List ℕ) → text ≡ front ++ 10 ∷ following → drop (length front + 1) text ≡ following
after_feed text front following is =
    let whole : text ≡ (front ++ 10 ∷ []) ++ following = is ∙ sym (append_assoc front (10 ∷ []) following) in
    let len : length front + 1 ≡ length (front ++ 10 ∷ []) = omega (arith, length-append front (10 ∷ [])) in
    ap (λ n. drop n text) len ∙ ap (drop (length (front ++ 10 ∷ []))) whole ∙ drop-append_seam (front ++ 10 ∷ []) following

-- what follows a line feed is text
pub IsUtf8-following : (text front following : List ℕ) → IsUtf8 text → text ≡ front ++ 10 ∷ following → IsUtf8 following
IsUtf8-following text front following utf8 is = subst IsUtf8 (after_feed text front following is) (IsUtf8-drop text (length front + 1) utf8 (feed_boundary text front following utf8 is))

-- where the commands begin
pub record Begins (text commands : List ℕ) (start : ℕ) : Type 0 where
  pub fits : start + length commands ≡ length text
  pub boundary : IsCharBoundary text start
  pub following : drop start text ≡ commands

commands_begin : (text : List ℕ) (parts : List ℕ × List ℕ) → IsUtf8 text → IsCut text parts → Begins text parts.1 (length text - length parts.1)
commands_begin text parts utf8 (inl cut) =
    let front = parts.0 ++ codes "%%" in
    let is : text ≡ front ++ 10 ∷ parts.1 = cut ∙ sym (append_assoc parts.0 (codes "%%") (10 ∷ parts.1)) in
    let start : length front + 1 ≡ length text - length parts.1 = omega (arith, ap length is, length-append front (10 ∷ parts.1)) in
    subst (Begins text parts.1) start (record {
      fits = omega (arith, ap length is, length-append front (10 ∷ parts.1));
      boundary = feed_boundary text front parts.1 utf8 is;
      following = after_feed text front parts.1 is;
    })
commands_begin text parts utf8 (inr cut) =
    let none : length parts.1 ≡ 0 = ap length cut.1 in
    let start : length text ≡ length text - length parts.1 = omega (arith, none) in
    subst (Begins text parts.1) start (record {
      fits = omega (arith, none);
      boundary = IsCharBoundary-end text;
      following = drop-length text ∙ sym cut.1;
    })

-- where the commands of a text begin, from the end
pub Begins-IsCut : (text whole document commands : List ℕ) (len : ℕ) → IsUtf8 text → whole ≡ text → len ≡ length text → IsCut whole (document, commands) → Begins text commands (len - length commands)
Begins-IsCut text whole document commands len utf8 same all cut =
    subst (λ n. Begins text commands (n - length commands)) (sym all) (commands_begin text (document, commands) utf8 (subst (λ t. IsCut t (document, commands)) same cut))
