-- The lines of a text, and what stands before the first mark.
use Rattle.std.proofs.Common.{◌≡◌, ◌≢◌, ℕ, ◌+◌, ◌-◌, ◌<◌, ◌==◌, true, false, cond, List, [], ◌∷◌, ◌++◌, length, take, drop, get_or, Option, None, Some, refl, sym, ap, ◌∙◌, arith, append_assoc, length-append, unwrap_or, Bor}
use Rattle.std.specs.List.{All, join_with_byte}
use Rattle.std.specs.Option.{option_copied, option_map}
use Rattle.memchr.specs.Find.{IsFirstByte, is_byte}
use Rattle.std.proofs.lemmas.List.{append-nil, get_or_default, get_or-take, length-take, take-append-drop, take_more}
use Rattle.std.proofs.lemmas.Bool.{eqb-true, ne_eqb}
use Rattle.std.proofs.Math.Seq.{take-append_seam}
use Rattle.std.proofs.lemmas.List.Splits.{slice_split_at, slice_split_none, join_with_byte-slice_split}
use Rattle.rl_session.specs.Front.{lines_of, IsFirstLine, is_mark, after_line, front_of_lines, front_of}

-- no byte is a line feed
no_feeds : (text : List ℕ) → ((i : ℕ) → i < length text → get_or text i 0 ≢ 10) → All (λ byte. (byte == 10) ≡ false) text
no_feeds text none k d inside = ne_eqb (get_or text k d) 10 (λ feed. none k inside (get_or_default text k 0 d inside ∙ feed))

-- a text without line feeds is one line
lines_of-one : (text : List ℕ) → ((i : ℕ) → i < length text → get_or text i 0 ≢ 10) → lines_of text ≡ text ∷ []
lines_of-one text none = slice_split_none (λ byte. byte == 10) text (no_feeds text none)

-- a line, and the lines after its line feed
pub lines_of-next : (line following : List ℕ) → ((i : ℕ) → i < length line → get_or line i 0 ≢ 10) → lines_of (line ++ 10 ∷ following) ≡ line ∷ lines_of following
lines_of-next line following none = slice_split_at (λ byte. byte == 10) line 10 following (no_feeds line none) refl

-- the first line of a text with a line feed
IsFirstLine-next : (text line following : List ℕ) → (text ≡ line ++ 10 ∷ following) × ((i : ℕ) → i < length line → get_or line i 0 ≢ 10) → IsFirstLine text line (Some following)
IsFirstLine-next text line following parts = (ap lines_of parts.0 ∙ lines_of-next line following parts.1, parts.0)

-- a search for a line feed that finds none
pub lines_of-none : (text : List ℕ) → IsFirstByte (is_byte 10) text None → lines_of text ≡ text ∷ []
lines_of-none text none = lines_of-one text (λ i below feed. none i (omega arith) below (ap (λ byte. byte == 10) feed))

-- what is found is ASCII
pub found_ascii : (text : List ℕ) (at : ℕ) → IsFirstByte (is_byte 10) text (Some at) → get_or text at 0 < 128
found_ascii text at found = let feed : get_or text at 0 ≡ 10 = eqb-true (get_or text at 0) 10 found.1 in omega (arith, feed)

-- the first line ends at the first line feed that is found
pub IsFirstLine-at : (text : List ℕ) (at : ℕ) → IsFirstByte (is_byte 10) text (Some at) → IsFirstLine text (take at text) (Some (drop (at + 1) text))
IsFirstLine-at text at found =
    let feed : get_or text at 0 ≡ 10 = eqb-true (get_or text at 0) 10 found.1 in
    let split = sym (take-append-drop (at + 1) text) ∙ ap (λ front. front ++ drop (at + 1) text) (take_more text at 0 found.0.high ∙ ap (λ byte. take at text ++ byte ∷ []) feed) ∙ append_assoc (take at text) (10 ∷ []) (drop (at + 1) text) in
    IsFirstLine-next text (take at text) (drop (at + 1) text) (
      split,
      λ i below same.
          let before : i < at = omega (arith, length-take at text, below) in
          found.0.before i (omega arith) before (ap (λ byte. byte == 10) (sym (get_or-take at text i 0 before) ∙ same)),
    )

-- lines of a document in front of what is found
abbrev pub in_front : List ℕ → List ℕ × List ℕ → List ℕ × List ℕ
in_front seen parts = (seen ++ parts.0, parts.1)

-- the lines that were seen are no marks, and the rest of the text follows them
pub record Seen (text rest : List ℕ) : Type 0 where
  pub seen : List ℕ
  pub seam : text ≡ seen ++ rest
  pub front : front_of text ≡ option_map (in_front seen) (front_of rest)

in_front-line : (seen line : List ℕ) (found : Option (List ℕ × List ℕ)) → option_map (in_front seen) (option_map (after_line line) found) ≡ option_map (in_front (seen ++ (line ++ 10 ∷ []))) found
in_front-line seen line None = refl
in_front-line seen line (Some parts) = ap (λ document. Some (document, parts.1)) (ap (λ l. seen ++ l) (sym (append_assoc line (10 ∷ []) parts.0)) ∙ sym (append_assoc seen (line ++ 10 ∷ []) parts.0))

-- the front of lines, the first of which is the mark or not
front_of-mark : (text line : List ℕ) (lines : List (List ℕ)) → lines_of text ≡ line ∷ lines → is_mark line ≡ true → front_of text ≡ Some ([], join_with_byte 10 lines)
front_of-mark text line lines split mark = ap front_of_lines split ∙ ap (λ b. cond b (Some ([], join_with_byte 10 lines)) (option_map (after_line line) (front_of_lines lines))) mark

front_of-other : (text line : List ℕ) (lines : List (List ℕ)) → lines_of text ≡ line ∷ lines → is_mark line ≡ false → front_of text ≡ option_map (after_line line) (front_of_lines lines)
front_of-other text line lines split mark = ap front_of_lines split ∙ ap (λ b. cond b (Some ([], join_with_byte 10 lines)) (option_map (after_line line) (front_of_lines lines))) mark

-- one line more
pub Seen-line : (text rest line following : List ℕ) → Seen text rest → lines_of rest ≡ line ∷ lines_of following → rest ≡ line ++ 10 ∷ following → is_mark line ≡ false → Seen text following
Seen-line text rest line following s split parts other = record {
  seen = s.seen ++ (line ++ 10 ∷ []);
  seam = s.seam ∙ ap (λ l. s.seen ++ l) (parts ∙ sym (append_assoc line (10 ∷ []) following)) ∙ sym (append_assoc s.seen (line ++ 10 ∷ []) following);
  front = s.front ∙ ap (option_map (in_front s.seen)) (front_of-other rest line (lines_of following) split other) ∙ in_front-line s.seen line (front_of following);
}

-- how much was seen
seen_len : (text rest : List ℕ) (s : Seen text rest) → length text - length rest ≡ length s.seen
seen_len text rest s = omega (arith, ap length s.seam, length-append s.seen rest)

seen_is : (text rest : List ℕ) (s : Seen text rest) → s.seen ++ [] ≡ take (length text - length rest) text
seen_is text rest s =
    append-nil s.seen ∙ sym (take-append_seam s.seen rest) ∙ ap (take (length s.seen)) (sym s.seam) ∙ ap (λ n. take n text) (sym (seen_len text rest s))

-- the rest, where its first line is the mark
lines_after : (rest line : List ℕ) (following : Option (Bor (List ℕ))) (none : Bor (List ℕ)) → none.now ≡ [] → IsFirstLine rest line (option_copied following) → is_mark line ≡ true → front_of rest ≡ Some ([], (unwrap_or following none).now)
lines_after rest line None none nothing first mark = front_of-mark rest line [] first mark ∙ ap (λ commands. Some ([], commands)) (sym nothing)
lines_after rest line (Some more) none nothing first mark = front_of-mark rest line (lines_of more.now) first.0 mark ∙ ap (λ commands. Some ([], commands)) (join_with_byte-slice_split 10 more.now)

-- the mark is here
pub front_of-here : (text rest line document : List ℕ) (following : Option (Bor (List ℕ))) (commands none : Bor (List ℕ)) → Seen text rest → IsFirstLine rest line (option_copied following) → is_mark line ≡ true
    → document ≡ take (length text - length rest) text → commands ≡ unwrap_or following none → none.now ≡ [] → Some (document, commands.now) ≡ front_of text
front_of-here text rest line document following commands none s first mark before after nothing =
    let here : front_of rest ≡ Some ([], (unwrap_or following none).now) = lines_after rest line following none nothing first mark in
    sym (s.front ∙ ap (option_map (in_front s.seen)) here ∙ ap (λ front. Some (front, (unwrap_or following none).now)) (seen_is text rest s ∙ sym before) ∙ ap (λ b. Some (document, b.now)) (sym after))
