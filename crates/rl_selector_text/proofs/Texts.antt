-- Texts between quotes, piece by piece.
use Rattle.std.proofs.Common.{◌≡◌, inl, inr, ℕ, suc, ◌+◌, ◌-◌, ◌*◌, ◌<◌, ◌≤◌, ◌==◌, Bool, true, false, cond, ◌&&◌, nat_lt, List, [], ◌∷◌, ◌++◌, Option, Some, None, length, get_or, take, drop, refl, sym, ap, subst, ◌∙◌, arith, append_assoc, append-nil, length-drop, one-add}
use Rattle.std.specs.List.{prefix_len}
use Rattle.std.specs.Option.{option_map, option_and_then}
use Rattle.std.specs.Str.{IsUtf8, IsCharBoundary}
use Rattle.std.proofs.lemmas.Bool.Decides.{nat_tests}
use Rattle.std.proofs.lemmas.Bool.{and_parts, eqb-true, not-true, not-false, ne_eqb, cond-true, cond-false, cases_lt, le-ltb, ltb-true, cond_both}
use Rattle.std.proofs.lemmas.Str.{IsUtf8-drop}
use Rattle.std.proofs.Math.Utf8.{encode}
use Rattle.rl_plain.specs.Escapes.{Escapes, are_ascii, unescape}
use Rattle.rl_plain.specs.Hexadecimal.{hex_digit, hex_number}
use Rattle.rl_plain.specs.Runs.{onto}
use Rattle.rl_plain.specs.laws.Cuts.{rest_ascii, stops, first_of, none_left}
use Rattle.rl_query.specs.Tables.{escapes}
use Rattle.rl_selector_text.specs.Lexing.{is_plain, is_raw, character, unicode_at, escape_at, escape_front, quoted, backquoted}
use Rattle.std.proofs.lemmas.Option.{some_pair_parts}
use Rattle.std.proofs.lemmas.Iterator.Adapters.{option_map_id}

onto-onto : (front more : List ℕ) (read : Option (List ℕ × List ℕ)) → onto front (onto more read) ≡ onto (front ++ more) read
onto-onto front more None = refl
onto-onto front more (Some x) = ap (λ t. Some (t, x.1)) (sym (append_assoc front more x.0))

-- what is read byte by byte is read run by run
run_read : (p : ℕ → Bool) (f : List ℕ → Option (List ℕ × List ℕ)) → ((b : ℕ) (bytes : List ℕ) → p b ≡ true → f (b ∷ bytes) ≡ onto (b ∷ []) (f bytes)) → (bytes : List ℕ) → f bytes ≡ onto (take (prefix_len p bytes) bytes) (f (drop (prefix_len p bytes) bytes))
run_read p f more [] = sym (option_map_id (f []))
run_read p f more (b ∷ bytes) = cond_both (p b) (1 + prefix_len p bytes) 0 (λ n. f (b ∷ bytes) ≡ onto (take n (b ∷ bytes)) (f (drop n (b ∷ bytes))))
    (λ goes_on. rw one-add (more b bytes goes_on ∙ ap (onto (b ∷ [])) (run_read p f more bytes) ∙ onto-onto (b ∷ []) _ _)) (λ _. sym (option_map_id (f (b ∷ bytes))))

raw_run : (bytes : List ℕ) → backquoted bytes ≡ onto (take (prefix_len is_raw bytes) bytes) (backquoted (drop (prefix_len is_raw bytes) bytes))
raw_run = run_read is_raw backquoted (λ b bytes raw. cond-false (b == 96) _ _ (not-true (b == 96) raw))

plain_run : (bytes : List ℕ) → quoted 0 bytes ≡ onto (take (prefix_len is_plain bytes) bytes) (quoted 0 (drop (prefix_len is_plain bytes) bytes))
plain_run = run_read is_plain (quoted 0) (λ b bytes plain. cond-false (b == 34) _ _ (grind (arith, nat_tests)) ∙ cond-false (b == 92) _ _ (grind (arith, nat_tests)))

-- bytes that are passed over
quoted_skip : (skip : ℕ) (bytes : List ℕ) → quoted skip bytes ≡ quoted 0 (drop skip bytes)
quoted_skip (suc skip) (b ∷ bytes) = quoted_skip skip bytes
quoted_skip _ _ = refl

-- digits of which the last is none are no number
hex_last : (so_far : ℕ) (front : List ℕ) (d : ℕ) → hex_digit d ≡ None → hex_number so_far (front ++ d ∷ []) ≡ None
hex_last so_far [] d none = ap (option_and_then (λ digit. hex_number (16 * so_far + digit) [])) none
hex_last so_far (x ∷ front) d none = elim (hex_digit x) as (λ o. option_and_then (λ digit. hex_number (16 * so_far + digit) (front ++ d ∷ [])) o ≡ None)
    [ None ↦ refl | Some digit ↦ hex_last (16 * so_far + digit) front d none ]

-- the last byte of an escape is one of the text, and ASCII
abbrev pub EndsAscii : List ℕ → Option (ℕ × ℕ) → Type 0
EndsAscii bytes None = Unit {0}
EndsAscii bytes (Some e) = (0 < e.1) × (e.1 ≤ length bytes) × (get_or bytes (e.1 - 1) 0 < 128)

unicode_ascii : (b : ℕ) (bytes : List ℕ) → EndsAscii (b ∷ bytes) (option_map (λ c. (c, 5)) (unicode_at bytes))
unicode_ascii b (d1 ∷ d2 ∷ d3 ∷ d4 ∷ rest) = rw (le-ltb (length (d1 ∷ d2 ∷ d3 ∷ d4 ∷ rest)) 4 (omega arith)) (elim (cases_lt d4 128) [
  | inl small ↦ elim (option_and_then character (hex_number 0 (d1 ∷ d2 ∷ d3 ∷ d4 ∷ []))) as (λ o. EndsAscii (b ∷ d1 ∷ d2 ∷ d3 ∷ d4 ∷ rest) (option_map (λ c. (c, 5)) o)) [ None ↦ tt | Some c ↦ (omega arith, omega arith, small) ]
  | inr high ↦ rw (hex_last 0 (d1 ∷ d2 ∷ d3 ∷ []) d4 (grind (arith, nat_tests, high))) tt
])
unicode_ascii b _ = tt

-- a letter of the table
letter_ascii : (b : ℕ) (bytes : List ℕ) (table : Escapes) → are_ascii table ≡ true → EndsAscii (b ∷ bytes) (option_map (λ c. (c, 1)) (unescape table b))
letter_ascii b bytes [] h = tt
letter_ascii b bytes (entry ∷ table) h =
    let parts = and_parts (nat_lt entry.0 128 && nat_lt entry.1 128) (are_ascii table) h in
    let small : entry.1 < 128 = ltb-true entry.1 128 (and_parts (nat_lt entry.0 128) (nat_lt entry.1 128) parts.0).1 in
    cond_both (b == entry.1) (Some entry.0) (unescape table b) (λ o. EndsAscii (b ∷ bytes) (option_map (λ c. (c, 1)) o))
    (λ is. (omega arith, omega arith, omega (arith, small, eqb-true b entry.1 is))) (λ _. letter_ascii b bytes table parts.1)

pub escape_ascii : (bytes : List ℕ) → EndsAscii bytes (escape_at bytes)
escape_ascii [] = tt
escape_ascii (b ∷ bytes) = cond_both (b == 117) _ _ (EndsAscii (b ∷ bytes)) (λ _. unicode_ascii b bytes) (λ _. letter_ascii b bytes escapes refl)

-- an escape ends where the text may be cut
pub escape_boundary : (bytes : List ℕ) (c n : ℕ) → IsUtf8 bytes → ◌≡◌ {A = Option (ℕ × ℕ)} (Some (c, n)) (escape_at bytes) → IsCharBoundary bytes n
escape_boundary bytes c n utf8 is =
    let ends : EndsAscii bytes (Some (c, n)) = subst (EndsAscii bytes) (sym is) (escape_ascii bytes) in
    rest_ascii bytes n utf8 ends.1 (λ _. ends.2)

-- the byte after a run
pub stop_first : (p : ℕ → Bool) (rest following : List ℕ) → following ≡ drop (prefix_len p rest) rest → (length following == 0) ≡ false → p (get_or following 0 0) ≡ false
stop_first p rest following is more = stops p rest _ _ (sym is ∙ first_of following more)

-- a text between backquotes is the run, if a backquote follows it
pub raw_read : (bytes : List ℕ) → backquoted bytes ≡ cond (length (drop (prefix_len is_raw bytes) bytes) == 0) None (Some (take (prefix_len is_raw bytes) bytes, drop 1 (drop (prefix_len is_raw bytes) bytes)))
raw_read bytes = raw_run bytes ∙ by_after (drop (prefix_len is_raw bytes) bytes) refl
  where
    by_after : (following : List ℕ) → drop (prefix_len is_raw bytes) bytes ≡ following → onto (take (prefix_len is_raw bytes) bytes) (backquoted following) ≡ cond (length following == 0) None (Some (take (prefix_len is_raw bytes) bytes, drop 1 following))
    by_after [] is = refl
    by_after (b ∷ rest) is = ap (onto (take (prefix_len is_raw bytes) bytes)) (cond-true (b == 96) _ _ (not-false (b == 96) (stops is_raw bytes b rest is))) ∙ ap (λ t. Some (t, rest)) (append-nil (take (prefix_len is_raw bytes) bytes)) ∙ sym (cond-false (length (b ∷ rest) == 0) _ _ (ne_eqb (length (b ∷ rest)) 0 (λ e. omega (arith, e))))

-- what an escape is followed by
escape_left : (bytes : List ℕ) (e : Option (ℕ × ℕ)) (c : ℕ) (rest : List ℕ) → ◌≡◌ {A = Option (ℕ × List ℕ)} (Some (c, rest)) (option_map (λ (x : ℕ × ℕ). (x.0, drop x.1 bytes)) e)
    → (n : ℕ) × (◌≡◌ {A = Option (ℕ × ℕ)} (Some (c, n)) e) × (rest ≡ drop n bytes)
escape_left bytes None c rest is = absurd (let no : ⊥ = cc in no)
escape_left bytes (Some x) c rest is = let parts = some_pair_parts c x.0 rest (drop x.1 bytes) is in (x.1, (λ i. Some (parts.0 i, x.1)), parts.1)

pub escape_utf8 : (bytes : List ℕ) (c : ℕ) (rest : List ℕ) → IsUtf8 bytes → ◌≡◌ {A = Option (ℕ × List ℕ)} (Some (c, rest)) (escape_front bytes) → IsUtf8 rest
escape_utf8 bytes c rest utf8 is = let left = escape_left bytes (escape_at bytes) c rest is in subst IsUtf8 (sym left.2) (IsUtf8-drop bytes left.0 utf8 (escape_boundary bytes c left.0 utf8 left.1))

pub escape_shorter : (bytes : List ℕ) (c : ℕ) (rest : List ℕ) → ◌≡◌ {A = Option (ℕ × List ℕ)} (Some (c, rest)) (escape_front bytes) → length rest ≤ length bytes
escape_shorter bytes c rest is = let left = escape_left bytes (escape_at bytes) c rest is in omega (arith, ap length left.2, length-drop left.0 bytes)

-- what is left to read after the run at the front
pub record Left (whole : Option (List ℕ × List ℕ)) (so_far following : List ℕ) : Type 0 where
  pub read : onto so_far (quoted 0 following) ≡ whole
  pub stop : (length following == 0) ≡ false → is_plain (get_or following 0 0) ≡ false

pub left_of : {whole : Option (List ℕ × List ℕ)} (so_far rest : List ℕ) {front following pushed : List ℕ} → onto so_far (quoted 0 rest) ≡ whole → front ≡ take (prefix_len is_plain rest) rest → following ≡ drop (prefix_len is_plain rest) rest
    → pushed ≡ so_far ++ front → Left whole pushed following
left_of so_far rest {front} {following} read front_is behind_is pushed_is = record {
  read = ap (λ t. onto t (quoted 0 following)) pushed_is ∙ sym (onto-onto so_far front (quoted 0 following)) ∙ (λ i. onto so_far (onto (front_is i) (quoted 0 (behind_is i)))) ∙ sym (ap (onto so_far) (plain_run rest)) ∙ read;
  stop = stop_first is_plain rest following behind_is;
}

-- it is empty, begins with a quote, or begins with an escape
pub left_none : {whole : Option (List ℕ × List ℕ)} {so_far following : List ℕ} → Left whole so_far following → (length following == 0) ≡ true → None ≡ whole
left_none {so_far = so_far} {following = following} left ends = ap (λ t. onto so_far (quoted 0 t)) (sym (none_left following ends)) ∙ left.read

pub left_end : {whole : Option (List ℕ × List ℕ)} {so_far following : List ℕ} → Left whole so_far following → (length following == 0) ≡ false → get_or following 0 0 ≡ 34 → ◌≡◌ {A = Option (List ℕ × List ℕ)} (Some (so_far, drop 1 following)) whole
left_end {so_far = so_far} {following = following} left more quote = ap (λ t. Some (t, drop 1 following)) (sym (append-nil so_far)) ∙ ap (λ t. onto so_far (quoted 0 t)) (sym (first_of following more ∙ ap (λ b. b ∷ drop 1 following) quote)) ∙ left.read

-- an escape, and the text after it
abbrev pub onto_escape : List ℕ → Option (ℕ × List ℕ) → Option (List ℕ × List ℕ)
onto_escape so_far = λ e. onto so_far (option_and_then (λ (c : ℕ × List ℕ). onto (encode c.0) (quoted 0 c.1)) e)

pub left_escape : {whole : Option (List ℕ × List ℕ)} {so_far following : List ℕ} → Left whole so_far following → (length following == 0) ≡ false → (get_or following 0 0 ≡ 34 → ⊥) → onto_escape so_far (escape_front (drop 1 following)) ≡ whole
left_escape {so_far = so_far} {following = following} left more other =
    let backslash : get_or following 0 0 ≡ 92 = let stop = left.stop more in grind (arith, nat_tests) in
    let skipped = elim (escape_at (drop 1 following)) as (λ e. option_and_then (λ (c : ℕ × List ℕ). onto (encode c.0) (quoted 0 c.1)) (option_map (λ (x : ℕ × ℕ). (x.0, drop x.1 (drop 1 following))) e)
    ≡ option_and_then (λ (c : ℕ × ℕ). onto (encode c.0) (quoted c.1 (drop 1 following))) e)
    [ None ↦ refl | Some e ↦ ap (onto (encode e.0)) (sym (quoted_skip e.1 (drop 1 following))) ] in
    ap (onto so_far) skipped ∙ ap (λ t. onto so_far (quoted 0 t)) (sym (first_of following more ∙ ap (λ b. b ∷ drop 1 following) backslash)) ∙ left.read

pub escape_onto : (so_far next left : List ℕ) (c : ℕ) → next ≡ so_far ++ encode c → onto next (quoted 0 left) ≡ onto_escape so_far (Some (c, left))
escape_onto so_far next left c is = ap (λ t. onto t (quoted 0 left)) is ∙ sym (onto-onto so_far (encode c) (quoted 0 left))
