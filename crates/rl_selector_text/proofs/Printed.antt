-- What is printed is derived, piece by piece.
use Rattle.std.proofs.Common.{◌≡◌, ℕ, zero, suc, ◌+◌, ◌<◌, ◌≤◌, ◌==◌, Bool, true, false, cond, ◌||◌, List, [], ◌∷◌, ◌++◌, Some, None, length, refl, sym, ap, subst, ◌∙◌, arith, append_assoc, append-nil, length-append, one-add}
use Rattle.std.specs.List.{prefix_len, list_all}
use Rattle.std.specs.Char.{is_ascii_digit}
use Rattle.std.proofs.lemmas.Bool.{and_parts, and_from, true≢false, eqb-true, cond-true, cond-false, ne_eqb}
use Rattle.std.proofs.lemmas.Bool.Decides.{nat_tests}
use Rattle.std.proofs.Math.Seq.{take-append_seam, drop-append_seam}
use Rattle.std.proofs.Math.Utf8.{encode}
use Rattle.rl_labels.specs.Name.{is_name, is_name_start, is_name_byte}
use Rattle.rl_labels.specs.declared.matcher.MatchOp.{MatchOp}
use Rattle.rl_labels.specs.declared.matcher.MatchOp.TheVariants as operators
use Rattle.rl_query.specs.declared.filter.LineOp.{LineOp}
use Rattle.rl_query.specs.declared.filter.LineOp.TheVariants as lines
use Rattle.rl_query.specs.declared.token.Lexeme.{Lexeme}
use Rattle.rl_query.specs.declared.token.Sign.{Sign}
use Rattle.rl_query.specs.declared.token.Sign.TheVariants as signs
use Rattle.rl_query.specs.declared.token.Token.{Token}
use Rattle.rl_query.specs.declared.token.Token.TheVariants as tokens
use Rattle.rl_query.specs.Form.{MatcherForm, FilterForm, has_real_form}
use Rattle.rl_selector_text.specs.Standing.{Stand, operator_sign, is_matcher, Rule}
use Rattle.rl_selector_text.specs.Grammar.{matchers_tokens, filter_sign, filters_tokens, IsSelector}
use Rattle.rl_plain.specs.Runs.{onto, run_at}
use Rattle.rl_selector_text.specs.Lexing.{is_number_byte, gap_len, quoted, or_bad, sign_at, token_at, lexemes_in, lexemes_of}
use Rattle.rl_query.specs.MatcherPrinting.{operator_text, matcher_text}
use Rattle.rl_query.specs.Printing.{filter_op_text, filter_print, filters_text, matchers_text}
use Rattle.rl_plain.specs.Escapes.{escaped}
use Rattle.rl_selector_text.specs.TestGrammar.{ended}
use Rattle.rl_query.specs.Tables.{escapes, sign_text, one_byte, two_bytes}
use Rattle.rl_selector_text.proofs.QuantityTokens.{IsNumber}
use Rattle.std.specs.Option.{option_map}

-- what a text begins with is read as what R relates, and what is left of it
pub record Prints (R : Rule) (text rest : List ℕ) : Type 0 where
  pub reads : (total most : ℕ) → length text ≤ most → (left : ℕ) × (length rest ≤ left) × R (lexemes_in most total text) (lexemes_in left total rest)

-- what is printed as one thing is another
pub prints_as : {R S : Rule} {text rest : List ℕ} → Prints R text rest → ((a b : List Lexeme) → R a b → S a b) → Prints S text rest
prints_as prints turned = record { reads = λ total most few. let is = prints.reads total most few in (is.0, is.1, turned _ _ is.2) }

-- nothing, and what R says of it
pub prints_none : {R : Rule} (text : List ℕ) → ((a : List Lexeme) → R a a) → Prints R text text
prints_none text none = record { reads = λ total most few. (most, few, none _) }

-- one thing, and then another
abbrev pub Then : Rule → Rule → Rule
Then R S lexemes rest = (following : List Lexeme) × R lexemes following × S following rest

pub then_prints : {R S : Rule} {text following rest : List ℕ} → Prints R text following → Prints S following rest → Prints (Then R S) text rest
then_prints first second = record { reads = λ total most few. let a = first.reads total most few in let b = second.reads total a.0 a.1 in (b.0, b.1, (_, a.2, b.2)) }

-- a space is passed over
space_passed : (most total : ℕ) (text : List ℕ) → lexemes_in most total text ≡ lexemes_in most total (32 ∷ text)
unfolding lexemes_in
space_passed zero total text = refl
space_passed (suc most) total text = simp one-add

-- a space before it
pub spaced : {R : Rule} {text rest : List ℕ} → Prints R text rest → Prints R (32 ∷ text) rest
spaced prints = record { reads = λ total most few. let is = prints.reads total most (omega arith) in (is.0, is.1, rw (← space_passed most total _) is.2) }

-- and one after it
pub before_space : {R : Rule} {text : List ℕ} (rest : List ℕ) → Prints R text (32 ∷ rest) → Prints R text rest
before_space rest prints = record { reads = λ total most few. let is = prints.reads total most few in (is.0, omega (arith, is.1), rw (space_passed is.0 total rest) is.2) }

-- a token, and what R says of those after it
abbrev pub After : Token → Rule → Rule
After token R [] last = ⊥
After token R (lexeme ∷ lexemes) last = (lexeme.token ≡ token) × R lexemes last

-- a token at the front, with no gap before it, and what follows it
token_lexes : {R : Rule} {last : List ℕ} (token : Token) (b : ℕ) (bytes rest : List ℕ) → gap_len false (b ∷ bytes) ≡ 0 → token_at (b ∷ bytes) ≡ (token, rest) → length rest ≤ length bytes
    → Prints R rest last → Prints (After token R) (b ∷ bytes) last
unfolding lexemes_in
token_lexes {R} {last} token b bytes rest no_gap is shorter then = record { reads = by_most }
  where
    by_most : (total most : ℕ) → length (b ∷ bytes) ≤ most → (left : ℕ) × (length last ≤ left) × After token R (lexemes_in most total (b ∷ bytes)) (lexemes_in left total last)
    by_most total zero few = absurd (omega arith)
    by_most total (suc most) few = let following = then.reads total most (omega (arith, shorter)) in (following.0, following.1, rw (no_gap, ne_eqb (length (b ∷ bytes)) 0 (λ e. omega (arith, e)), is) (refl, following.2))

run_len : (p : ℕ → Bool) (run rest : List ℕ) → list_all p run ≡ true → prefix_len p rest ≡ 0 → prefix_len p (run ++ rest) ≡ length run
run_len p [] rest all stop = stop
run_len p (x ∷ run) rest all stop = let parts = and_parts (p x) (list_all p run) all in rw parts.0 (omega (arith, run_len p run rest parts.1 stop))

-- a run of bytes is read as one token
run_then : {R : Rule} {last : List ℕ} (p : ℕ → Bool) (token : List ℕ → Token) (b : ℕ) (run rest : List ℕ) → is_number_byte b ≡ true → list_all p (b ∷ run) ≡ true → prefix_len p rest ≡ 0
    → token_at (b ∷ run ++ rest) ≡ (token (run_at p (b ∷ run ++ rest)).0, (run_at p (b ∷ run ++ rest)).1) → Prints R rest last → Prints (After (token (b ∷ run)) R) (b ∷ run ++ rest) last
run_then p token b run rest is all stop read then =
    token_lexes _ b (run ++ rest) rest (grind (arith, nat_tests))
    (read ∙ rw (run_len p (b ∷ run) rest all stop, take-append_seam (b ∷ run) rest, drop-append_seam (b ∷ run) rest) refl) (omega (arith, length-append run rest)) then

-- words and numbers do not go on with what follows
abbrev pub Stops : List ℕ → Type 0
Stops rest = prefix_len is_number_byte rest ≡ 0

name_stops : (rest : List ℕ) → Stops rest → prefix_len is_name_byte rest ≡ 0
name_stops [] stop = refl
name_stops (b ∷ rest) stop = grind (arith, nat_tests)

-- an escaped text is read up to its closing quote
quoted_again : (value rest : List ℕ) → quoted 0 (escaped escapes value ++ 34 ∷ rest) ≡ Some (value, rest)
unfolding encode
quoted_again [] rest = refl
quoted_again (byte ∷ value) rest =
    let again = quoted_again value rest in
    escaped_by 92 92 (byte == 92) refl _ (ap (onto (92 ∷ [])) again) (λ a. escaped_by 34 34 (byte == 34) refl _ (ap (onto (34 ∷ [])) again) (λ b. escaped_by 10 110 (byte == 10) refl _ (ap (onto (10 ∷ [])) again)
    (λ _. escaped_by 13 114 (byte == 13) refl _ (ap (onto (13 ∷ [])) again) (λ _. escaped_by 9 116 (byte == 9) refl _ (ap (onto (9 ∷ [])) again) (λ _. cond-false (byte == 34) _ _ b ∙ cond-false (byte == 92) _ _ a ∙ ap (onto (byte ∷ [])) again)))))
  where
    escaped_by : (n letter : ℕ) (t : Bool) → (byte == n) ≡ t → (others : List ℕ) → quoted 0 (92 ∷ letter ∷ (escaped escapes value ++ 34 ∷ rest)) ≡ Some (n ∷ value, rest)
        → (t ≡ false → quoted 0 (others ++ escaped escapes value ++ 34 ∷ rest) ≡ Some (byte ∷ value, rest)) → quoted 0 (cond t (92 ∷ letter ∷ []) others ++ escaped escapes value ++ 34 ∷ rest) ≡ Some (byte ∷ value, rest)
    escaped_by n letter true is others here else = here ∙ ap (λ m. Some (m ∷ value, rest)) (sym (eqb-true byte n is))
    escaped_by n letter false is others here else = else refl

-- no longer sign begins with it
abbrev pub Ends : Sign → List ℕ → Type 0
Ends sign rest = sign_at (sign_text sign ++ rest) ≡ Some (sign, rest)

-- a sign of one byte, with which none of two begins
pub lone : (c : ℕ) (sign : Sign) → one_byte c ≡ Some sign → ((b : ℕ) → two_bytes c b ≡ None) → (rest : List ℕ) → sign_at (c ∷ rest) ≡ Some (sign, rest)
lone c sign one two [] = ap (option_map (λ s. (s, []))) one
lone c sign one two (b ∷ rest) = rw (two b, one) refl

-- a token as it is written, and what follows it
abbrev pub written : Token → List ℕ → List ℕ
written (tokens.Sign sign) rest = sign_text sign ++ rest
written (tokens.Word word) rest = word ++ rest
written (tokens.Number number) rest = number ++ rest
written (tokens.Text value) rest = 34 ∷ (escaped escapes value ++ 34 ∷ rest)
written _ rest = rest

-- a token ends where what follows it begins
abbrev pub Fits : Token → List ℕ → Type 0
Fits (tokens.Sign sign) rest = Ends sign rest
Fits (tokens.Word word) rest = (is_name word ≡ true) × Stops rest
Fits (tokens.Number number) rest = IsNumber number × Stops rest
Fits (tokens.Text value) rest = Unit {0}
Fits _ rest = ⊥

-- a token, and what is printed after it
pub token_then : {R : Rule} {last : List ℕ} (token : Token) (rest : List ℕ) → Fits token rest → Prints R rest last → Prints (After token R) (written token rest) last
unfolding token_at
token_then (tokens.Word []) rest fits then = absurd (true≢false (sym fits.0))
token_then (tokens.Word (b ∷ word)) rest fits then =
    let parts = and_parts (is_name_start b) (list_all is_name_byte word) fits.0 in
    run_then is_name_byte tokens.Word b word rest (grind (arith, nat_tests, parts.0)) (and_from _ _ (ap (λ t. t || is_ascii_digit b) parts.0) parts.1)
    (name_stops rest fits.1) (cond-true (is_name_start b) _ _ parts.0) then
token_then (tokens.Number number) rest fits then =
    let is = fits.0 in
    let no_name : is_name_start is.first ≡ false = grind (arith, nat_tests, is.digit) in
    rw is.is (run_then is_number_byte tokens.Number is.first is.others rest (grind (arith, nat_tests, is.digit)) (subst (λ n. list_all is_number_byte n ≡ true) is.is is.bytes) fits.1
    (cond-false (is_name_start is.first) _ _ no_name ∙ cond-true (is_ascii_digit is.first) _ _ is.digit) then)
token_then (tokens.Text value) rest fits then =
    token_lexes _ 34 (escaped escapes value ++ 34 ∷ rest) rest refl (ap (or_bad tokens.Text) (quoted_again value rest)) (omega (arith, length-append (escaped escapes value) (34 ∷ rest))) then
token_then (tokens.Sign signs.OpenBrace) rest ends then = token_lexes _ _ _ rest refl (ap (or_bad tokens.Sign) ends) (omega arith) then
token_then (tokens.Sign _) rest ends then = token_lexes _ _ _ rest refl (ap (or_bad tokens.Sign) ends) (omega arith) then
token_then _ rest fits then = absurd fits

pub done : {rest : List ℕ} → Prints (Stand []) rest rest
done {rest} = prints_none rest (λ _. refl)

pub opens : (rest : List ℕ) → Prints (Stand (tokens.Sign signs.OpenParenthesis ∷ [])) (40 ∷ rest) rest
opens rest = token_then (tokens.Sign signs.OpenParenthesis) rest (lone 40 _ refl (λ _. refl) rest) done

pub closes : (rest : List ℕ) → Prints (Stand (tokens.Sign signs.CloseParenthesis ∷ [])) (41 ∷ rest) rest
closes rest = token_then (tokens.Sign signs.CloseParenthesis) rest (lone 41 _ refl (λ _. refl) rest) done

-- the parts of a text may be grouped either way
pub regrouped : {R : Rule} {rest : List ℕ} (front middle following : List ℕ) → Prints R (front ++ (middle ++ following)) rest → Prints R ((front ++ middle) ++ following) rest
regrouped front middle following prints = rw (append_assoc front middle following) prints

-- words and numbers end before a sign
pub sign_stops : (sign : Sign) (rest : List ℕ) → Stops (sign_text sign ++ rest)
sign_stops signs.OpenBrace rest = refl
sign_stops _ rest = refl

-- an operator as its sign, before a quote
operator_is : (op : MatchOp) (rest : List ℕ) → (operator_text op ≡ sign_text (operator_sign op)) × Ends (operator_sign op) (34 ∷ rest)
operator_is operators.Equal rest = (refl, refl)
operator_is _ rest = (refl, refl)

pub matcher_then : {R : Rule} {last : List ℕ} (m : MatcherForm) (rest : List ℕ) → is_matcher m ≡ true → Prints R rest last
    → Prints (After (tokens.Word m.name) (After (tokens.Sign (operator_sign m.op)) (After (tokens.Text m.value) R))) (matcher_text m ++ rest) last
matcher_then m rest proper then = simp (append_assoc, (operator_is m.op rest).0)
    (token_then (tokens.Word m.name) _ ((and_parts (is_name m.name) _ proper).0, sign_stops (operator_sign m.op) _)
    (token_then (tokens.Sign (operator_sign m.op)) _ (operator_is m.op _).1 (token_then (tokens.Text m.value) rest tt then)))

matchers_print : (ms : List MatcherForm) (rest : List ℕ) → list_all is_matcher ms ≡ true → Prints (Stand (matchers_tokens ms)) (matchers_text ms ++ 125 ∷ rest) rest
matchers_print [] rest proper = token_then (tokens.Sign signs.CloseBrace) rest (lone 125 _ refl (λ _. refl) rest) done
matchers_print (m ∷ []) rest proper =
    regrouped (matcher_text m) [] (125 ∷ rest) (matcher_then m _ (and_parts (is_matcher m) true proper).0 (token_then (tokens.Sign signs.CloseBrace) rest (lone 125 _ refl (λ _. refl) rest) done))
matchers_print (m ∷ o ∷ os) rest proper =
    let parts = and_parts (is_matcher m) (list_all is_matcher (o ∷ os)) proper in
    regrouped (matcher_text m) _ (125 ∷ rest) (matcher_then m _ parts.0 (token_then (tokens.Sign signs.Comma) _ refl (spaced (matchers_print (o ∷ os) rest parts.1))))

pub selector_prints : (ms : List MatcherForm) (rest : List ℕ) → list_all is_matcher ms ≡ true → has_real_form ms ≡ true → Prints (IsSelector ms) (123 ∷ (matchers_text ms ++ 125 ∷ rest)) rest
selector_prints ms rest proper real = prints_as (token_then (tokens.Sign signs.OpenBrace) _ (lone 123 _ refl (λ _. refl) _) (matchers_print ms rest proper))
    (λ a b stand. record { stand = stand; proper = proper; real = real })

pub digit : (n : ℕ) → n < 10 → is_ascii_digit (48 + n) ≡ true
digit n small = grind (arith, nat_tests)

-- what is printed is read up to the end
pub prints_all : {R : Rule} (text : List ℕ) → Prints R (text ++ []) [] → R (lexemes_of text) (ended text)
unfolding lexemes_in
prints_all {R = R} text whole =
    let is = (rw (append-nil text) at whole).reads (length text) (length text) (omega arith) in
    subst (R (lexemes_of text)) (elim is.0 as (λ n. lexemes_in n (length text) [] ≡ ended text) [ zero ↦ refl | suc n ↦ refl ]) is.2

-- a line filter's sign as it is printed
filter_is : (op : LineOp) (rest : List ℕ) → (filter_op_text op ≡ sign_text (filter_sign op)) × Ends (filter_sign op) rest
filter_is lines.Contains rest = (refl, refl)
filter_is _ rest = (refl, refl)

pub filter_then : {R : Rule} {last : List ℕ} (filter : FilterForm) (rest : List ℕ) → Prints R rest last
    → Prints (After (tokens.Sign (filter_sign filter.op)) (After (tokens.Text filter.text) R)) (filter_print filter ++ rest) last
filter_then filter rest then = simp (append_assoc, (filter_is filter.op rest).0)
    (token_then (tokens.Sign (filter_sign filter.op)) _ (filter_is filter.op _).1 (spaced (token_then (tokens.Text filter.text) rest tt then)))

pub filters_print : (filters : List FilterForm) (rest : List ℕ) → Prints (Stand (filters_tokens filters)) (filters_text filters ++ rest) rest
filters_print [] rest = done
filters_print (filter ∷ filters) rest = spaced (regrouped (filter_print filter) (filters_text filters) rest (filter_then filter _ (filters_print filters rest)))
