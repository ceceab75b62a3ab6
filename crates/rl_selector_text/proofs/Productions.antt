-- The productions of selectors: what is read is derived, and what is derived is read.
use Rattle.std.proofs.Common.{◌≡◌, append_assoc, length-append, drop, inl, inr, ◌⊎◌, ℕ, zero, suc, ⊎_elim, ◌≤◌, Bool, true, false, cond, not, List, [], ◌∷◌, ◌++◌, Some, Result, Ok, Err, length, refl, sym, ap, subst, ◌∙◌, arith}
use Rattle.std.specs.List.{find, list_all}
use Rattle.std.proofs.lemmas.Option.{same_Some}
use Rattle.std.proofs.lemmas.Bool.{true≢false, and_parts, and_from, not-false, cond-true}
use Rattle.rl_labels.specs.Name.{is_name, is_text}
use Rattle.rl_labels.specs.Operators.{is_comparable}
use Rattle.rl_labels.specs.laws.LabelLaws.{same_text, is_text_itself}
use Rattle.rl_labels.specs.declared.matcher.MatchOp.{MatchOp}
use Rattle.rl_labels.specs.declared.matcher.MatchOp.TheVariants as operators
use Rattle.rl_selector_text.specs.Stops.{stop, offset_of}
use Rattle.rl_selector_text.specs.declared.stop.Stop.{Stop}
use Rattle.rl_query.specs.declared.fault.QueryFault.TheVariants as faults
use Rattle.rl_selector_text.specs.declared.front.Position.{Position}
use Rattle.rl_selector_text.specs.declared.front.Position.TheVariants as positions
use Rattle.rl_query.specs.declared.token.Lexeme.{Lexeme}
use Rattle.rl_query.specs.declared.token.Sign.{Sign}
use Rattle.rl_query.specs.declared.token.Sign.TheVariants as signs
use Rattle.rl_query.specs.declared.token.Token.{Token}
use Rattle.rl_query.specs.declared.token.Token.TheVariants as tokens
use Rattle.rl_query.specs.Form.{MatcherForm, has_real_form}
use Rattle.rl_selector_text.specs.Standing.{Stand, operator_sign, is_matcher, matcher_tokens}
use Rattle.rl_selector_text.specs.Grammar.{matchers_tokens, IsSelector}
use Rattle.rl_selector_text.specs.Lexing.{sign_at}
use Rattle.rl_selector_text.specs.Fronts.{is_sign, next, expected, name_of, content_of, operator_of, checked_matcher, row_at, matcher_at}
use Rattle.rl_selector_text.specs.Parsing.{item_at, listed_at, some_matcher, selector_at}
use Rattle.rl_query.specs.Tables.{sign_text}
use Rattle.rl_selector_text.proofs.Finding.{Finds, found, fault, itself, then, by_test, checked, next_found, stands_as}

pub chosen : {A : Type 0} (b : Bool) (x y z : A) → cond b x y ≡ z → ((b ≡ true) × (x ≡ z)) ⊎ ((b ≡ false) × (y ≡ z))
chosen true x y z h = inl (refl, h)
chosen false x y z h = inr (refl, h)

-- what is found by its text has it
pub text_found : {A : Type 0} (text : A → List ℕ) (word : List ℕ) (xs : List A) (x : A) → find (λ y. is_text word (text y)) xs ≡ Some x → word ≡ text x
text_found text word [] x is = cc
text_found text word (y ∷ ys) x is =
    ⊎_elim (λ yes. same_text word (text y) yes.0 ∙ ap text (same_Some y x yes.1)) (λ other. text_found text word ys x other.1) (chosen (is_text word (text y)) _ _ _ is)

-- tokens that stand at the front, and others after them
pub stand_then : (front others : List Token) (lexemes following rest : List Lexeme) → Stand front lexemes following → Stand others following rest → Stand (front ++ others) lexemes rest
stand_then [] others lexemes following rest first second = subst (λ ls. Stand others ls rest) (sym first) second
stand_then (t ∷ front) others [] following rest first second = absurd first
stand_then (t ∷ front) others (l ∷ lexemes) following rest first second = (first.0, stand_then front others lexemes following rest first.1 second)

-- tokens that stand one after the other
pub stand_split : (front others : List Token) (lexemes rest : List Lexeme) → Stand (front ++ others) lexemes rest → (middle : List Lexeme) × Stand front lexemes middle × Stand others middle rest
stand_split [] others lexemes rest stand = (lexemes, refl, stand)
stand_split (t ∷ front) others [] rest stand = absurd stand
stand_split (t ∷ front) others (l ∷ lexemes) rest stand = let s = stand_split front others lexemes rest stand.1 in (s.0, (stand.0, s.1), s.2)

stand_length : (ts : List Token) (lexemes rest : List Lexeme) → Stand ts lexemes rest → length ts ≤ length lexemes
stand_length [] lexemes rest stand = omega arith
stand_length (t ∷ ts) [] rest stand = absurd stand
stand_length (t ∷ ts) (l ∷ lexemes) rest stand = omega (arith, stand_length ts lexemes rest stand.1)

-- the token at the front, and those after it
pub record Next (token : Token) (others : List Token) (lexemes rest : List Lexeme) : Type 0 where
  pub offset : ℕ
  pub following : List Lexeme
  pub is : next lexemes ≡ Ok (record { token = token; offset = offset }, following)
  pub more : Stand others following rest

pub next_is : (token : Token) (others : List Token) (lexemes rest : List Lexeme) → Stand (token ∷ others) lexemes rest → Next token others lexemes rest
next_is token others [] rest stand = absurd stand
next_is token others (l ∷ lexemes) rest stand = record { offset = l.offset; following = lexemes; is = ap (λ t. Ok (record { token = t; offset = l.offset }, lexemes)) stand.0; more = stand.1 }

-- the token at the front passes a test
pub record First (Passes : Token → Type 0) (lexemes : List Lexeme) : Type 0 where
  pub first : Lexeme
  pub following : List Lexeme
  pub is : next lexemes ≡ Ok (first, following)
  pub passes : Passes first.token

pub first_at : {Passes : Token → Type 0} (token : Token) (others : List Token) (lexemes rest : List Lexeme) → Stand (token ∷ others) lexemes rest → Passes token → First Passes lexemes
first_at token others lexemes rest stand passes = let n = next_is token others lexemes rest stand in record { first = record { token = token; offset = n.offset }; following = n.following; is = n.is; passes = passes }

pub first_half : {Passes Others : Token → Type 0} {lexemes : List Lexeme} → First (λ token. Passes token × Others token) lexemes → First Passes lexemes
first_half first = record { first = first.first; following = first.following; is = first.is; passes = first.passes.0 }

-- signs, by what they are written as
sign_read : (s : Sign) → sign_at (sign_text s) ≡ Some (s, [])
sign_read signs.OpenBrace = refl
sign_read _ = refl

one_sign : (s t : Sign) → is_text (sign_text s) (sign_text t) ≡ true → s ≡ t
one_sign s t h =
    let pairs : ◌≡◌ {A = Sign × List ℕ} (s, []) (t, []) = cc (sign_read s, ap sign_at (same_text (sign_text s) (sign_text t) h), sign_read t) in
    ap (λ (p : Sign × List ℕ). p.0) pairs

pub only_sign : (s : Sign) (t : Token) → is_sign s t ≡ true → t ≡ tokens.Sign s
only_sign s (tokens.Sign x) h = ap tokens.Sign (one_sign x s h)
only_sign s _ h = absurd (true≢false (sym h))

pub expected_found : (sign : Sign) (position : Position) (lexemes : List Lexeme) → Finds (λ rest. Stand (tokens.Sign sign ∷ []) lexemes rest) (expected sign position lexemes)
unfolding expected
expected_found sign position lexemes = then _ (next_found lexemes) (λ first stand. by_test (is_sign sign first.0.token) (λ is. found (stands_as lexemes first.1 (only_sign sign first.0.token is) stand)) (λ _. fault))

-- tokens, placed at the offsets of others, and what follows them
abbrev pub placed : List Token → List Lexeme → List Lexeme → List Lexeme
placed [] lexemes rest = rest
placed (t ∷ ts) lexemes rest = record { token = t; offset = offset_of lexemes } ∷ placed ts (drop 1 lexemes) rest

-- tokens that stand at the front are placed so
pub stood : (ts : List Token) (lexemes rest : List Lexeme) → Stand ts lexemes rest → lexemes ≡ placed ts lexemes rest
stood [] lexemes rest stand = stand
stood (t ∷ ts) [] rest stand = absurd stand
stood (t ∷ ts) (l ∷ ls) rest stand = λ i. record { token = stand.0 i; offset = l.offset } ∷ stood ts ls rest stand.1 i

pub expected_is : (sign : Sign) (position : Position) (lexemes rest : List Lexeme) → Stand (tokens.Sign sign ∷ []) lexemes rest → expected sign position lexemes ≡ Ok rest
unfolding expected
expected_is sign position lexemes rest stand = rw (stood (tokens.Sign sign ∷ []) lexemes rest stand) (cond-true (is_sign sign (tokens.Sign sign)) _ _ (is_text_itself (sign_text sign)))

pub named_found : (offset : ℕ) (t : Token) → Finds (λ name. t ≡ tokens.Word name) (name_of offset t)
named_found offset (tokens.Word w) = found refl
named_found offset _ = fault

content_found : (offset : ℕ) (t : Token) → Finds (λ value. t ≡ tokens.Text value) (content_of offset t)
content_found offset (tokens.Text w) = found refl
content_found offset _ = fault

operator_found : (offset : ℕ) (t : Token) → Finds (λ op. t ≡ tokens.Sign (operator_sign op)) (operator_of offset t)
operator_found offset (tokens.Sign signs.Equal) = found refl
operator_found offset (tokens.Sign signs.NotEqual) = found refl
operator_found offset (tokens.Sign signs.Matches) = found refl
operator_found offset (tokens.Sign signs.NotMatches) = found refl
operator_found offset (tokens.Sign _) = fault
operator_found offset _ = fault

operator_is : (offset : ℕ) (op : MatchOp) → operator_of offset (tokens.Sign (operator_sign op)) ≡ Ok op
operator_is offset operators.Equal = refl
operator_is offset _ = refl

checked_found : (offset : ℕ) (m : MatcherForm) → Finds (λ made. (is_matcher m ≡ true) × (m ≡ made)) (checked_matcher offset m)
checked_found offset m = by_test (not (is_name m.name)) (λ _. fault)
    (λ named. by_test (is_comparable m.op m.value) (λ comparable. found (and_from (is_name m.name) _ (not-false _ named) comparable, refl)) (λ _. fault))

-- name="value", or another operator
pub record IsMatcher (m : MatcherForm) (lexemes rest : List Lexeme) : Type 0 where
  pub stand : Stand (matcher_tokens m) lexemes rest
  pub proper : is_matcher m ≡ true

-- a row that is read: its tokens stand there, and each is read as what it is
pub row_found : {Op Value Made : Type 0} {OpIs : Op → Token → Type 0} {ValueIs : Value → Token → Type 0} {Q : Made × List Lexeme → Type 0} (op_of : ℕ → Token → Result Op Stop) (value_of : ℕ → Token → Result Value Stop) (made : ℕ → List ℕ → Op → Value → Result Made Stop) (lexemes : List Lexeme)
    → ((offset : ℕ) (t : Token) → Finds (λ op. OpIs op t) (op_of offset t)) → ((offset : ℕ) (t : Token) → Finds (λ value. ValueIs value t) (value_of offset t))
    → ((offset : ℕ) (name : List ℕ) (sign content : Token) (op : Op) (value : Value) (rest : List Lexeme) → Stand (tokens.Word name ∷ sign ∷ content ∷ []) lexemes rest → OpIs op sign → ValueIs value content → Finds (λ whole. Q (whole, rest)) (made offset name op value)) → Finds Q (row_at op_of value_of made lexemes)
row_found op_of value_of made lexemes ops values whole =
    then _ (next_found lexemes) (λ first a.
    then _ (named_found first.0.offset first.0.token) (λ name b.
    then _ (next_found first.1) (λ second c.
    then _ (ops second.0.offset second.0.token) (λ op d.
    then _ (next_found second.1) (λ third e.
    then _ (values third.0.offset third.0.token) (λ value f.
    then _ (whole first.0.offset name second.0.token third.0.token op value third.1 (stand_then (tokens.Word name ∷ []) (second.0.token ∷ third.0.token ∷ []) lexemes first.1 third.1 (stands_as lexemes first.1 b a) (stand_then (second.0.token ∷ []) (third.0.token ∷ []) first.1 second.1 third.1 c e)) d f) (λ made is. found is)))))))

pub matcher_found : (lexemes : List Lexeme) → Finds (λ x. IsMatcher x.0 lexemes x.1) (matcher_at lexemes)
unfolding matcher_at
matcher_found lexemes = row_found {Q = λ x. IsMatcher x.0 lexemes x.1} operator_of content_of _ lexemes operator_found content_found (λ offset name sign content op value rest stand sign_is content_is.
    let read : MatcherForm = record { name = name; op = op; value = value } in
    let there = subst (λ ts. Stand ts lexemes rest) (λ i. tokens.Word name ∷ sign_is i ∷ content_is i ∷ []) stand in
    record { is = λ m h. let proper = (checked_found offset read).is m h in subst (λ x. IsMatcher x lexemes rest) proper.1 (record { stand = there; proper = proper.0 }) })

pub matcher_is : (m : MatcherForm) (lexemes rest : List Lexeme) → Stand (matcher_tokens m) lexemes rest → is_matcher m ≡ true → matcher_at lexemes ≡ Ok (m, rest)
unfolding matcher_at
matcher_is m lexemes rest stand is =
    let parts = and_parts (is_name m.name) (is_comparable m.op m.value) is in
    rw (stood (matcher_tokens m) lexemes rest stand, operator_is (offset_of (drop 1 lexemes)) m.op, parts.0, parts.1) refl

-- What is listed with commas.

-- the sign after an item: a comma where another follows, or what closes the list
abbrev pub follows : Sign → Bool → Token
follows close more = tokens.Sign (cond more signs.Comma close)

pub follows_found : (close : Sign) (t : Token) (e : Stop) → Finds (λ more. t ≡ follows close more) (cond (is_sign signs.Comma t) (Ok true) (cond (is_sign close t) (Ok false) (Err e)))
follows_found close t e = by_test (is_sign signs.Comma t) (λ is. found (only_sign signs.Comma t is)) (λ _. by_test (is_sign close t) (λ is. found (only_sign close t is)) (λ _. fault))

-- an item that is read stands there with the sign after it, and is proper
abbrev pub IsSoundItem : {A : Type 0} → (A → List Token) → (A → Bool) → Sign → (List Lexeme → Result (A × Bool × List Lexeme) Stop) → Type 0
IsSoundItem {A} of_one proper close item = (lexemes : List Lexeme) → Finds (λ x. Stand (of_one x.0 ++ follows close x.1 ∷ []) lexemes x.2 × (proper x.0 ≡ true)) (item lexemes)

-- and one that stands there is read
abbrev pub IsCompleteItem : {A : Type 0} → (A → List Token) → (A → Bool) → Sign → (List Lexeme → Result (A × Bool × List Lexeme) Stop) → Type 0
IsCompleteItem {A} of_one proper close item = (lexemes : List Lexeme) (x : A) (more : Bool) (rest : List Lexeme) → Stand (of_one x ++ follows close more ∷ []) lexemes rest → proper x ≡ true → item lexemes ≡ Ok (x, more, rest)

-- items, one at least, by the tokens of all
abbrev pub AreListed : {A : Type 0} → (List A → List Token) → (A → Bool) → List A → List Lexeme → List Lexeme → Type 0
AreListed all proper xs lexemes rest = Stand (all xs) lexemes rest × (list_all proper xs ≡ true) × (1 ≤ length xs)

-- the sign that closes the list stands after those of the last
module _ {A : Type 0} (of_one : A → List Token) (proper : A → Bool) (close : Sign) (item : List Lexeme → Result (A × Bool × List Lexeme) Stop) (all : List A → List Token)
    (last : (x : A) → all (x ∷ []) ≡ of_one x ++ follows close false ∷ []) (more : (x y : A) (ys : List A) → all (x ∷ y ∷ ys) ≡ of_one x ++ follows close true ∷ all (y ∷ ys)) where
  join : (x : A) (others : List A) (lexemes following rest : List Lexeme) → Stand (of_one x ++ follows close true ∷ []) lexemes following → proper x ≡ true → AreListed all proper others following rest → AreListed all proper (x ∷ others) lexemes rest
  join x [] lexemes following rest stand is others = absurd (omega (arith, others.2))
  join x (y ∷ ys) lexemes following rest stand is others =
      let both = stand_then (of_one x ++ follows close true ∷ []) (all (y ∷ ys)) lexemes following rest stand others.0 in
      (subst (λ ts. Stand ts lexemes rest) (append_assoc (of_one x) (follows close true ∷ []) _ ∙ sym (more x y ys)) both, and_from (proper x) _ is others.1, omega arith)

  pub listed_found : IsSoundItem of_one proper close item → (most : ℕ) (lexemes : List Lexeme) → Finds (λ x. AreListed all proper x.0 lexemes x.1) (listed_at item most lexemes)
  unfolding listed_at
  listed_found sound zero lexemes = fault
  listed_found sound (suc most) lexemes = then _ (sound lexemes) (λ first one. by_test first.1
      (λ goes_on. then _ (listed_found sound most first.2) (λ others are. found (join first.0 others.0 lexemes first.2 others.1 (subst (λ b. Stand (of_one first.0 ++ follows close b ∷ []) lexemes first.2) goes_on one.0) one.1 are)))
      (λ ends. found (subst (λ ts. Stand ts lexemes first.2) (ap (λ b. of_one first.0 ++ follows close b ∷ []) ends ∙ sym (last first.0)) one.0, and_from (proper first.0) true one.1 refl, omega arith)))

  -- no more items than tokens
  few_listed : (x : A) (xs : List A) → length (x ∷ xs) ≤ length (all (x ∷ xs))
  few_listed x [] = omega (arith, ap length (last x), length-append (of_one x) (follows close false ∷ []))
  few_listed x (y ∷ ys) = omega (arith, ap length (more x y ys), length-append (of_one x) (follows close true ∷ all (y ∷ ys)), few_listed y ys)

  listed_within : IsCompleteItem of_one proper close item → (most : ℕ) (x : A) (xs : List A) (lexemes rest : List Lexeme) → Stand (all (x ∷ xs)) lexemes rest → list_all proper (x ∷ xs) ≡ true → length (x ∷ xs) ≤ most → listed_at item most lexemes ≡ Ok (x ∷ xs, rest)
  unfolding listed_at
  listed_within complete zero x xs lexemes rest stand are few = absurd (omega (arith, few))
  listed_within complete (suc most) x [] lexemes rest stand are few = rw (complete lexemes x false rest (subst (λ ts. Stand ts lexemes rest) (last x) stand) (and_parts (proper x) true are).0) refl
  listed_within complete (suc most) x (y ∷ ys) lexemes rest stand are few =
      let parts = and_parts (proper x) (list_all proper (y ∷ ys)) are in
      let split = stand_split (of_one x ++ follows close true ∷ []) (all (y ∷ ys)) lexemes rest (subst (λ ts. Stand ts lexemes rest) (more x y ys ∙ sym (append_assoc (of_one x) (follows close true ∷ []) _)) stand) in
      rw (complete lexemes x true split.0 split.1 parts.0, listed_within complete most y ys split.0 rest split.2 parts.1 (omega (arith, few))) refl

  pub listed_is : IsCompleteItem of_one proper close item → (x : A) (xs : List A) (lexemes rest : List Lexeme) → Stand (all (x ∷ xs)) lexemes rest → list_all proper (x ∷ xs) ≡ true → listed_at item (length lexemes) lexemes ≡ Ok (x ∷ xs, rest)
  listed_is complete x xs lexemes rest stand are = listed_within complete (length lexemes) x xs lexemes rest stand are (omega (arith, few_listed x xs, stand_length _ lexemes rest stand))

  -- the tokens of the first stand at the front
  pub first_listed : (x : A) (xs : List A) → (others : List Token) × (all (x ∷ xs) ≡ of_one x ++ others)
  first_listed x [] = (follows close false ∷ [], last x)
  first_listed x (y ∷ ys) = (follows close true ∷ all (y ∷ ys), more x y ys)

-- A selector.

item_found : IsSoundItem matcher_tokens is_matcher signs.CloseBrace item_at
unfolding item_at
item_found lexemes =
    then _ (matcher_found lexemes) (λ matcher is.
    then _ (next_found matcher.1) (λ sign stand.
    then _ (follows_found signs.CloseBrace sign.0.token _) (λ more shown.
    found (stand_then (matcher_tokens matcher.0) (follows signs.CloseBrace more ∷ []) lexemes matcher.1 sign.1 is.stand (stands_as matcher.1 sign.1 shown stand), is.proper))))

item_is : IsCompleteItem matcher_tokens is_matcher signs.CloseBrace item_at
unfolding item_at
item_is lexemes m true rest stand is =
    let split = stand_split (matcher_tokens m) (tokens.Sign signs.Comma ∷ []) lexemes rest stand in
    rw (matcher_is m lexemes split.0 split.1 is, stood (tokens.Sign signs.Comma ∷ []) split.0 rest split.2) refl
item_is lexemes m false rest stand is =
    let split = stand_split (matcher_tokens m) (tokens.Sign signs.CloseBrace ∷ []) lexemes rest stand in
    rw (matcher_is m lexemes split.0 split.1 is, stood (tokens.Sign signs.CloseBrace ∷ []) split.0 rest split.2) refl

pub selector_found : (lexemes braced : List Lexeme) → Stand (tokens.Sign signs.OpenBrace ∷ []) lexemes braced → Finds (λ x. IsSelector x.0 lexemes x.1) (selector_at braced)
unfolding selector_at
selector_found lexemes braced opened =
    then _ (next_found braced) (λ first _.
    then _ (itself (some_matcher first.0.offset first.0.token)) (λ _ _.
    then _ (listed_found matcher_tokens is_matcher signs.CloseBrace item_at matchers_tokens (λ _. refl) (λ _ _ _. refl) item_found (length braced) braced) (λ read are.
    then _ (checked (has_real_form read.0) read.0 (stop faults.NoRealMatcher (offset_of read.1))) (λ matchers is.
    let stand = stand_then (tokens.Sign signs.OpenBrace ∷ []) (matchers_tokens read.0) lexemes braced read.1 opened are.0 in
    found (subst (λ ms. IsSelector ms lexemes read.1) is.1 (record { stand = stand; proper = are.1; real = is.0 }))))))

pub selector_is : (ms : List MatcherForm) (lexemes rest : List Lexeme) → IsSelector ms lexemes rest → (braced : List Lexeme) × (expected signs.OpenBrace positions.Elsewhere lexemes ≡ Ok braced) × (selector_at braced ≡ Ok (ms, rest))
unfolding selector_at
selector_is [] lexemes rest is = absurd (true≢false (sym is.real))
selector_is (m ∷ ms) lexemes rest is =
    let split = stand_split (tokens.Sign signs.OpenBrace ∷ []) (matchers_tokens (m ∷ ms)) lexemes rest is.stand in
    let listed = first_listed matcher_tokens is_matcher signs.CloseBrace item_at matchers_tokens (λ _. refl) (λ _ _ _. refl) m ms in
    let first = next_is (tokens.Word m.name) (tokens.Sign (operator_sign m.op) ∷ tokens.Text m.value ∷ listed.0) split.0 rest (subst (λ ts. Stand ts split.0 rest) listed.1 split.2) in
    let read = listed_is matcher_tokens is_matcher signs.CloseBrace item_at matchers_tokens (λ _. refl) (λ _ _ _. refl) item_is m ms split.0 rest split.2 is.proper in
    (split.0, expected_is signs.OpenBrace positions.Elsewhere lexemes split.0 split.1, rw (first.is, read, is.real) refl)
