-- The tokens of a query have a pattern exactly where the query has one.
use Rattle.std.proofs.Common.{◌≡◌, ℕ, zero, suc, ◌==◌, Bool, true, false, cond, ◌&&◌, ◌||◌, List, [], ◌∷◌, length, drop, Option, Some, None, refl, sym, ap, subst, inl, inr}
use Rattle.std.proofs.Math.Bool.{or-false, or_assoc, and-true, and-false}
use Rattle.std.proofs.lemmas.Bool.{cond_both}
use Rattle.std.specs.Char.{is_ascii_digit}
use Rattle.rl_labels.specs.Name.{is_name_start}
use Rattle.rl_labels.specs.Operators.{is_by_pattern}
use Rattle.rl_labels.specs.declared.matcher.MatchOp.{MatchOp}
use Rattle.rl_labels.specs.declared.matcher.MatchOp.TheVariants as operators
use Rattle.rl_query.specs.declared.filter.LineOp.{LineOp}
use Rattle.rl_query.specs.declared.filter.LineOp.TheVariants as lines
use Rattle.rl_query.specs.declared.label_test.Join.{Join}
use Rattle.rl_query.specs.declared.label_test.Join.TheVariants.{And, Or}
use Rattle.rl_query.specs.declared.token.Lexeme.{Lexeme}
use Rattle.rl_query.specs.declared.token.Sign.{Sign}
use Rattle.rl_query.specs.declared.token.Token.{Token}
use Rattle.rl_query.specs.declared.token.Token.TheVariants as tokens
use Rattle.rl_query.specs.Form.{MatcherForm, FilterForm, TestForm, by_text, by_quantity, StageForm, by_filter, by_tests, SieveForm, has_pattern, filters_have_pattern, test_has_pattern, stage_has_pattern, stages_have_pattern, sieve_has_pattern}
use Rattle.rl_query.specs.Limits.{is_line_pattern}
use Rattle.rl_query.specs.TestTree.{TestTree, any_test}
use Rattle.rl_selector_text.proofs.Productions.{placed}
use Rattle.rl_selector_text.specs.Grammar.{matchers_tokens, filter_sign, filter_tokens, filters_tokens, IsStage, AreChained, DerivesSieve}
use Rattle.rl_selector_text.specs.Lexing.{gap_len, quoted, backquoted, sign_at, or_bad, token_at, lexemes_in, lexemes_of}
use Rattle.rl_selector_text.specs.Meeting.{precedes_pattern, has_pattern_token, ends_before_pattern}
use Rattle.rl_selector_text.specs.Standing.{Stand, operator_sign}
use Rattle.rl_selector_text.specs.TestGrammar.{Rule, test_name, Compares, IsOne, alone, in_parentheses, Joins, AreJoined, part, more, AreInside}
use Rattle.rl_selector_text.specs.Testing.{is_content}

-- The end of a text is the last of its tokens.

abbrev IsEnded : List Lexeme → Type 0
IsEnded [] = Unit {0}
IsEnded (lexeme ∷ lexemes) = (lexeme.token ≡ tokens.End → lexemes ≡ []) × IsEnded lexemes

no_end : (bytes : List ℕ) → (length bytes == 0) ≡ false → (token_at bytes).0 ≡ tokens.End → ⊥
unfolding token_at
no_end [] some h = cc
no_end (b ∷ bs) some h =
    either (is_name_start b) _ _ (λ h. cc) (either (is_ascii_digit b) _ _ (λ h. cc) (either (b == 34) _ _ (bad_or tokens.Text (quoted 0 bs) (λ x h. cc))
    (either (b == 96) _ _ (bad_or tokens.Text (backquoted bs) (λ x h. cc)) (bad_or tokens.Sign (sign_at (b ∷ bs)) (λ x h. cc))))) h
  where
    either : (b : Bool) (x y : Token × List ℕ) → (x.0 ≡ tokens.End → ⊥) → (y.0 ≡ tokens.End → ⊥) → (cond b x y).0 ≡ tokens.End → ⊥
    either true x y first second = first
    either false x y first second = second

    bad_or : {A : Type 0} (token : A → Token) (read : Option (A × List ℕ)) → ((x : A) → token x ≡ tokens.End → ⊥) → (or_bad token read).0 ≡ tokens.End → ⊥
    bad_or token None other h = cc
    bad_or token (Some x) other h = other x.0 h

ended_in : (most total : ℕ) (bytes : List ℕ) → IsEnded (lexemes_in most total bytes)
unfolding lexemes_in
ended_in zero total bytes = ((λ _. refl), tt)
ended_in (suc most) total bytes =
    let start = drop (gap_len false bytes) bytes in
    cond_both (length start == 0) _ _ IsEnded (λ _. ((λ _. refl), tt)) (λ is. ((λ h. absurd (no_end start is h)), ended_in most total (token_at start).1))

-- Between tokens and those that follow them stands a pattern, or none.
pub record Meets (patterned : Bool) (lexemes rest : List Lexeme) : Type 0 where
  pub patterns : has_pattern_token false lexemes ≡ (patterned || has_pattern_token false rest)
  pub ended : IsEnded lexemes → IsEnded rest

pub then : {p q : Bool} {lexemes following rest : List Lexeme} → Meets p lexemes following → Meets q following rest → Meets (p || q) lexemes rest
then {p} {q} {lexemes} {following} {rest} first second = record { patterns = rw (first.patterns, second.patterns) (sym (or_assoc p q _)); ended = λ e. second.ended (first.ended e) }

-- something without a pattern follows it
pub then_none : {p : Bool} {lexemes following rest : List Lexeme} → Meets p lexemes following → Meets false following rest → Meets p lexemes rest
then_none {p} {lexemes} {following} {rest} first second = subst (λ b. Meets b lexemes rest) (or-false p) (then first second)

-- tokens have a pattern, or none, and no sign of patterns stands at their end
abbrev pub Have : List Token → Bool → Type 0
Have ts patterned = (has_pattern_token false (placed ts [] []) ≡ patterned) × (ends_before_pattern false (placed ts [] []) ≡ false)

stand_has : (following : Bool) (ts : List Token) (lexemes rest : List Lexeme) → Stand ts lexemes rest
    → (has_pattern_token following lexemes ≡ (has_pattern_token following (placed ts [] []) || has_pattern_token (ends_before_pattern following (placed ts [] [])) rest)) × (IsEnded lexemes → IsEnded rest)
stand_has following [] lexemes rest same = (ap (has_pattern_token following) same, subst IsEnded same)
stand_has following (t ∷ ts) [] rest stand = absurd stand
stand_has following (t ∷ ts) (l ∷ ls) rest stand =
    let others = stand_has (precedes_pattern t) ts ls rest stand.1 in
    (rw (stand.0, others.0) (sym (or_assoc (following && is_content t) _ _)), λ e. others.1 e.1)

pub stands : (ts : List Token) {p : Bool} {lexemes rest : List Lexeme} → Have ts p → Stand ts lexemes rest → Meets p lexemes rest
stands ts {p} {lexemes} {rest} have stand = let s = stand_has false ts lexemes rest stand in record { patterns = rw (have.0, have.1) at s.0; ended = s.1 }

-- Selectors, line filters and ranges.

operator_patterns : (op : MatchOp) → precedes_pattern (tokens.Sign (operator_sign op)) ≡ is_by_pattern op
operator_patterns operators.Equal = refl
operator_patterns _ = refl

pub matchers_have : (ms : List MatcherForm) → Have (matchers_tokens ms) (has_pattern ms)
matchers_have [] = (refl, refl)
matchers_have (m ∷ []) = (simp (and-true, operator_patterns), refl)
matchers_have (m ∷ o ∷ os) = (simp (and-true, operator_patterns, (matchers_have (o ∷ os)).0), (matchers_have (o ∷ os)).1)

line_patterns : (op : LineOp) → precedes_pattern (tokens.Sign (filter_sign op)) ≡ is_line_pattern op
line_patterns lines.Contains = refl
line_patterns _ = refl

filters_have : (fs : List FilterForm) → Have (filters_tokens fs) (filters_have_pattern fs)
filters_have [] = (refl, refl)
filters_have (f ∷ fs) = (simp (and-true, line_patterns, (filters_have fs).0), (filters_have fs).1)

-- Label tests.

compared : (test : TestForm) (name : List ℕ) (sign : Sign) (value : Token) → Compares test sign value → Have (tokens.Word name ∷ tokens.Sign sign ∷ value ∷ []) (test_has_pattern test)
compared (by_text m) name sign value is = rw (is.0, is.1) (simp (and-true, or-false, operator_patterns), refl)
compared (by_quantity test) name sign value is = rw is.1.1 (simp and-false, refl)

abbrev TestsMeet : Rule → Type 0
TestsMeet Rule = (tests : TestTree TestForm) (lexemes rest : List Lexeme) → Rule tests lexemes rest → Meets (any_test test_has_pattern tests) lexemes rest

one_meets : {Inside : Rule} → TestsMeet Inside → TestsMeet (IsOne Inside)
one_meets inside _ _ _ (alone test lexemes rest is) = stands (_ ∷ _ ∷ _ ∷ []) (compared test (test_name test) is.sign is.value is.compares) is.stand
one_meets inside _ _ _ (in_parentheses tests lexemes following end rest opened is closed) =
    then (stands (_ ∷ []) (refl, refl) opened) (then_none (inside tests following end is) (stands (_ ∷ []) (refl, refl) closed))

joins_meet : (join : Join) {lexemes rest : List Lexeme} → Joins join lexemes rest → Meets false lexemes rest
joins_meet And (inl word) = stands (_ ∷ []) (refl, refl) word
joins_meet And (inr (inl comma)) = stands (_ ∷ []) (refl, refl) comma
joins_meet And (inr (inr same)) = stands [] (refl, refl) same
joins_meet Or word = stands (_ ∷ []) (refl, refl) word

joined_meet : (join : Join) {Part : Rule} → TestsMeet Part → TestsMeet (AreJoined join Part)
joined_meet join parts _ _ _ (part tests lexemes rest is) = parts tests lexemes rest is
joined_meet join parts _ _ _ (more left right lexemes middle following rest are joins is) =
    then (joined_meet join parts left lexemes middle are) (then (joins_meet join joins) (parts right following rest is))

inside_meet : (depth : ℕ) → TestsMeet (AreInside depth)
inside_meet zero = λ tests lexemes rest is. absurd is
inside_meet (suc depth) = joined_meet Or (joined_meet And (one_meets (inside_meet depth)))

-- Stages and ranges.

stage_meets : (depth : ℕ) (stage : StageForm) {lexemes rest : List Lexeme} → IsStage depth stage lexemes rest → Meets (stage_has_pattern stage) lexemes rest
stage_meets depth (by_filter f) is = stands (filter_tokens f) (simp (and-true, or-false, line_patterns), refl) is.0
stage_meets depth (by_tests tests) is = then (stands (_ ∷ []) (refl, refl) is.pipe) (inside_meet (suc depth) tests _ _ is.are)
stage_meets depth _ is = stands (_ ∷ _ ∷ []) (refl, refl) is

pub stages_meet : (depth : ℕ) (stages : List StageForm) {lexemes rest : List Lexeme} → AreChained depth stages lexemes rest → Meets (stages_have_pattern stages) lexemes rest
stages_meet depth [] same = stands [] (refl, refl) same
stages_meet depth (stage ∷ stages) are = then (stage_meets depth stage are.1) (stages_meet depth stages are.2)

-- nothing follows the end
at_end : (following rest : List Lexeme) → IsEnded following → Stand (tokens.End ∷ []) following rest → has_pattern_token false following ≡ false
at_end [] rest ended stand = refl
at_end (l ∷ ls) rest ended stand = rw (ended.0 stand.0) refl

pub all_met : (text : List ℕ) (p : Bool) (following rest : List Lexeme) → Meets p (lexemes_of text) following → Stand (tokens.End ∷ []) following rest → has_pattern_token false (lexemes_of text) ≡ p
all_met text p following rest meets end = rw (meets.patterns, at_end following rest (meets.ended (ended_in (length text) (length text) text)) end) (or-false p)

pub sieve_patterns : (text : List ℕ) (sieve : SieveForm) → DerivesSieve text sieve → has_pattern_token false (lexemes_of text) ≡ sieve_has_pattern sieve
sieve_patterns text sieve derived =
    let selector = stands (_ ∷ matchers_tokens sieve.matchers) (matchers_have sieve.matchers) derived.selector.stand in
    all_met text _ derived.after_filters derived.rest (then selector (stands (filters_tokens sieve.filters) (filters_have sieve.filters) derived.filters.stand)) derived.end
