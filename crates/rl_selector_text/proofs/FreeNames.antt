-- The name of a test that is read is no word of the grammar.
use Rattle.std.proofs.Common.{◌≡◌, ℕ, true, not, List, [], ◌∷◌, Ok, IsTrue, sym, ap, ◌∙◌}
use Rattle.rl_query.specs.declared.token.Lexeme.{Lexeme}
use Rattle.rl_query.specs.declared.token.Token.{Token}
use Rattle.rl_query.specs.declared.token.Token.TheVariants as tokens
use Rattle.rl_query.specs.Form.{MatcherForm}
use Rattle.rl_query.specs.Limits.{is_taken}
use Rattle.rl_selector_text.specs.Standing.{Stand, operator_sign}
use Rattle.rl_selector_text.specs.Fronts.{next, name_of, matcher_at, refusal}
use Rattle.rl_selector_text.specs.declared.front.Position.TheVariants as positions
use Rattle.rl_selector_text.specs.Testing.{is_label, label_at, label_comes}
use Rattle.rl_selector_text.proofs.Finding.{checked, same_ok, one_read}
use Rattle.rl_selector_text.proofs.Productions.{named_found, matcher_found}

pub label_first : (lexemes following : List Lexeme) (first : Lexeme) → next lexemes ≡ Ok (first, following) → Ok tt ≡ label_at first.offset first.token → label_comes lexemes ≡ true
label_first [] following first n label = cc
label_first (l ∷ lexemes) following first n label =
    let same : ◌≡◌ {A = Lexeme × List Lexeme} (l, lexemes) (first, following) = same_ok _ _ n in
    ap (λ (p : Lexeme × List Lexeme). is_label p.0.token) same ∙ ((checked (is_label first.token) tt (refusal positions.Elsewhere first.offset first.token)).is tt (sym label)).0

pub free_name : (name : List ℕ) (others : List Token) (lexemes rest : List Lexeme) → Stand (tokens.Word name ∷ others) lexemes rest → label_comes lexemes ≡ true → IsTrue (not (is_taken name))
free_name name others [] rest stand label = absurd stand
free_name name others (l ∷ lexemes) rest stand label = sym (ap is_label stand.0) ∙ label

pub free_word : (lexemes following : List Lexeme) (first : Lexeme) (name : List ℕ) → label_comes lexemes ≡ true → next lexemes ≡ Ok (first, following) → name_of first.offset first.token ≡ Ok name → IsTrue (not (is_taken name))
free_word lexemes following first name label n read = free_name name [] lexemes following (one_read (tokens.Word name) lexemes following first n ((named_found first.offset first.token).is name read)) label

-- a matcher begins with its name
pub free_matcher : (lexemes rest : List Lexeme) (m : MatcherForm) → label_comes lexemes ≡ true → matcher_at lexemes ≡ Ok (m, rest) → IsTrue (not (is_taken m.name))
free_matcher lexemes rest m label read = free_name m.name (tokens.Sign (operator_sign m.op) ∷ tokens.Text m.value ∷ []) lexemes rest ((matcher_found lexemes).is (m, rest) read).stand label
