-- The productions of sieves: what is read is derived, and what is derived is read.
use Rattle.std.proofs.Common.{◌≡◌, ℕ, List, [], ◌∷◌, Ok, refl}
use Rattle.rl_selector_text.specs.declared.front.Position.{Position}
use Rattle.rl_selector_text.specs.declared.front.Position.TheVariants as positions
use Rattle.rl_query.specs.declared.token.Lexeme.{Lexeme}
use Rattle.rl_query.specs.declared.token.Sign.TheVariants as signs
use Rattle.rl_query.specs.declared.token.Token.{Token}
use Rattle.rl_query.specs.declared.token.Token.TheVariants as tokens
use Rattle.rl_query.specs.Form.{FilterForm, SieveForm}
use Rattle.rl_selector_text.specs.Standing.{Stand}
use Rattle.rl_selector_text.specs.Grammar.{DerivesSieve, AreFilters}
use Rattle.rl_query.specs.Limits.{most_stages}
use Rattle.rl_selector_text.specs.Lexing.{lexemes_of}
use Rattle.rl_selector_text.specs.Sieving.{after_filters, sieve_ends, rest_at, sieve_in}
use Rattle.rl_selector_text.proofs.Productions.{next_is, expected_found, selector_found, selector_is}
use Rattle.rl_selector_text.proofs.Finding.{Finds, found, fault, then, next_found, stands_as}
use Rattle.rl_selector_text.proofs.FilterProductions.{stops_at, filters_read, filters_are}

end_read : (position : Position) (offset : ℕ) (t : Token) → Finds (λ _. t ≡ tokens.End) (sieve_ends position offset t)
end_read position offset tokens.End = found refl
end_read position offset _ = fault

-- the line filters of a sieve, and then the end
record IsRest (filters : List FilterForm) (lexemes : List Lexeme) : Type 0 where
  pub following : List Lexeme
  pub rest : List Lexeme
  pub are : AreFilters most_stages filters lexemes following
  pub end : Stand (tokens.End ∷ []) following rest

rest_read : (lexemes : List Lexeme) → Finds (λ filters. IsRest filters lexemes) (rest_at lexemes)
unfolding rest_at
rest_read lexemes =
    then _ (filters_read most_stages lexemes) (λ filters are.
    then _ (next_found filters.1) (λ last stand.
    then _ (end_read (after_filters filters.0) last.0.offset last.0.token) (λ _ is.
    found (record { following = filters.1; rest = last.1; are = are; end = stands_as filters.1 last.1 is stand }))))

rest_is : (filters : List FilterForm) (lexemes following rest : List Lexeme) → AreFilters most_stages filters lexemes following → Stand (tokens.End ∷ []) following rest → rest_at lexemes ≡ Ok filters
unfolding rest_at
rest_is filters lexemes following rest are stand =
    let end = next_is tokens.End [] following rest stand in
    rw (filters_are most_stages filters lexemes following are (stops_at tokens.End [] following rest stand refl), end.is) refl

-- what is read is derived
pub sieve_derived : (text : List ℕ) → Finds (DerivesSieve text) (sieve_in (lexemes_of text))
unfolding sieve_in
sieve_derived text =
    then _ (expected_found signs.OpenBrace positions.Elsewhere (lexemes_of text)) (λ braced opened.
    then _ (selector_found (lexemes_of text) braced opened) (λ matchers selector.
    then _ (rest_read matchers.1) (λ filters rest.
    found (record { after_selector = matchers.1; after_filters = rest.following; rest = rest.rest; selector = selector; filters = rest.are; end = rest.end }))))

-- what is derived is read
pub sieve_is_read : (text : List ℕ) (sieve : SieveForm) → DerivesSieve text sieve → sieve_in (lexemes_of text) ≡ Ok sieve
unfolding sieve_in
sieve_is_read text sieve derived =
    let a = selector_is sieve.matchers (lexemes_of text) derived.after_selector derived.selector in
    rw (a.1, a.2, rest_is sieve.filters derived.after_selector derived.after_filters derived.rest derived.filters derived.end) refl
