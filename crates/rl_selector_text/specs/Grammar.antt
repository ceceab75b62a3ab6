-- The grammar of selectors, stages and ranges, over their tokens and apart from how they are read. Each rule relates tokens and those that follow.
use Rattle.rl_query.specs.TestTree.{TestTree}
use Rattle.rl_selector_text.specs.TestGrammar.{AreTests}
use Rattle.rl_query.specs.Limits.{is_filter, most_stages}
use Rattle.rl_query.specs.Form.{TestForm, by_tests, MatcherForm, FilterForm, StageForm, by_filter, by_parser, SieveForm, has_real_form, parsers_of}
use Rattle.std.specs.Prelude.{◌≡◌, ℕ, ◌≤◌, true, List, [], ◌∷◌, ◌++◌, length}
use Rattle.std.specs.List.{list_all}
use Rattle.rl_query.specs.declared.filter.LineOp.{LineOp}
use Rattle.rl_query.specs.declared.filter.LineOp.TheVariants as lines
use Rattle.rl_query.specs.declared.stages.Parser.{Parser}
use Rattle.rl_query.specs.declared.token.Lexeme.{Lexeme}
use Rattle.rl_query.specs.declared.token.Sign.{Sign}
use Rattle.rl_query.specs.declared.token.Sign.TheVariants as signs
use Rattle.rl_query.specs.declared.token.Token.{Token}
use Rattle.rl_query.specs.declared.token.Token.TheVariants as tokens
use Rattle.rl_selector_text.specs.Lexing.{lexemes_of}
use Rattle.rl_query.specs.Printing.{parser_text}
use Rattle.rl_selector_text.specs.Standing.{Stand, matcher_tokens, is_matcher}

-- matchers joined by commas, up to the closing brace
abbrev pub matchers_tokens : List MatcherForm → List Token
matchers_tokens [] = tokens.Sign signs.CloseBrace ∷ []
matchers_tokens (matcher ∷ []) = matcher_tokens matcher ++ tokens.Sign signs.CloseBrace ∷ []
matchers_tokens (matcher ∷ other ∷ others) = matcher_tokens matcher ++ tokens.Sign signs.Comma ∷ matchers_tokens (other ∷ others)

-- {matchers}, of which one at least refuses the empty text
pub record IsSelector (matchers : List MatcherForm) (lexemes rest : List Lexeme) : Type 0 where
  pub stand : Stand (tokens.Sign signs.OpenBrace ∷ matchers_tokens matchers) lexemes rest
  pub proper : list_all is_matcher matchers ≡ true
  pub real : has_real_form matchers ≡ true

abbrev pub filter_sign : LineOp → Sign
filter_sign lines.Contains = signs.Contains
filter_sign lines.Lacks = signs.NotEqual
filter_sign lines.Matches = signs.ContainsMatch
filter_sign lines.NotMatches = signs.NotMatches

-- |= "text", or another sign
abbrev pub filter_tokens : FilterForm → List Token
filter_tokens filter = tokens.Sign (filter_sign filter.op) ∷ tokens.Text filter.text ∷ []

-- line filters one after the other
abbrev pub filters_tokens : List FilterForm → List Token
filters_tokens [] = []
filters_tokens (filter ∷ filters) = filter_tokens filter ++ filters_tokens filters

-- at most `most` line filters, whose patterns are patterns
pub record AreFilters (most : ℕ) (filters : List FilterForm) (lexemes rest : List Lexeme) : Type 0 where
  pub stand : Stand (filters_tokens filters) lexemes rest
  pub proper : list_all (λ filter. is_filter filter.op filter.text) filters ≡ true
  pub few : length filters ≤ most

-- | json
abbrev pub parser_tokens : Parser → List Token
parser_tokens parser = tokens.Sign signs.Pipe ∷ tokens.Word (parser_text parser) ∷ []

-- | tests, with at most `depth` parentheses open at once
pub record AreTestsPiped (depth : ℕ) (tests : TestTree TestForm) (lexemes rest : List Lexeme) : Type 0 where
  pub following : List Lexeme
  pub pipe : Stand (tokens.Sign signs.Pipe ∷ []) lexemes following
  pub are : AreTests depth tests following rest

-- a line filter whose pattern is one, a parser or label tests
abbrev pub IsStage : (depth : ℕ) → StageForm → List Lexeme → List Lexeme → Type 0
IsStage depth (by_filter filter) lexemes rest = Stand (filter_tokens filter) lexemes rest × (is_filter filter.op filter.text ≡ true)
IsStage depth (by_parser parser) lexemes rest = Stand (parser_tokens parser) lexemes rest
IsStage depth (by_tests tests) lexemes rest = AreTestsPiped depth tests lexemes rest

-- stages one after the other
abbrev pub AreChained : (depth : ℕ) → List StageForm → List Lexeme → List Lexeme → Type 0
AreChained depth [] lexemes rest = lexemes ≡ rest
AreChained depth (stage ∷ stages) lexemes rest = (following : List Lexeme) × IsStage depth stage lexemes following × AreChained depth stages following rest

-- stages of which one at most is a parser
pub record AreStages (depth : ℕ) (stages : List StageForm) (lexemes rest : List Lexeme) : Type 0 where
  pub chained : AreChained depth stages lexemes rest
  pub one_parser : parsers_of stages ≤ 1

-- {matchers} line filters, and nothing after them
pub record DerivesSieve (text : List ℕ) (sieve : SieveForm) : Type 0 where
  pub after_selector : List Lexeme
  pub after_filters : List Lexeme
  pub rest : List Lexeme
  pub selector : IsSelector sieve.matchers (lexemes_of text) after_selector
  pub filters : AreFilters most_stages sieve.filters after_selector after_filters
  pub end : Stand (tokens.End ∷ []) after_filters rest
