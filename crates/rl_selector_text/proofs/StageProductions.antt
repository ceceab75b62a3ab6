-- The productions of stages: what is read is derived, and what is derived is read.
use Rattle.rl_selector_text.proofs.TestReadings.{tests_are_read}
use Rattle.rl_selector_text.proofs.TestProductions.{tests_found}
use Rattle.rl_selector_text.proofs.StageStarts.{tests_start, chain_ends, Ends}
use Rattle.rl_selector_text.specs.Testing.{is_word, IsEnd}
use Rattle.rl_selector_text.specs.declared.room.Room.{Room}
use Rattle.rl_query.specs.Form.{by_tests, tests_of, label_tests, StageForm, by_filter, by_parser, parses, parsers_of}
use Rattle.std.proofs.Common.{drop, ◌-◌, ◌≡◌, ℕ, zero, suc, ◌+◌, ◌≤◌, Bool, true, false, cond, ◌||◌, ◌&&◌, List, [], ◌∷◌, codes, length, None, Some, is_some, Ok, refl, sym, ap, ◌∙◌, arith}
use Rattle.std.proofs.Math.Bool.{and-false}
use Rattle.std.proofs.lemmas.Bool.{true≢false}
use Rattle.std.proofs.lemmas.Option.{none-some}
use Rattle.std.proofs.lemmas.List.Sums.{sum_by-cons}
use Rattle.rl_plain.specs.Answers.{◌>>=◌}
use Rattle.rl_query.specs.declared.stages.Parser.{Parser}
use Rattle.rl_query.specs.declared.stages.Parser.TheVariants as parsers
use Rattle.rl_query.specs.declared.token.Lexeme.{Lexeme}
use Rattle.rl_query.specs.declared.token.Sign.TheVariants as signs
use Rattle.rl_query.specs.declared.token.Token.{Token}
use Rattle.rl_query.specs.declared.token.Token.TheVariants as tokens
use Rattle.rl_selector_text.specs.Standing.{Stand}
use Rattle.rl_selector_text.specs.Stops.{offset_of}
use Rattle.rl_selector_text.specs.Grammar.{filter_sign, filter_tokens, IsStage, AreChained, AreStages}
use Rattle.rl_query.specs.Limits.{is_taken}
use Rattle.rl_selector_text.specs.Fronts.{next, is_sign}
use Rattle.rl_selector_text.specs.Parsing.{filter_op, filter_at, begins_stage, stage_comes, parser_of, only_parser, tests_begin, tested_at, piped_at, stage_at, stages_at, stages_in}
use Rattle.rl_query.specs.Printing.{parser_text}
use Rattle.rl_selector_text.proofs.Finding.{Finds, found, fault, itself, then, by_test, of_option, same_ok, one_read, next_found, stands_as}
use Rattle.rl_selector_text.proofs.Productions.{text_found, stand_then, stood, next_is, only_sign}
use Rattle.rl_selector_text.proofs.FilterProductions.{op_read, op_is, filter_read}

parser_read : (t : Token) (parser : Parser) → parser_of t ≡ Some parser → t ≡ tokens.Word (parser_text parser)
parser_read (tokens.Word word) parser h = ap tokens.Word (text_found parser_text word (parsers.Json ∷ parsers.Logfmt ∷ []) parser h)
parser_read _ parser h = absurd (none-some parser h)

parser_is : (parser : Parser) → parser_of (tokens.Word (parser_text parser)) ≡ Some parser
parser_is parsers.Json = refl
parser_is parsers.Logfmt = refl

-- what is no word of a parser
no_parser : (t : Token) → ((word : List ℕ) → is_taken word ≡ true → is_word word t ≡ false) → parser_of t ≡ None
no_parser (tokens.Word word) free = rw (free (codes "json") refl, free (codes "logfmt") refl) refl
no_parser _ free = refl

only_found : (offset : ℕ) (parsed : Bool) (named : Parser) → Finds (λ parser. (parsed ≡ false) × (named ≡ parser)) (only_parser offset parsed named)
only_found offset parsed named = by_test parsed (λ _. fault) (λ none. found (none, refl))

-- a stage, no parser where one was read before, and how many label tests may still come
record IsNext (parsed : Bool) (depth left : ℕ) (lexemes : List Lexeme) (read : StageForm × ℕ × List Lexeme) : Type 0 where
  pub is : IsStage depth read.0 lexemes read.2
  pub only : parsed && parses read.0 ≡ false
  pub counts : tests_of read.0 + read.1 ≡ left

piped_found : (parsed : Bool) (depth left : ℕ) (lexemes following : List Lexeme) → Stand (tokens.Sign signs.Pipe ∷ []) lexemes following → Finds (IsNext parsed depth left lexemes) (piped_at parsed depth left following)
unfolding piped_at tested_at
piped_found parsed depth left lexemes following pipe = then _ (next_found following) (λ first stand.
    let there : (word : List ℕ) → first.0.token ≡ tokens.Word word → Stand (tokens.Sign signs.Pipe ∷ tokens.Word word ∷ []) lexemes first.1 =
    λ word shown. stand_then (tokens.Sign signs.Pipe ∷ []) (tokens.Word word ∷ []) lexemes following first.1 pipe (stands_as following first.1 shown stand) in
    of_option _ (parser_of first.0.token)
    (λ named is. then _ (only_found first.0.offset parsed named) (λ parser only.
    let shown = parser_read first.0.token named is ∙ ap (λ p. tokens.Word (parser_text p)) only.1 in
    found (record { is = there (parser_text parser) shown; only = ap (λ b. b && true) only.0; counts = omega arith })))
    (λ _. then _ (itself (next following)) (λ first _. then _ (itself (tests_begin first.0.offset first.0.token first.1)) (λ _ _. then _ (tests_found depth left following) (λ tests are.
    found (record { is = record { following = following; pipe = pipe; are = are.0 }; only = and-false parsed; counts = are.1 }))))))

stage_found : (parsed : Bool) (depth left : ℕ) (lexemes : List Lexeme) → stage_comes lexemes ≡ Ok true → Finds (IsNext parsed depth left lexemes) (stage_at parsed depth left lexemes)
unfolding stage_at
stage_found parsed depth left lexemes comes = then _ (itself (next lexemes)) (λ first n.
    let begins : begins_stage first.0.token ≡ true = same_ok _ _ (sym (ap (λ r. r >>= λ first. Ok (begins_stage first.0.token)) n) ∙ comes) in
    of_option _ (filter_op first.0.token)
    (λ op is. then _ (filter_read lexemes first.1 op (one_read (tokens.Sign (filter_sign op)) lexemes first.1 first.0 n (op_read first.0.token op is))) (λ filter is. found (record { is = is; only = and-false parsed; counts = omega arith })))
    (λ none. let pipe : is_sign signs.Pipe first.0.token ≡ true = ap (λ o. is_some o || is_sign signs.Pipe first.0.token) (sym none) ∙ begins in
    piped_found parsed depth left lexemes first.1 (one_read (tokens.Sign signs.Pipe) lexemes first.1 first.0 n (only_sign signs.Pipe first.0.token pipe))))

-- a stage is read where one comes
record IsTaken (parsed : Bool) (depth left : ℕ) (stage : StageForm) (fewer : ℕ) (lexemes rest : List Lexeme) : Type 0 where
  pub comes : stage_comes lexemes ≡ Ok true
  pub read : stage_at parsed depth left lexemes ≡ Ok (stage, fewer, rest)

-- a word after the pipe
word_is : (parsed : Bool) (depth left : ℕ) (stage : StageForm) (word : List ℕ) (fewer : ℕ) (lexemes rest : List Lexeme) → Stand (tokens.Sign signs.Pipe ∷ tokens.Word word ∷ []) lexemes rest → 0 + fewer ≡ left
    → ((offset : ℕ) → piped_at parsed depth left (record { token = tokens.Word word; offset = offset } ∷ rest) ≡ Ok (stage, left, rest)) → IsTaken parsed depth left stage fewer lexemes rest
unfolding stage_at
word_is parsed depth left stage word fewer lexemes rest stand counts read =
    let stands = stood (tokens.Sign signs.Pipe ∷ tokens.Word word ∷ []) lexemes rest stand in
    let same : left ≡ fewer = omega (arith, counts) in
    record { comes = rw stands refl; read = rw stands (read (offset_of (drop 1 lexemes)) ∙ ap (λ n. Ok (stage, n, rest)) same) }

stage_is : (parsed : Bool) (depth left : ℕ) (stage : StageForm) (fewer : ℕ) (lexemes rest : List Lexeme) → IsStage depth stage lexemes rest → IsEnd rest → parsed && parses stage ≡ false → tests_of stage + fewer ≡ left → IsTaken parsed depth left stage fewer lexemes rest
unfolding stage_at piped_at tested_at filter_at
stage_is parsed depth left (by_filter f) fewer lexemes rest is end only counts =
    let same : left ≡ fewer = omega (arith, counts) in
    let stands = stood (filter_tokens f) lexemes rest is.0 in
    record { comes = rw (stands, op_is f.op) refl; read = rw (stands, op_is f.op, is.1, same) refl }
stage_is true depth left (by_parser parser) fewer lexemes rest is end only counts = cc
stage_is false depth left (by_parser parser) fewer lexemes rest is end only counts =
    word_is false depth left (by_parser parser) (parser_text parser) fewer lexemes rest is counts (λ _. rw (parser_is parser) refl)
stage_is parsed depth left (by_tests tests) fewer lexemes rest is end only counts =
    let a = next_is (tokens.Sign signs.Pipe) [] lexemes is.following is.pipe in
    let starts = tests_start depth tests is.following rest is.are in
    record { comes = rw a.is refl; read = rw (a.is, a.more, starts.is, no_parser starts.first.token starts.free, starts.begin, tests_are_read depth left is.following tests fewer rest is.are end counts) refl }

-- at most `most` stages, and a parser only where none was read before
record AreUpTo (parsed : Bool) (depth left most : ℕ) (stages : List StageForm) (lexemes rest : List Lexeme) : Type 0 where
  pub chained : AreChained depth stages lexemes rest
  pub few : length stages ≤ most
  pub one_parser : cond parsed 1 0 + parsers_of stages ≤ 1
  pub few_tests : label_tests stages ≤ left

no_stages : (parsed : Bool) (depth left most : ℕ) (lexemes : List Lexeme) → AreUpTo parsed depth left most [] lexemes lexemes
no_stages parsed depth left most lexemes = record { chained = refl; few = omega arith; one_parser = grind arith; few_tests = omega arith }

-- one parser at most, where one was read before or not, and a stage is one or not
one_parser : (before this : Bool) (n all : ℕ) → all ≡ cond this 1 0 + n → ((before && this ≡ false) × (cond (before || this) 1 0 + n ≤ 1) → cond before 1 0 + all ≤ 1) × (cond before 1 0 + all ≤ 1 → (before && this ≡ false) × (cond (before || this) 1 0 + n ≤ 1))
one_parser true true n all is = (λ h. absurd (true≢false h.0), λ h. absurd (omega (arith, is, h)))
one_parser _ _ n all is = (λ h. omega (arith, is, h.1), λ h. (refl, omega (arith, is, h)))

stages_found : (parsed : Bool) (depth left most : ℕ) (lexemes : List Lexeme) → Finds (λ x. AreUpTo parsed depth left most x.0 lexemes x.1) (stages_at parsed depth left most lexemes)
unfolding stages_at
stages_found parsed depth left zero lexemes = then _ (itself (stage_comes lexemes)) (λ comes _. by_test comes (λ _. fault) (λ _. found (no_stages parsed depth left zero lexemes)))
stages_found parsed depth left (suc most) lexemes = then _ (itself (stage_comes lexemes)) (λ comes is. by_test comes
    (λ yes. then _ (stage_found parsed depth left lexemes (is ∙ ap (λ (b : Bool). Ok b) yes)) (λ stage one.
    then _ (stages_found (parsed || parses stage.0) depth stage.1 most stage.2) (λ others more.
    let one_more = (one_parser parsed (parses stage.0) (parsers_of others.0) (parsers_of (stage.0 ∷ others.0)) (sum_by-cons (λ s. cond (parses s) 1 0) stage.0 others.0)).0 (one.only, more.one_parser) in
    found (record { chained = (stage.2, one.is, more.chained); few = omega (arith, more.few); one_parser = one_more; few_tests = omega (arith, more.few_tests, one.counts, sum_by-cons tests_of stage.0 others.0) }))))
    (λ _. found (no_stages parsed depth left (suc most) lexemes)))

stages_are : (parsed : Bool) (depth left most : ℕ) (stages : List StageForm) (lexemes rest : List Lexeme) → AreUpTo parsed depth left most stages lexemes rest → Ends rest → stages_at parsed depth left most lexemes ≡ Ok (stages, rest)
unfolding stages_at
stages_are parsed depth left zero [] lexemes rest are ends = rw (are.chained, ends.comes) refl
stages_are parsed depth left (suc most) [] lexemes rest are ends = rw (are.chained, ends.comes) refl
stages_are parsed depth left zero (s ∷ stages) lexemes rest are ends = absurd (omega (arith, are.few))
stages_are parsed depth left (suc most) (s ∷ stages) lexemes rest are ends =
    let counts = (one_parser parsed (parses s) (parsers_of stages) (parsers_of (s ∷ stages)) (sum_by-cons (λ s. cond (parses s) 1 0) s stages)).1 are.one_parser in
    let fewer = left - tests_of s in
    let one = stage_is parsed depth left s fewer lexemes are.chained.0 are.chained.1 (chain_ends depth stages are.chained.0 rest are.chained.2 ends.end) counts.0 (omega (arith, are.few_tests, sum_by-cons tests_of s stages)) in
    let more : AreUpTo (parsed || parses s) depth fewer most stages are.chained.0 rest = record { chained = are.chained.2; few = omega (arith, are.few); one_parser = counts.1; few_tests = omega (arith, are.few_tests, sum_by-cons tests_of s stages) } in
    rw (one.comes, one.read, stages_are (parsed || parses s) depth fewer most stages are.chained.0 rest more ends) refl

-- stages of which there are no more than may come
pub record AreRoomy (room : Room) (stages : List StageForm) (lexemes rest : List Lexeme) : Type 0 where
  pub are : AreStages room.depth stages lexemes rest
  pub few : length stages ≤ room.stages
  pub few_tests : label_tests stages ≤ room.tests

pub stages_derived : (room : Room) (lexemes : List Lexeme) → Finds (λ x. AreRoomy room x.0 lexemes x.1) (stages_in room lexemes)
stages_derived room lexemes = record {
  is = λ x h.
      let are = (stages_found false room.depth room.tests room.stages lexemes).is x h in
      record { are = record { chained = are.chained; one_parser = omega (arith, are.one_parser) }; few = are.few; few_tests = are.few_tests };
}

pub stages_are_read : (room : Room) (stages : List StageForm) (lexemes rest : List Lexeme) → AreRoomy room stages lexemes rest → Ends rest → stages_in room lexemes ≡ Ok (stages, rest)
stages_are_read room stages lexemes rest roomy stops =
    let up_to : AreUpTo false room.depth room.tests room.stages stages lexemes rest = record { chained = roomy.are.chained; few = roomy.few; one_parser = omega (arith, roomy.are.one_parser); few_tests = roomy.few_tests } in
    stages_are false room.depth room.tests room.stages stages lexemes rest up_to stops
