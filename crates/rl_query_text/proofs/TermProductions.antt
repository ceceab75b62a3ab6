-- The productions of terms: what is read is derived, and what is derived is read.
use Rattle.std.proofs.Common.{◌≡◌, inl, inr, ℕ, zero, suc, ◌≤◌, true, false, List, [], ◌∷◌, length, Some, Ok, refl, sym, ap, subst, ◌∙◌, arith}
use Rattle.rl_selector_text.specs.declared.front.Position.{Position}
use Rattle.rl_selector_text.specs.declared.front.Position.TheVariants as positions
use Rattle.rl_query.specs.declared.query.RangeFunction.{RangeFunction}
use Rattle.rl_query.specs.declared.query.RangeFunction.TheVariants as functions
use Rattle.rl_selector_text.specs.declared.room.Room.{Room}
use Rattle.rl_query.specs.declared.token.Lexeme.{Lexeme}
use Rattle.rl_query.specs.declared.token.Sign.TheVariants as signs
use Rattle.rl_query.specs.declared.token.Token.{Token}
use Rattle.rl_query.specs.declared.token.Token.TheVariants as tokens
use Rattle.rl_query_text.specs.AggregationReading.{is_operator_word}
use Rattle.rl_query.specs.Form.{AggregationForm, RangeForm, TermForm, label_tests}
use Rattle.rl_selector_text.specs.Fronts.{is_sign}
use Rattle.rl_query.specs.Limits.{most_aggregations}
use Rattle.rl_query_text.specs.QueryReading.{TermReader, around, aggregated_at, ranged_at, begun_at, term_by, term_in, term_at}
use Rattle.rl_selector_text.specs.Standing.{Stand}
use Rattle.rl_query.specs.Tables.{function_text, all_functions, function_with_text, operator_word}
use Rattle.rl_query_text.specs.TermGrammar.{IsParameter, IsAggregation, IsBare, IsTerm}
use Rattle.rl_query_text.proofs.AggregationProductions.{front_found, ended_found, EndsTerm, word_of_operator, front_of, front_is, ended_is}
use Rattle.rl_query_text.proofs.Parentheses.{inside_room, outside, inside_mapped, parentheses_read, parentheses_are}
use Rattle.rl_selector_text.proofs.Finding.{Finds, found, fault, then, by_test, of_option, next_found, stands_as}
use Rattle.rl_selector_text.proofs.Productions.{text_found, next_is, stood, first_at}
use Rattle.rl_query_text.proofs.RangeProductions.{range_derived, range_is}

-- Range aggregations, by their words.

function_is : (function : RangeFunction) → (is_operator_word (function_text function) ≡ false) × (function_with_text (function_text function) ≡ Some function)
function_is functions.CountOverTime = (refl, refl)
function_is _ = (refl, refl)

-- there is room for what a term has
abbrev pub Fits : (nest : ℕ) → Room → TermForm → Type 0
Fits nest room term = (length term.aggregations ≤ nest) × (length term.range.stages ≤ room.stages) × (label_tests term.range.stages ≤ room.tests)

pub record IsRoomyTerm (nest : ℕ) (room : Room) (term : TermForm) (lexemes rest : List Lexeme) : Type 0 where
  pub is : IsTerm room.depth term lexemes rest
  pub fits : Fits nest room term

-- What is read is derived.

abbrev IsSound : TermReader → Type 0
IsSound inside = (position : Position) (nest : ℕ) (room : Room) (lexemes : List Lexeme) → Finds (λ x. IsRoomyTerm nest room x.0 lexemes x.1) (inside position nest room lexemes)

aggregated_sound : (inside : TermReader) → IsSound inside → (word : List ℕ) (nest : ℕ) (room : Room) (lexemes following : List Lexeme) → is_operator_word word ≡ true → Stand (tokens.Word word ∷ []) lexemes following → Finds (λ x. IsRoomyTerm nest room x.0 lexemes x.1) (aggregated_at inside word nest room following)
unfolding aggregated_at
aggregated_sound inside sound word nest room lexemes following operator stand =
    then _ (front_found word nest room following operator) (λ x front.
    then _ (sound positions.InTerm x.0.nest x.0.room x.1) (λ term inner.
    then _ (ended_found x.0 room term.1) (λ y ended.
    let aggregation : IsAggregation (IsTerm x.0.room.depth term.0) y.0 lexemes y.1 = record {
      after_word = following;
      after_grouping = front.after_grouping;
      after_parenthesis = front.after_parenthesis;
      after_parameter = x.1;
      end = term.1;
      after_end = ended.following;
      front = x.0.grouping;
      back = ended.back.0;
      word = subst (λ w. Stand (tokens.Word w ∷ []) lexemes following) (front.word_is ∙ ap operator_word ended.operator) stand;
      grouped = front.grouped;
      opened = front.opened.stand;
      parameter = subst (λ o. IsParameter o front.after_parenthesis x.1) ended.operator front.parameter;
      inside = inner.is;
      closed = ended.closed;
      grouped_after = ended.back.1;
      one_side = ended.back.2;
    } in
    let roomy : IsRoomyTerm nest (outside x.0.room) (around y.0 term.0) lexemes y.1 = record { is = inl aggregation; fits = omega (arith, front.fewer, inner.fits) } in
    found (subst (λ r. IsRoomyTerm nest r (around y.0 term.0) lexemes y.1) (sym front.opened.around) roomy))))

begun_sound : (inside : TermReader) → IsSound inside → (position : Position) (offset : ℕ) (token : Token) (nest : ℕ) (room : Room) (all following : List Lexeme) → Stand (token ∷ []) all following → Finds (λ x. IsRoomyTerm nest room x.0 all x.1) (begun_at inside position offset token nest room all following)
unfolding ranged_at
begun_sound inside sound position offset (tokens.Word word) nest room all following stand = by_test (is_operator_word word)
    (λ operator. aggregated_sound inside sound word nest room all following operator stand)
    (λ _. of_option _ (function_with_text word) (λ function is. then _ (range_derived room following) (λ x range.
    let begins = stands_as all following (ap tokens.Word (text_found function_text word all_functions function is)) stand in
    let made : TermForm = record { aggregations = []; function = function; range = x.0 } in
    let is : IsTerm (suc range.inside) made all x.1 = inl (following, begins, range.is) in
    found (record { is = subst (λ n. IsTerm n made all x.1) (sym range.depth) is; fits = (omega arith, range.few, range.few_tests) })))
    (λ _. fault))
begun_sound inside sound position offset (tokens.Sign sign) nest room all following stand = by_test (is_sign signs.OpenParenthesis (tokens.Sign sign))
    (λ _. record {
      is = λ x h.
          let p = (parentheses_read (IsRoomyTerm nest) positions.InTerm (inside positions.InTerm nest) room all (sound positions.InTerm nest)).is x h in
          subst (λ r. IsRoomyTerm nest r x.0 all x.1) (sym p.1) (record { is = inr (inside_mapped (λ _ _ inner. inner.is) p.2); fits = p.2.inside.fits });
    })
    (λ _. fault)
begun_sound inside sound position offset _ nest room all following stand = fault

in_sound : (turns : ℕ) → IsSound (term_in turns)
unfolding term_by
in_sound zero position nest room lexemes = fault
in_sound (suc turns) position nest room lexemes = then _ (next_found lexemes) (λ first stand. begun_sound (term_in turns) (in_sound turns) position first.0.offset first.0.token nest room lexemes first.1 stand)

pub term_derived : (position : Position) (room : Room) (lexemes : List Lexeme) → Finds (λ x. IsRoomyTerm most_aggregations room x.0 lexemes x.1) (term_at position room lexemes)
term_derived position room lexemes = in_sound (suc room.depth) position most_aggregations room lexemes

-- What is derived is read.

abbrev IsComplete : (depth : ℕ) → TermReader → Type 0
IsComplete depth inside = (position : Position) (nest : ℕ) (room : Room) (lexemes : List Lexeme) (term : TermForm) (rest : List Lexeme) → room.depth ≡ depth → IsTerm depth term lexemes rest → Fits nest room term → EndsTerm rest → inside position nest room lexemes ≡ Ok (term, rest)

aggregated_complete : (depth : ℕ) (inside : TermReader) → IsComplete depth inside → (fewer : ℕ) (room : Room) (aggregation : AggregationForm) (term : TermForm) (lexemes rest : List Lexeme) → room.depth ≡ suc depth → (is : IsAggregation (IsTerm depth term) aggregation lexemes rest) → Fits fewer room term → EndsTerm rest
    → aggregated_at inside (operator_word aggregation.operator) (suc fewer) room is.after_word ≡ Ok (around aggregation term, rest)
unfolding aggregated_at
aggregated_complete depth inside complete fewer room aggregation term lexemes rest deep is fits ends =
    let inner = inside_room room depth in
    let before = front_is aggregation.operator is.front fewer room depth is.after_word is.after_grouping is.after_parenthesis is.after_parameter deep is.grouped is.opened is.parameter in
    let read = complete positions.InTerm fewer inner is.after_parameter term is.end refl is.inside fits (first_at (tokens.Sign signs.CloseParenthesis) [] is.end is.after_end is.closed (refl, refl, refl)) in
    rw (before, read, ended_is (front_of aggregation.operator is.front fewer inner) room depth is.back aggregation is.end is.after_end rest deep refl is.closed is.one_side is.grouped_after ends) refl

bare_complete : (depth : ℕ) (inside : TermReader) → IsComplete depth inside → (position : Position) (nest : ℕ) (room : Room) (lexemes : List Lexeme) (aggregations : List AggregationForm) (function : RangeFunction) (range : RangeForm) (rest : List Lexeme) → room.depth ≡ suc depth
    → IsBare depth (IsTerm depth) aggregations function range lexemes rest → Fits nest room (record { aggregations = aggregations; function = function; range = range }) → EndsTerm rest → term_by inside position nest room lexemes ≡ Ok (record { aggregations = aggregations; function = function; range = range }, rest)
unfolding term_by ranged_at
bare_complete depth inside complete position nest room lexemes [] function range rest deep is fits ends =
    let known = function_is function in
    let read = range_is room range is.0 rest (record { inside = depth; depth = deep; is = is.2; few = fits.1; few_tests = fits.2 }) in
    rw (stood (tokens.Word (function_text function) ∷ []) lexemes is.0 is.1, known.0, known.1, read) refl
bare_complete depth inside complete position zero room lexemes (aggregation ∷ aggregations) function range rest deep is fits ends = absurd (omega (arith, fits))
bare_complete depth inside complete position (suc fewer) room lexemes (aggregation ∷ aggregations) function range rest deep is fits ends =
    let read = aggregated_complete depth inside complete fewer room aggregation (record { aggregations = aggregations; function = function; range = range }) lexemes rest deep is (omega (arith, fits)) ends in
    rw (stood (tokens.Word (operator_word aggregation.operator) ∷ []) lexemes is.after_word is.word, word_of_operator aggregation.operator, read) refl

in_complete : (depth : ℕ) → IsComplete depth (term_in (suc depth))
unfolding term_by
in_complete zero position nest room lexemes term rest deep is fits ends = absurd is
in_complete (suc depth) position nest room lexemes term rest deep (inl bare) fits ends = bare_complete depth (term_in (suc depth)) (in_complete depth) position nest room lexemes term.aggregations term.function term.range rest deep bare fits ends
in_complete (suc depth) position nest room lexemes term rest deep (inr p) fits ends =
    let a = next_is (tokens.Sign signs.OpenParenthesis) [] lexemes p.following p.opened in
    let stops = first_at (tokens.Sign signs.CloseParenthesis) [] p.end rest p.closed (refl, refl, refl) in
    let read = in_complete depth positions.InTerm nest (inside_room room depth) p.following term p.end refl p.inside fits stops in
    rw (a.is, parentheses_are positions.InTerm (term_in (suc depth) positions.InTerm nest) room depth term lexemes p.following p.end rest deep p.opened p.closed read) refl

pub term_is : (position : Position) (room : Room) (lexemes : List Lexeme) (term : TermForm) (rest : List Lexeme) → IsRoomyTerm most_aggregations room term lexemes rest → EndsTerm rest → term_at position room lexemes ≡ Ok (term, rest)
term_is position room lexemes term rest roomy ends = in_complete room.depth position most_aggregations room lexemes term rest refl roomy.is roomy.fits ends
