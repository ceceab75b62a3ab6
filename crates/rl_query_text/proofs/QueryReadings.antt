-- The productions of queries: what is derived is read.
use Rattle.std.proofs.Common.{◌≡◌, inl, inr, ℕ, zero, suc, true, false, List, [], ◌∷◌, length, Option, Some, None, Ok, refl, sym, subst, arith}
use Rattle.std.proofs.Math.Bool.{and-false}
use Rattle.std.proofs.lemmas.Bool.{and_parts, and_from, leb-true}
use Rattle.rl_selector_text.specs.declared.front.Position.TheVariants as positions
use Rattle.rl_query.specs.declared.quantity_test.Comparison.{Comparison}
use Rattle.rl_query.specs.declared.quantity_test.Comparison.TheVariants as comparisons
use Rattle.rl_selector_text.specs.declared.room.Room.{Room}
use Rattle.rl_query.specs.declared.token.Lexeme.{Lexeme}
use Rattle.rl_query.specs.declared.token.Sign.TheVariants as signs
use Rattle.rl_query.specs.declared.token.Token.{Token}
use Rattle.rl_query.specs.declared.token.Token.TheVariants as tokens
use Rattle.rl_query_text.specs.AggregationReading.{compared_by, threshold_at}
use Rattle.rl_query.specs.Form.{AggregationForm, RangeForm, TermForm, ThresholdForm, QueryForm, is_nested}
use Rattle.rl_query.specs.declared.query.RangeFunction.{RangeFunction}
use Rattle.rl_selector_text.specs.Fronts.{is_sign}
use Rattle.rl_selector_text.specs.Lexing.{lexemes_of}
use Rattle.rl_query.specs.Limits.{most_aggregations, most_parentheses}
use Rattle.rl_query_text.specs.QueryReading.{Reader, alone, room_after, over_at, divided_at, compared_at, lone_at, operand_at, after_at, query_by, query_within, whole_room, whole_at, query_in, query_reading}
use Rattle.rl_selector_text.specs.Standing.{Stand}
use Rattle.rl_query.specs.Tables.{comparison_sign, function_text, operator_word}
use Rattle.rl_query_text.specs.TermGrammar.{InParentheses, IsBare, IsTerm, IsQuotient, IsThreshold, IsQuery, Derives}
use Rattle.rl_query_text.proofs.AggregationProductions.{ends_term, EndsTerm}
use Rattle.rl_query_text.proofs.Parentheses.{inside_room, inside_mapped, parentheses_are}
use Rattle.rl_selector_text.proofs.Productions.{next_is, stood, First, first_at, first_half}
use Rattle.rl_query_text.proofs.QueryProductions.{parts_of_query, FitsQuery, quotient_query, quotient_term, term_quotient}
use Rattle.rl_query_text.proofs.TermProductions.{Fits, IsRoomyTerm, term_is}

-- What may follow a quotient, and what may follow a query.

-- no grouping comes, and no divisor
abbrev ends_quotient : Token → Type 0
ends_quotient token = ends_term token × (is_sign signs.Slash token ≡ false)

-- and no threshold
abbrev EndsQuery : List Lexeme → Type 0
EndsQuery = First (λ token. ends_quotient token × (compared_by token ≡ None))

sign_ends : (comparison : Comparison) → ends_quotient (tokens.Sign (comparison_sign comparison)) × (compared_by (tokens.Sign (comparison_sign comparison)) ≡ Some comparison)
sign_ends comparisons.Equal = (((refl, refl, refl), refl), refl)
sign_ends _ = (((refl, refl, refl), refl), refl)

threshold_ends : (test : Option ThresholdForm) (middle rest : List Lexeme) → IsThreshold test middle rest → EndsQuery rest → First ends_quotient middle
threshold_ends None middle rest is ends = subst (First ends_quotient) (sym is) (first_half ends)
threshold_ends (Some test) middle rest is ends = first_at (tokens.Sign (comparison_sign test.comparison)) (tokens.Number is.0 ∷ []) middle rest is.1 (sign_ends test.comparison).0

-- What is read after an operand.

undivided : (query : QueryForm) (room : Room) (middle : List Lexeme) → First ends_quotient middle → divided_at query room middle ≡ Ok (query, middle)
unfolding divided_at
undivided query room middle ends = rw (ends.is, ends.passes.1, and-false) refl

behind_is : (operand : QueryForm) (room : Room) (lexemes : List Lexeme) (left : TermForm) (over : Option TermForm) (test : Option ThresholdForm) (middle rest : List Lexeme) → divided_at operand room lexemes ≡ Ok (parts_of_query left over None, middle) → IsThreshold test middle rest → EndsQuery rest
    → after_at operand room lexemes ≡ Ok (parts_of_query left over test, rest)
unfolding after_at compared_at threshold_at
behind_is operand room lexemes left over None middle rest divided is ends = rw (divided, is, ends.is, ends.passes.1) refl
behind_is operand room lexemes left over (Some test) middle rest divided is ends =
    rw (divided, stood (tokens.Sign (comparison_sign test.comparison) ∷ tokens.Number is.0 ∷ []) middle rest is.1, (sign_ends test.comparison).1, is.2) refl

nothing_after : (left : TermForm) (over : Option TermForm) (test : Option ThresholdForm) (room : Room) (rest : List Lexeme) → EndsQuery rest
    → after_at (parts_of_query left over test) room rest ≡ Ok (parts_of_query left over test, rest)
unfolding after_at compared_at
nothing_after left over None room rest ends = rw (undivided (parts_of_query left over None) room rest (first_half ends), ends.is, ends.passes.1) refl
nothing_after left over (Some test) room rest ends = rw (undivided (parts_of_query left over (Some test)) room rest (first_half ends), ends.is) refl

-- Operands.

abbrev IsComplete : (depth : ℕ) → Reader QueryForm → Type 0
IsComplete depth inside = (room : Room) (lexemes : List Lexeme) (query : QueryForm) (rest : List Lexeme) → room.depth ≡ depth → IsQuery depth query lexemes rest → FitsQuery room query → EndsQuery rest → inside room lexemes ≡ Ok (query, rest)

-- a word at the front
bare_begins : (depth : ℕ) (aggregations : List AggregationForm) (function : RangeFunction) (range : RangeForm) (lexemes rest : List Lexeme) → IsBare depth (IsTerm depth) aggregations function range lexemes rest
    → (word : List ℕ) × (following : List Lexeme) × Stand (tokens.Word word ∷ []) lexemes following
bare_begins depth [] function range lexemes rest is = (function_text function, is.0, is.1)
bare_begins depth (aggregation ∷ aggregations) function range lexemes rest is = (operator_word aggregation.operator, is.after_word, is.word)

divided_is : (left over : TermForm) (room : Room) (middle following rest : List Lexeme) → Stand (tokens.Sign signs.Slash ∷ []) middle following → IsTerm room.depth over following rest → Fits most_aggregations (room_after left room) over → EndsTerm rest → divided_at (alone left) room middle ≡ Ok (parts_of_query left (Some over) None, rest)
unfolding divided_at over_at
divided_is left over room middle following rest slash is fits ends = rw (stood (tokens.Sign signs.Slash ∷ []) middle following slash, term_is positions.Divisor (room_after left room) following over rest (record { is = is; fits = fits }) ends) refl

-- room for both terms is room for each
both_fit : (room : Room) (left over : TermForm) (test : Option ThresholdForm) → FitsQuery room (parts_of_query left (Some over) test)
    → FitsQuery room (alone left) × Fits most_aggregations (room_after left room) over
both_fit room left over test fits =
    let nested = and_parts (is_nested left) (is_nested over) fits.2 in
    let nest = leb-true (length over.aggregations) most_aggregations nested.1 in
    ((omega (arith, fits), omega (arith, fits), and_from (is_nested left) true nested.0 refl), (nest, omega (arith, fits), omega (arith, fits)))

module _ (depth : ℕ) (inside : Reader QueryForm) (complete : IsComplete depth inside) (room : Room) (deep : room.depth ≡ suc depth) where
  inner_complete : (lexemes : List Lexeme) (query : QueryForm) (rest : List Lexeme) → InParentheses (IsQuery depth query) lexemes rest → FitsQuery room query → operand_at inside room lexemes ≡ Ok (query, rest)
  unfolding operand_at
  inner_complete lexemes query rest p fits =
      let a = next_is (tokens.Sign signs.OpenParenthesis) [] lexemes p.following p.opened in
      let read = complete (inside_room room depth) p.following query p.end refl p.inside fits (first_at (tokens.Sign signs.CloseParenthesis) [] p.end rest p.closed (((refl, refl, refl), refl), refl)) in
      rw (a.is, parentheses_are positions.Start inside room depth query lexemes p.following p.end rest deep p.opened p.closed read) refl

  term_complete : (lexemes : List Lexeme) (term : TermForm) (rest : List Lexeme) → IsTerm (suc depth) term lexemes rest → FitsQuery room (alone term) → EndsTerm rest → operand_at inside room lexemes ≡ Ok (alone term, rest)
  unfolding operand_at lone_at
  term_complete lexemes term rest (inl bare) fits ends =
      let begins = bare_begins depth term.aggregations term.function term.range lexemes rest bare in
      let first = next_is (tokens.Word begins.0) [] lexemes begins.1 begins.2 in
      let nested = leb-true (length term.aggregations) most_aggregations (and_parts (is_nested term) true fits.2).0 in
      let is : IsTerm (suc depth) term lexemes rest = inl bare in
      let roomy : IsRoomyTerm most_aggregations room term lexemes rest = record { is = subst (λ n. IsTerm n term lexemes rest) (sym deep) is; fits = (nested, omega (arith, fits), omega (arith, fits)) } in
      rw (first.is, term_is positions.Start room lexemes term rest roomy ends) refl
  term_complete lexemes term rest (inr p) fits ends =
      inner_complete lexemes (alone term) rest (inside_mapped (λ following end is. quotient_query depth term None following end (term_quotient depth term following end is)) p) fits

  -- an operand that is not divided, and its threshold
  operand_tested : (lexemes : List Lexeme) (left : TermForm) (over : Option TermForm) (test : Option ThresholdForm) (middle rest : List Lexeme) → operand_at inside room lexemes ≡ Ok (parts_of_query left over None, middle)
      → First ends_quotient middle → IsThreshold test middle rest → EndsQuery rest → query_by inside room lexemes ≡ Ok (parts_of_query left over test, rest)
  unfolding query_by
  operand_tested lexemes left over test middle rest read stops threshold ends =
      let operand = parts_of_query left over None in
      rw (read, behind_is operand room middle left over test middle rest (undivided operand room middle stops) threshold ends) refl

  tested_complete : (lexemes : List Lexeme) (left : TermForm) (over : Option TermForm) (test : Option ThresholdForm) (middle rest : List Lexeme) → IsQuotient (suc depth) left over lexemes middle → First ends_quotient middle
      → IsThreshold test middle rest → FitsQuery room (parts_of_query left over test) → EndsQuery rest → query_by inside room lexemes ≡ Ok (parts_of_query left over test, rest)
  unfolding query_by
  tested_complete lexemes left None test middle rest quotient stops threshold fits ends =
      operand_tested lexemes left None test middle rest (term_complete lexemes left middle (quotient_term (suc depth) left lexemes middle quotient) fits (first_half stops)) stops threshold ends
  tested_complete lexemes left (Some over) test middle rest (inl divided) stops threshold fits ends =
      let fit = both_fit room left over test fits in
      let slash = first_at (tokens.Sign signs.Slash) [] divided.middle divided.following divided.slash (refl, refl, refl) in
      let read = term_complete lexemes left divided.middle (quotient_term (suc depth) left lexemes divided.middle divided.dividend) fit.0 slash in
      let divisor = subst (λ n. IsTerm n over divided.following middle) (sym deep) (quotient_term (suc depth) over divided.following middle divided.divisor) in
      let quotient = divided_is left over room divided.middle divided.following middle divided.slash divisor fit.1 (first_half stops) in
      rw (read, behind_is (alone left) room divided.middle left (Some over) test middle rest quotient threshold ends) refl
  tested_complete lexemes left (Some over) test middle rest (inr p) stops threshold fits ends =
      let read = inner_complete lexemes (parts_of_query left (Some over) None) middle (inside_mapped (quotient_query depth left (Some over)) p) fits in
      operand_tested lexemes left (Some over) test middle rest read stops threshold ends

-- Queries.

within_complete : (depth : ℕ) → IsComplete depth (query_within (suc depth))
unfolding query_by
within_complete zero room lexemes query rest deep is fits ends = absurd is
within_complete (suc depth) room lexemes query rest deep (inl tested) fits ends =
    let stops = threshold_ends query.test tested.0 rest tested.2 ends in
    tested_complete depth (query_within (suc depth)) (within_complete depth) room deep lexemes query.left query.over query.test tested.0 rest tested.1 stops tested.2 fits ends
within_complete (suc depth) room lexemes query rest deep (inr p) fits ends =
    rw (inner_complete depth (query_within (suc depth)) (within_complete depth) room deep lexemes query rest p fits, nothing_after query.left query.over query.test room rest ends) refl

-- a query that is derived is read
pub derived_is_read : (text : List ℕ) (query : QueryForm) → Derives text query → query_reading text ≡ Ok query
unfolding query_in whole_at
derived_is_read text query d =
    let ends = first_at tokens.End [] d.following d.rest d.end (((refl, refl, refl), refl), refl) in
    rw (within_complete most_parentheses whole_room (lexemes_of text) query d.following refl d.is (d.few, d.few_tests, d.nested) ends, (next_is tokens.End [] d.following d.rest d.end).is) refl
