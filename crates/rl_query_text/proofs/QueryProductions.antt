-- The productions of queries: what is read is derived.
use Rattle.std.proofs.Common.{◌≡◌, inl, inr, ℕ, zero, suc, ◌≤◌, true, List, [], ◌∷◌, length, Option, Some, None, Result, Ok, refl, sym, subst, arith}
use Rattle.std.proofs.lemmas.Bool.{and_parts, and_from, le-leb}
use Rattle.rl_selector_text.specs.declared.front.Position.TheVariants as positions
use Rattle.rl_query.specs.declared.quantity_test.Comparison.{Comparison}
use Rattle.rl_selector_text.specs.declared.room.Room.{Room}
use Rattle.rl_query.specs.declared.token.Lexeme.{Lexeme}
use Rattle.rl_query.specs.declared.token.Sign.TheVariants as signs
use Rattle.rl_query.specs.declared.token.Token.{Token}
use Rattle.rl_query.specs.declared.token.Token.TheVariants as tokens
use Rattle.rl_query_text.specs.AggregationReading.{number_at, compared_by, threshold_at}
use Rattle.rl_query.specs.Aggregations.{threshold_of}
use Rattle.rl_query.specs.Form.{TermForm, ThresholdForm, QueryForm, all_stages, all_label_tests, is_nested, are_nested}
use Rattle.rl_selector_text.specs.Fronts.{is_sign, next}
use Rattle.rl_selector_text.specs.Lexing.{lexemes_of}
use Rattle.rl_query.specs.Limits.{most_aggregations, most_parentheses}
use Rattle.rl_query_text.specs.QueryReading.{Reader, room_after, over_at, divided_at, compared_at, with_test, lone_at, operand_at, after_at, query_by, query_within, ends, whole_room, whole_at, query_in, query_reading}
use Rattle.rl_selector_text.specs.Standing.{Stand}
use Rattle.rl_query.specs.Tables.{comparison_sign}
use Rattle.rl_query_text.specs.TermGrammar.{IsTerm, IsQuotient, IsThreshold, IsQuery, Derives}
use Rattle.rl_query_text.proofs.Parentheses.{inside_mapped, parentheses_read}
use Rattle.rl_selector_text.proofs.Finding.{Finds, found, fault, itself, then, by_test, of_option, next_found, stands_as}
use Rattle.rl_selector_text.specs.declared.stop.Stop.{Stop}
use Rattle.rl_selector_text.proofs.Productions.{stand_then, only_sign}
use Rattle.rl_query_text.proofs.TermProductions.{term_derived}

-- What is a term, a quotient and a query.

abbrev pub parts_of_query : TermForm → Option TermForm → Option ThresholdForm → QueryForm
parts_of_query left over test = record { left = left; over = over; test = test }

-- a query without a threshold is a quotient
pub query_quotient : (depth : ℕ) (left : TermForm) (over : Option TermForm) (lexemes rest : List Lexeme) → IsQuery depth (parts_of_query left over None) lexemes rest → IsQuotient depth left over lexemes rest
query_quotient zero left over lexemes rest is = absurd is
query_quotient (suc depth) left over lexemes rest (inl tested) = subst (λ ls. IsQuotient (suc depth) left over lexemes ls) tested.2 tested.1
query_quotient (suc depth) left None lexemes rest (inr p) = inr (inside_mapped (query_quotient depth left None) p)
query_quotient (suc depth) left (Some over) lexemes rest (inr p) = inr (inside_mapped (query_quotient depth left (Some over)) p)

-- and a quotient is a query
pub quotient_query : (depth : ℕ) (left : TermForm) (over : Option TermForm) (lexemes rest : List Lexeme) → IsQuotient depth left over lexemes rest → IsQuery depth (parts_of_query left over None) lexemes rest
quotient_query zero left over lexemes rest is = absurd is
quotient_query (suc depth) left over lexemes rest is = inl (rest, is, refl)

-- a quotient without a divisor is a term
pub quotient_term : (depth : ℕ) (left : TermForm) (lexemes rest : List Lexeme) → IsQuotient depth left None lexemes rest → IsTerm depth left lexemes rest
quotient_term zero left lexemes rest is = absurd is
quotient_term (suc depth) left lexemes rest (inl term) = term
quotient_term (suc depth) left lexemes rest (inr p) = inr (inside_mapped (quotient_term depth left) p)

-- and a term is a quotient
pub term_quotient : (depth : ℕ) (left : TermForm) (lexemes rest : List Lexeme) → IsTerm depth left lexemes rest → IsQuotient depth left None lexemes rest
term_quotient zero left lexemes rest is = absurd is
term_quotient (suc depth) left lexemes rest is = inl is

-- a quotient of two terms
divided_query : (depth : ℕ) (left over : TermForm) (lexemes middle following rest : List Lexeme) → IsQuotient depth left None lexemes middle → Stand (tokens.Sign signs.Slash ∷ []) middle following → IsTerm depth over following rest → IsQuery depth (parts_of_query left (Some over) None) lexemes rest
divided_query zero left over lexemes middle following rest dividend slash divisor = absurd divisor
divided_query (suc depth) left over lexemes middle following rest dividend slash divisor =
    inl (rest, inl (record { middle = middle; following = following; dividend = dividend; slash = slash; divisor = inl divisor }), refl)

-- a quotient and a threshold
tested_query : (depth : ℕ) (left : TermForm) (over : Option TermForm) (test : ThresholdForm) (lexemes middle rest : List Lexeme) → IsQuotient depth left over lexemes middle → IsThreshold (Some test) middle rest → IsQuery depth (parts_of_query left over (Some test)) lexemes rest
tested_query zero left over test lexemes middle rest is threshold = absurd is
tested_query (suc depth) left over test lexemes middle rest is threshold = inl (middle, is, threshold)

-- What is read is derived.

-- there is room for what a query has
abbrev pub FitsQuery : Room → QueryForm → Type 0
FitsQuery room query = (all_stages query ≤ room.stages) × (all_label_tests query ≤ room.tests) × (are_nested query ≡ true)

pub record IsRoomyQuery (room : Room) (query : QueryForm) (lexemes rest : List Lexeme) : Type 0 where
  pub is : IsQuery room.depth query lexemes rest
  pub fits : FitsQuery room query

abbrev Finding : Room → (lexemes : List Lexeme) → Result (QueryForm × List Lexeme) Stop → Type 0
Finding room lexemes read = Finds (λ x. IsRoomyQuery room x.0 lexemes x.1) read

lone_sound : (room : Room) (lexemes : List Lexeme) → Finding room lexemes (lone_at room lexemes)
unfolding lone_at
lone_sound room lexemes = then _ (term_derived positions.Start room lexemes) (λ x term. found (record {
  is = quotient_query room.depth x.0 None lexemes x.1 (term_quotient room.depth x.0 lexemes x.1 term.is);
  fits = (omega (arith, term.fits), omega (arith, term.fits), and_from (is_nested x.0) true (le-leb (length x.0.aggregations) most_aggregations term.fits.0) refl);
}))

divided_sound : (room : Room) (left : TermForm) (over : Option TermForm) (test : Option ThresholdForm) (lexemes middle : List Lexeme) → IsRoomyQuery room (parts_of_query left over test) lexemes middle
    → Finding room lexemes (divided_at (parts_of_query left over test) room middle)
unfolding divided_at over_at
divided_sound room left None None lexemes middle before = then _ (next_found middle) (λ first stand. by_test (is_sign signs.Slash first.0.token)
    (λ slash. then _ (term_derived positions.Divisor (room_after left room) first.1) (λ x over.
    let dividend = query_quotient room.depth left None lexemes middle before.is in
    let nested = and_from (is_nested left) (is_nested x.0) (and_parts (is_nested left) true before.fits.2).0 (le-leb (length x.0.aggregations) most_aggregations over.fits.0) in
    found (record {
      is = divided_query room.depth left x.0 lexemes middle first.1 x.1 dividend (stands_as middle first.1 (only_sign signs.Slash first.0.token slash) stand) over.is;
      fits = (omega (arith, before.fits, over.fits), omega (arith, before.fits, over.fits), nested);
    })))
    (λ _. found before))
divided_sound room left _ _ lexemes middle before = then _ (next_found middle) (λ _ _. found before)

compared_read : (token : Token) (comparison : Comparison) → compared_by token ≡ Some comparison → token ≡ tokens.Sign (comparison_sign comparison)
compared_read (tokens.Sign signs.Equal) comparison h = cc
compared_read (tokens.Sign _) comparison h = cc
compared_read _ comparison h = cc

number_found : (offset : ℕ) (token : Token) → Finds (λ value. (number : List ℕ) × (token ≡ tokens.Number number) × (threshold_of number ≡ Some value)) (number_at offset token)
number_found offset (tokens.Number number) = of_option Ok (threshold_of number) (λ value is. found (number, refl, is)) (λ _. fault)
number_found offset _ = fault

threshold_found : (comparison : Comparison) (lexemes middle : List Lexeme) → Stand (tokens.Sign (comparison_sign comparison) ∷ []) lexemes middle → Finds (λ x. IsThreshold (Some x.0) lexemes x.1) (threshold_at comparison middle)
unfolding threshold_at
threshold_found comparison lexemes middle sign =
    then _ (next_found middle) (λ first stand.
    then _ (number_found first.0.offset first.0.token) (λ value number.
    found (number.0, stand_then (tokens.Sign (comparison_sign comparison) ∷ []) (tokens.Number number.0 ∷ []) lexemes middle first.1 sign (stands_as middle first.1 number.1 stand), number.2)))

compared_sound : (room : Room) (left : TermForm) (over : Option TermForm) (test : Option ThresholdForm) (lexemes middle : List Lexeme) → IsRoomyQuery room (parts_of_query left over test) lexemes middle
    → Finds (λ x. IsRoomyQuery room (with_test (parts_of_query left over test) x.0) lexemes x.1) (compared_at (parts_of_query left over test) middle)
unfolding compared_at
compared_sound room left over (Some test) lexemes middle before = then _ (next_found middle) (λ _ _. found before)
compared_sound room left over None lexemes middle before = then _ (next_found middle) (λ first stand. of_option _ (compared_by first.0.token)
    (λ comparison is. then _ (threshold_found comparison middle first.1 (stands_as middle first.1 (compared_read first.0.token comparison is) stand)) (λ test threshold.
    found (record { is = tested_query room.depth left over test.0 lexemes middle test.1 (query_quotient room.depth left over lexemes middle before.is) threshold; fits = before.fits })))
    (λ _. found before))

abbrev IsSound : Reader QueryForm → Type 0
IsSound inside = (room : Room) (lexemes : List Lexeme) → Finding room lexemes (inside room lexemes)

operand_sound : (inside : Reader QueryForm) → IsSound inside → IsSound (operand_at inside)
unfolding operand_at
operand_sound inside sound room lexemes = then _ (itself (next lexemes)) (λ first _. by_test (is_sign signs.OpenParenthesis first.0.token)
    (λ _. record {
      is = λ x h.
          let p = (parentheses_read IsRoomyQuery positions.Start inside room lexemes sound).is x h in
          subst (λ r. IsRoomyQuery r x.0 lexemes x.1) (sym p.1) (record { is = inr (inside_mapped (λ _ _ inner. inner.is) p.2); fits = p.2.inside.fits });
    })
    (λ _. lone_sound room lexemes))

within_sound : (turns : ℕ) → IsSound (query_within turns)
unfolding query_by after_at
within_sound zero room lexemes = fault
within_sound (suc turns) room lexemes =
    then _ (operand_sound (query_within turns) (within_sound turns) room lexemes) (λ operand is.
    then _ (divided_sound room operand.0.left operand.0.over operand.0.test lexemes operand.1 is) (λ divided is.
    then _ (compared_sound room divided.0.left divided.0.over divided.0.test lexemes divided.1 is) (λ compared whole. found whole)))

pub whole_derived : (lexemes : List Lexeme) → Finding whole_room lexemes (whole_at lexemes)
unfolding whole_at
whole_derived lexemes = within_sound (suc most_parentheses) whole_room lexemes

end_found : (offset : ℕ) (token : Token) → Finds (λ _. token ≡ tokens.End) (ends offset token)
end_found offset tokens.End = found refl
end_found offset _ = fault

-- a query that is read is derived
pub query_derived : (text : List ℕ) → Finds (Derives text) (query_reading text)
unfolding query_in
query_derived text =
    then _ (whole_derived (lexemes_of text)) (λ query roomy.
    then _ (next_found query.1) (λ last stand.
    then _ (end_found last.0.offset last.0.token) (λ _ is.
    found (record { following = query.1; rest = last.1; is = roomy.is; end = stands_as query.1 last.1 is stand; few = roomy.fits.0; few_tests = roomy.fits.1; nested = roomy.fits.2 }))))
