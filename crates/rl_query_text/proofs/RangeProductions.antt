-- The productions of ranges: what is read is derived, and what is derived is read.
use Rattle.rl_selector_text.proofs.StageStarts.{Ends, ends_at}
use Rattle.rl_query_text.specs.RangeGrammar.{IsDuration, IsRange, IsTimed}
use Rattle.rl_query.specs.Limits.{longest_range}
use Rattle.rl_query.specs.Form.{RangeForm, StageForm, label_tests}
use Rattle.std.proofs.Common.{◌≡◌, inl, inr, ℕ, suc, ◌≤◌, nat_le, true, ◌&&◌, List, [], ◌∷◌, length, Option, Some, None, Ok, refl, sym, ap, subst, arith}
use Rattle.std.proofs.lemmas.Bool.{and_parts, and_from, leb-true, le-leb}
use Rattle.rl_selector_text.specs.declared.front.Position.{Position}
use Rattle.rl_selector_text.specs.declared.front.Position.TheVariants as positions
use Rattle.rl_selector_text.specs.declared.room.Room.{Room}
use Rattle.rl_query.specs.declared.token.Lexeme.{Lexeme}
use Rattle.rl_query.specs.declared.token.Sign.TheVariants as signs
use Rattle.rl_query.specs.declared.token.Token.{Token}
use Rattle.rl_query.specs.declared.token.Token.TheVariants as tokens
use Rattle.rl_query.specs.Durations.{duration_of}
use Rattle.rl_selector_text.specs.Standing.{Stand}
use Rattle.rl_selector_text.specs.Fronts.{expected}
use Rattle.rl_query_text.specs.RangeReading.{looks_like_duration, seconds_of, range_of, seconds_at, closing_at, range_at, closed_at, timed_at}
use Rattle.rl_selector_text.specs.Parsing.{after_stages}
use Rattle.rl_selector_text.proofs.Finding.{Finds, found, fault, then, by_test, next_found, stands_as}
use Rattle.rl_selector_text.proofs.Productions.{stand_then, stood, expected_found, expected_is, selector_found, selector_is}
use Rattle.rl_selector_text.proofs.StageProductions.{AreRoomy, stages_derived, stages_are_read}
use Rattle.rl_query_text.proofs.Parentheses.{inside_room, opened_read, opened_is}

-- the seconds of a range
abbrev IsSeconds : Token → ℕ → Type 0
IsSeconds token seconds = (number : List ℕ) × (token ≡ tokens.Number number) × (duration_of number ≡ Some seconds) × ((1 ≤ seconds) × (seconds ≤ longest_range))

range_read : (offset : ℕ) (token : Token) → Finds (IsSeconds token) (range_of offset token)
range_read offset (tokens.Number number) = by_duration (duration_of number) refl
  where
    by_duration : (o : Option ℕ) → duration_of number ≡ o → Finds (IsSeconds (tokens.Number number)) (seconds_of o offset number)
    by_duration None is = by_test (looks_like_duration number) (λ _. fault) (λ _. fault)
    by_duration (Some s) is = by_test (nat_le 1 s && nat_le s longest_range) (λ within. let bounds = and_parts (nat_le 1 s) (nat_le s longest_range) within in found (number, refl, is, (leb-true 1 s bounds.0, leb-true s longest_range bounds.1))) (λ _. fault)
range_read offset _ = fault

seconds_read : (position : Position) (lexemes : List Lexeme) → Finds (λ x. IsDuration x.0 lexemes x.1) (seconds_at position lexemes)
unfolding seconds_at
seconds_read position lexemes =
    then _ (expected_found signs.OpenBracket position lexemes) (λ bracket opened.
    then _ (next_found bracket) (λ number stand.
    then _ (range_read number.0.offset number.0.token) (λ seconds is.
    then _ (expected_found signs.CloseBracket positions.InRange number.1) (λ rest closed.
    let digits = stand_then (tokens.Number is.0 ∷ []) (tokens.Sign signs.CloseBracket ∷ []) bracket number.1 rest (stands_as bracket number.1 is.1 stand) closed in
    found (record { duration = is.0; stand = stand_then (tokens.Sign signs.OpenBracket ∷ []) (tokens.Number is.0 ∷ tokens.Sign signs.CloseBracket ∷ []) lexemes bracket rest opened digits; read = is.2; in_range = is.3 })))))

seconds_are : (position : Position) (seconds : ℕ) (lexemes rest : List Lexeme) → IsDuration seconds lexemes rest → seconds_at position lexemes ≡ Ok (seconds, rest)
unfolding seconds_at expected
seconds_are position seconds lexemes rest is =
    let checked : nat_le 1 seconds && nat_le seconds longest_range ≡ true = and_from _ _ (le-leb 1 seconds is.in_range.0) (le-leb seconds longest_range is.in_range.1) in
    rw (stood (tokens.Sign signs.OpenBracket ∷ tokens.Number is.duration ∷ tokens.Sign signs.CloseBracket ∷ []) lexemes rest is.stand, is.read, checked) refl

closed_after : (room : Room) (stages : List StageForm) (lexemes following rest : List Lexeme) → AreRoomy room stages lexemes following → Stand (tokens.Sign signs.CloseParenthesis ∷ []) following rest → closed_at room [] lexemes ≡ Ok (stages, rest)
unfolding closed_at
closed_after room stages lexemes following rest are closed =
    rw (stages_are_read room stages lexemes following are (ends_at (tokens.Sign signs.CloseParenthesis) [] following rest closed refl refl (λ _. refl) refl), expected_is signs.CloseParenthesis (after_stages positions.AfterRange stages) following rest closed) refl

no_stages : (room : Room) (lexemes : List Lexeme) → AreRoomy room [] lexemes lexemes
no_stages room lexemes = record { are = record { chained = refl; one_parser = omega arith }; few = omega arith; few_tests = omega arith }

closed_before : (room : Room) (stages : List StageForm) (lexemes rest : List Lexeme) → Stand (tokens.Sign signs.CloseParenthesis ∷ []) lexemes rest → closed_at room stages lexemes ≡ Ok (stages, rest)
unfolding closed_at
closed_before room [] lexemes rest closed = closed_after room [] lexemes lexemes rest (no_stages room lexemes) closed
closed_before room (s ∷ stages) lexemes rest closed = rw (expected_is signs.CloseParenthesis positions.AfterFilteredRange lexemes rest closed) refl

-- stages and a duration, and the parenthesis after them
record IsClosing (room : Room) (stages : List StageForm) (seconds : ℕ) (lexemes rest : List Lexeme) : Type 0 where
  pub following : List Lexeme
  pub timed : IsTimed room.depth stages seconds lexemes following
  pub few : length stages ≤ room.stages
  pub few_tests : label_tests stages ≤ room.tests
  pub closed : Stand (tokens.Sign signs.CloseParenthesis ∷ []) following rest

closing_read : (room : Room) (lexemes : List Lexeme) → Finds (λ x. IsClosing room x.0 x.1 lexemes x.2) (closing_at room lexemes)
unfolding closing_at timed_at closed_at
closing_read room lexemes =
    then _ (stages_derived room lexemes) (λ front roomy.
    then _ (seconds_read (after_stages positions.AfterSelector front.0) front.1) (λ seconds duration.
    then _ (by_front front.0 front.1 seconds.0 seconds.1 roomy duration) (λ all closing. found closing)))
  where
    by_front : (front : List StageForm) (middle : List Lexeme) (n : ℕ) (after : List Lexeme) → AreRoomy room front lexemes middle → IsDuration n middle after → Finds (λ x. IsClosing room x.0 n lexemes x.1) (closed_at room front after)
    by_front [] middle n after roomy duration =
        then _ (stages_derived room after) (λ stages are.
        then _ (expected_found signs.CloseParenthesis (after_stages positions.AfterRange stages.0) stages.1) (λ rest closed.
        found (record { following = stages.1; timed = inr (after, subst (λ ls. IsDuration n ls after) (sym roomy.are.chained) duration, are.are); few = are.few; few_tests = are.few_tests; closed = closed })))
    by_front (s ∷ front) middle n after roomy duration =
        then _ (expected_found signs.CloseParenthesis positions.AfterFilteredRange after) (λ rest closed.
        found (record { following = after; timed = inl (middle, roomy.are, duration); few = roomy.few; few_tests = roomy.few_tests; closed = closed }))

bracket_stops : (n : ℕ) (ls end : List Lexeme) → IsDuration n ls end → Ends ls
bracket_stops n ls end duration = ends_at (tokens.Sign signs.OpenBracket) (tokens.Number duration.duration ∷ tokens.Sign signs.CloseBracket ∷ []) ls end duration.stand refl refl (λ _. refl) refl

closing_is : (room : Room) (stages : List StageForm) (seconds : ℕ) (lexemes rest following : List Lexeme) → length stages ≤ room.stages → label_tests stages ≤ room.tests → IsTimed room.depth stages seconds lexemes following → Stand (tokens.Sign signs.CloseParenthesis ∷ []) following rest
    → closing_at room lexemes ≡ Ok (stages, seconds, rest)
unfolding closing_at timed_at
closing_is room stages seconds lexemes rest following few few_tests (inl before) closed =
    rw (stages_are_read room stages lexemes before.0 (record { are = before.1; few = few; few_tests = few_tests }) (bracket_stops seconds before.0 following before.2), seconds_are (after_stages positions.AfterSelector stages) seconds before.0 following before.2, closed_before room stages following rest closed) refl
closing_is room stages seconds lexemes rest following few few_tests (inr after) closed =
    rw (stages_are_read room [] lexemes lexemes (no_stages room lexemes) (bracket_stops seconds lexemes after.0 after.1), seconds_are positions.AfterSelector seconds lexemes after.0 after.1, closed_after room stages after.0 following rest (record { are = after.2; few = few; few_tests = few_tests }) closed) refl

-- a range, and room for what it has
pub record IsRoomyRange (room : Room) (range : RangeForm) (lexemes rest : List Lexeme) : Type 0 where
  pub inside : ℕ
  pub depth : room.depth ≡ suc inside
  pub is : IsRange inside range lexemes rest
  pub few : length range.stages ≤ room.stages
  pub few_tests : label_tests range.stages ≤ room.tests

pub range_derived : (room : Room) (lexemes : List Lexeme) → Finds (λ x. IsRoomyRange room x.0 lexemes x.1) (range_at room lexemes)
unfolding range_at
range_derived room lexemes =
    then _ (opened_read positions.Elsewhere room lexemes) (λ inside opened.
    then _ (expected_found signs.OpenBrace positions.Elsewhere inside.1) (λ braced brace.
    then _ (selector_found inside.1 braced brace) (λ matchers selector.
    then _ (closing_read inside.0 matchers.1) (λ range closing.
    found (record {
      inside = inside.0.depth;
      depth = ap (λ (r : Room). r.depth) opened.around;
      is = record { after_parenthesis = inside.1; after_selector = matchers.1; after_duration = closing.following; opened = opened.stand; selector = selector; timed = closing.timed; closed = closing.closed };
      few = subst (λ (r : Room). length range.0 ≤ r.stages) (sym opened.around) closing.few;
      few_tests = subst (λ (r : Room). label_tests range.0 ≤ r.tests) (sym opened.around) closing.few_tests;
    })))))

pub range_is : (room : Room) (range : RangeForm) (lexemes rest : List Lexeme) → IsRoomyRange room range lexemes rest → range_at room lexemes ≡ Ok (range, rest)
unfolding range_at
range_is room range lexemes rest roomy =
    let is = roomy.is in
    let selector = selector_is range.matchers is.after_parenthesis is.after_selector is.selector in
    let closing = closing_is (inside_room room roomy.inside) range.stages range.seconds is.after_selector rest is.after_duration roomy.few roomy.few_tests is.timed is.closed in
    rw (opened_is positions.Elsewhere room roomy.inside lexemes is.after_parenthesis roomy.depth is.opened, selector.1, selector.2, closing) refl
