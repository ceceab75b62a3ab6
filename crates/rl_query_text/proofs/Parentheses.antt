-- Something in parentheses: what is read is derived, and what is derived is read.
use Rattle.std.proofs.Common.{◌≡◌, ℕ, zero, suc, List, [], ◌∷◌, Ok, refl}
use Rattle.rl_selector_text.specs.Stops.{offset_of}
use Rattle.rl_selector_text.specs.declared.front.Position.{Position}
use Rattle.rl_selector_text.specs.declared.front.Position.TheVariants as positions
use Rattle.rl_selector_text.specs.declared.room.Room.{Room}
use Rattle.rl_query.specs.declared.token.Lexeme.{Lexeme}
use Rattle.rl_query.specs.declared.token.Sign.TheVariants as signs
use Rattle.rl_query.specs.declared.token.Token.TheVariants as tokens
use Rattle.rl_query_text.specs.RangeReading.{deeper, opened_at}
use Rattle.rl_query_text.specs.QueryReading.{Reader, in_parentheses}
use Rattle.rl_selector_text.specs.Standing.{Stand, Rule}
use Rattle.rl_query_text.specs.TermGrammar.{InParentheses}
use Rattle.rl_selector_text.proofs.Finding.{Finds, found, fault, then}
use Rattle.rl_selector_text.proofs.Productions.{expected_found, expected_is}

-- the room inside a parenthesis, and around one
abbrev pub inside_room : Room → ℕ → Room
inside_room room depth = record { depth = depth; stages = room.stages; tests = room.tests }

abbrev pub outside : Room → Room
outside inside = record { depth = suc inside.depth; stages = inside.stages; tests = inside.tests }

-- a parenthesis that was opened
pub record IsOpened (room inside : Room) (lexemes following : List Lexeme) : Type 0 where
  pub stand : Stand (tokens.Sign signs.OpenParenthesis ∷ []) lexemes following
  pub around : room ≡ outside inside

deeper_found : (offset depth : ℕ) (room : Room) → Finds (λ inside. inside_room room depth ≡ outside inside) (deeper offset depth room)
deeper_found offset zero room = fault
deeper_found offset (suc depth) room = found refl

pub opened_read : (position : Position) (room : Room) (lexemes : List Lexeme) → Finds (λ x. IsOpened room x.0 lexemes x.1) (opened_at position room lexemes)
unfolding opened_at
opened_read position room lexemes =
    then _ (expected_found signs.OpenParenthesis position lexemes) (λ following stand. then _ (deeper_found (offset_of lexemes) room.depth room) (λ inside is. found (record { stand = stand; around = is })))

pub opened_is : (position : Position) (room : Room) (depth : ℕ) (lexemes following : List Lexeme) → room.depth ≡ suc depth → Stand (tokens.Sign signs.OpenParenthesis ∷ []) lexemes following → opened_at position room lexemes ≡ Ok (inside_room room depth, following)
unfolding opened_at
opened_is position room depth lexemes following is stand = rw (expected_is signs.OpenParenthesis position lexemes following stand, is) refl

-- what stands in parentheses, by another rule
pub inside_mapped : {Inside Mapped : Rule} {lexemes rest : List Lexeme} → ((following end : List Lexeme) → Inside following end → Mapped following end) → InParentheses Inside lexemes rest
    → InParentheses Mapped lexemes rest
inside_mapped shown p = record { following = p.following; end = p.end; opened = p.opened; inside = shown p.following p.end p.inside; closed = p.closed }

-- what is read in parentheses
pub parentheses_read : {A : Type 0} (Inside : Room → A → Rule) (position : Position) (inside : Reader A) (room : Room) (lexemes : List Lexeme) → ((room : Room) (lexemes : List Lexeme) → Finds (λ x. Inside room x.0 lexemes x.1) (inside room lexemes))
    → Finds (λ x. (deeper : Room) × (room ≡ outside deeper) × InParentheses (Inside deeper x.0) lexemes x.1) (in_parentheses position inside room lexemes)
unfolding in_parentheses
parentheses_read Inside position inside room lexemes sound =
    then _ (opened_read position room lexemes) (λ opened is.
    then _ (sound opened.0 opened.1) (λ read inner.
    then _ (expected_found signs.CloseParenthesis positions.AfterTerm read.1) (λ rest closed.
    found (opened.0, is.around, record { following = opened.1; end = read.1; opened = is.stand; inside = inner; closed = closed }))))

pub parentheses_are : {A : Type 0} (position : Position) (inside : Reader A) (room : Room) (depth : ℕ) (x : A) (lexemes following end rest : List Lexeme) → room.depth ≡ suc depth → Stand (tokens.Sign signs.OpenParenthesis ∷ []) lexemes following
    → Stand (tokens.Sign signs.CloseParenthesis ∷ []) end rest → inside (inside_room room depth) following ≡ Ok (x, end) → in_parentheses position inside room lexemes ≡ Ok (x, rest)
unfolding in_parentheses
parentheses_are position inside room depth x lexemes following end rest is opened closed read =
    rw (opened_is position room depth lexemes following is opened, read, expected_is signs.CloseParenthesis positions.AfterTerm end rest closed) refl
