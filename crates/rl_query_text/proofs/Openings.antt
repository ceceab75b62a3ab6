-- What is inside takes a parenthesis, and reads as what it is inside of reads it.
use Rattle.std.proofs.Common.{◌≡◌, ℕ, suc, List, Ok, refl, ap}
use Rattle.rl_plain.specs.Answers.{◌>>=◌}
use Rattle.rl_query.specs.declared.token.Lexeme.{Lexeme}
use Rattle.rl_query.specs.declared.token.Sign.TheVariants as signs
use Rattle.rl_query_text.specs.declared.aggregation_reading.Front.{Front}
use Rattle.rl_selector_text.specs.declared.front.Position.{Position}
use Rattle.rl_selector_text.specs.declared.front.Position.TheVariants as positions
use Rattle.rl_selector_text.specs.declared.room.Room.{Room}
use Rattle.rl_query_text.specs.AggregationReading.{nested, grouping_at, operator_at, front_at, ended_at}
use Rattle.rl_selector_text.specs.Fronts.{expected}
use Rattle.rl_query_text.specs.RangeReading.{opened_at}
use Rattle.rl_query_text.specs.QueryReading.{Reader, in_parentheses, around, aggregated_at, term_in}
use Rattle.rl_selector_text.specs.Stops.{offset_of}
use Rattle.rl_query_text.proofs.Parentheses.{opened_read}
use Rattle.rl_selector_text.proofs.Finding.{Finds, found, itself, then}

-- a vector aggregation takes a parenthesis
pub front_depth : (word : List ℕ) (nest : ℕ) (room : Room) (lexemes : List Lexeme) (front : Front) (opened : List Lexeme) → front_at word nest room lexemes ≡ Ok (front, opened) → room.depth ≡ suc front.room.depth
unfolding front_at
front_depth word nest room lexemes front opened h =
    let depths : Finds (λ x. room.depth ≡ suc x.0.room.depth) (front_at word nest room lexemes) =
    then _ (itself (nested (offset_of lexemes) nest)) (λ _ _.
    then _ (itself (grouping_at room lexemes)) (λ grouping _.
    then _ (opened_read positions.Elsewhere room grouping.1) (λ opened is.
    then _ (itself (operator_at word opened.1)) (λ _ _. found (ap (λ (r : Room). r.depth) is.around))))) in
    depths.is (front, opened) h

-- what stands in parentheses, after the first
pub opened_reads : {A : Type 0} (reader : ℕ → Reader A) (position : Position) (room inside : Room) (lexemes opened : List Lexeme) → opened_at position room lexemes ≡ Ok (inside, opened)
    → in_parentheses position (reader room.depth) room lexemes ≡ (reader (suc inside.depth) inside opened >>= λ read. expected signs.CloseParenthesis positions.AfterTerm read.1 >>= λ closed. Ok (read.0, closed))
unfolding in_parentheses
opened_reads reader position room inside lexemes opened parenthesis =
    rw (parenthesis, ap (λ (r : Room). r.depth) ((opened_read position room lexemes).is (inside, opened) parenthesis).around) refl

-- a vector aggregation, after what stands before its term
pub front_reads : (word : List ℕ) (nest : ℕ) (room : Room) (lexemes opened : List Lexeme) (front : Front) → front_at word nest room lexemes ≡ Ok (front, opened)
    → aggregated_at (term_in room.depth) word nest room lexemes ≡ (term_in (suc front.room.depth) positions.InTerm front.nest front.room opened >>= λ term. ended_at front room term.1 >>= λ closed. Ok (around closed.0 term.0, closed.1))
unfolding aggregated_at
front_reads word nest room lexemes opened front before = rw (before, front_depth word nest room lexemes front opened before) refl
