-- The names so far, and those that are left.
use Rattle.std.proofs.Common.{◌≡◌, ℕ, ◌+◌, length}
use Rattle.rl_query_text.specs.AggregationReading.{named_at}
use Rattle.rl_selector_text.specs.Parsing.{listed_at}
use Rattle.rl_selector_text.proofs.Items.{with_front}
use Rattle.rl_query_text.proofs.aggregation_reading.names_at.Given as goal

abbrev pub invariant-loop-turn : goal.invariant-loop-turn
invariant-loop-turn l = (n : ℕ) → n + l._turn ≡ length l.lexemes → with_front l.names.items (listed_at named_at n l.rest) ≡ listed_at named_at (length l.lexemes) l.lexemes
