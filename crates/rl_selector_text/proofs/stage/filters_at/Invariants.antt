-- The line filters so far, and those that are left.
use Rattle.std.proofs.Common.{◌≡◌, ℕ, ◌+◌, ◌≤◌, length, map}
use Rattle.rl_query.specs.Form.{filter_form}
use Rattle.rl_query.specs.Limits.{most_stages}
use Rattle.rl_selector_text.specs.Parsing.{filters_at}
use Rattle.rl_selector_text.proofs.Items.{with_front}
use Rattle.rl_selector_text.proofs.stage.filters_at.Given as goal

abbrev pub invariant-loop-turn : goal.invariant-loop-turn
invariant-loop-turn l = ((n : ℕ) → n + l._turn ≡ most_stages → with_front (map filter_form l.filters.items) (filters_at n l.rest) ≡ filters_at most_stages l.lexemes) × (length l.filters.items ≤ l._turn)
