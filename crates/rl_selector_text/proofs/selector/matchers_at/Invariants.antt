-- The matchers so far, and those that are left.
use Rattle.std.proofs.Common.{◌≡◌, ℕ, ◌+◌, length, map}
use Rattle.rl_query.specs.Form.{matcher_form}
use Rattle.rl_selector_text.specs.Parsing.{matchers_at}
use Rattle.rl_selector_text.proofs.Items.{with_front}
use Rattle.rl_selector_text.proofs.selector.matchers_at.Given as goal

abbrev pub invariant-loop-turn : goal.invariant-loop-turn
invariant-loop-turn l = (n : ℕ) → n + l._turn ≡ length l.lexemes → with_front (map matcher_form l.matchers.items) (matchers_at n l.rest) ≡ matchers_at (length l.lexemes) l.lexemes
