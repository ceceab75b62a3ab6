-- The tests so far, and what is left. A parenthesis that is opened takes one of those that may still be.
use Rattle.std.proofs.Common.{◌≡◌, ℕ, ◌+◌, ◌*◌}
use Rattle.rl_query.specs.declared.label_test.Join.{Join}
use Rattle.rl_query.specs.declared.label_test.Join.TheVariants.{And, Or}
use Rattle.rl_query.specs.Form.{tests_form}
use Rattle.rl_selector_text.specs.Testing.{others_at, joined_at, part_at, inside_at}
use Rattle.rl_selector_text.proofs.testing.+tests.Given as goal

-- how far the reading of a part stands above that of one test
abbrev part_rank : Join → ℕ
part_rank And = 2
part_rank Or = 4

abbrev pub decreases-enclosed_at : goal.decreases-enclosed_at
decreases-enclosed_at l = 6 * l.depth

abbrev pub decreases-one_at : goal.decreases-one_at
decreases-one_at l = 6 * l.depth + 1

abbrev pub decreases-part_at : goal.decreases-part_at
decreases-part_at l = 6 * l.depth + part_rank l.join

abbrev pub decreases-joined_at : goal.decreases-joined_at
decreases-joined_at l = 6 * l.depth + part_rank l.join + 1

abbrev pub invariant-joined_at-loop-turn : goal.invariant-joined_at-loop-turn
invariant-joined_at-loop-turn l =
    (n : ℕ) → n + l._turn ≡ l.left → others_at l.join (part_at l.join (inside_at l.depth)) n (tests_form l.tests) l.fewer l.rest ≡ joined_at l.join (part_at l.join (inside_at l.depth)) l.fn.left l.fn.lexemes
