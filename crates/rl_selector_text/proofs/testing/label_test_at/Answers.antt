-- The name of the test is free.
use Rattle.rl_query.specs.Form.{matcher_form}
use Rattle.rl_selector_text.proofs.FreeNames.{free_matcher}
use Rattle.rl_selector_text.proofs.testing.label_test_at.Goals as goal

pub invariant_of-test : goal.invariant_of-test
invariant_of-test c = record { free = free_matcher c.args.lexemes.now c.in_ok-matcher.rest.now (matcher_form c.in_ok-matcher.matcher) c.requires c.in_ok-matcher.ensures }
