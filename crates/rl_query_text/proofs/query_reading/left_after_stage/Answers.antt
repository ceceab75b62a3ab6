-- The number of tests is that of their forms.
use Rattle.std.proofs.Common.{◌-◌, ◌∙◌, sym, ap}
use Rattle.rl_query.specs.Form.{stage_form, tests_of}
use Rattle.rl_query.proofs.SameTests.{count_forms}
use Rattle.rl_query_text.proofs.query_reading.left_after_stage.Goals as goal

pub returns-in-Tests : goal.returns-in-Tests
returns-in-Tests c = c.left_after_tests.ensures ∙ ap (λ n. c.args.left - n) (sym (count_forms c.in-Tests.tests)) ∙ ap (λ s. c.args.left - tests_of (stage_form s)) (sym c.in-Tests.is)
