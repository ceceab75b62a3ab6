-- What is derived is read.
use Rattle.std.proofs.Common.{subst}
use Rattle.rl_plain.specs.Answers.{Gives}
use Rattle.rl_query.specs.Form.{tests_form}
use Rattle.rl_selector_text.proofs.TestReadings.{tests_are_read}
use Rattle.rl_selector_text.proofs.testing.tests_at.Goals as goal

pub returns-clause-complete : goal.returns-clause-complete
returns-clause-complete c = λ read is end count. subst (Gives (λ x. (tests_form x.0, x.1, x.2.now)) c.joined_at.result) (tests_are_read c.args.depth c.args.left c.args.lexemes.now read.0 read.1 read.2 is end count) c.joined_at.ensures
