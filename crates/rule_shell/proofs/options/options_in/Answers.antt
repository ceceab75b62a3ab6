-- What clap reads of the words is what the program asks of its options.
use Rattle.std.proofs.Common.{sym, ◌∙◌}
use Rattle.clap.specs.Words.{app_of}
use Rattle.rule_shell.proofs.Asked.{options_read, words_refused}
use Rattle.rule_shell.proofs.options.options_in.Goals as goal

pub returns-in-Ok-clause-asked : goal.returns-in-Ok-clause-asked
returns-in-Ok-clause-asked c = options_read (app_of c.in_ok-command.command) _ c.in-Ok.matches c.options_of.result c.in_ok-command.ensures c.in-Ok.ensures.matches c.in-Ok.ensures.kinds c.options_of.ensures.asked

pub returns-in-Err-clause-asked : goal.returns-in-Err-clause-asked
returns-in-Err-clause-asked c = words_refused (app_of c.in_ok-command.command) _ c.in-Err.error c.stop_of.result c.in_ok-command.ensures c.in-Err.ensures.kinds
    (λ memory. c.stop_of.ensures.memory (c.kind.ensures ∙ memory)) (λ other. c.stop_of.ensures.other (λ kind. other (sym c.kind.ensures ∙ kind)))
