-- The word of digits is read as its number.
use Rattle.std.proofs.Common.{sym, ap, ◌∙◌}
use Rattle.rl_session.specs.Command.{is_number}
use Rattle.rl_session.proofs.Ids.{id_read}
use Rattle.rl_session.proofs.command.id_of.Goals as goal

pub returns : goal.returns
returns c = c.ok.ensures.value ∙ id_read c.args.word.now c.parse.result (ap is_number (sym c.as_bytes.ensures.value) ∙ sym c.is_number.ensures ∙ c.if-not-is_number.false) c.parse.ensures.value.0
