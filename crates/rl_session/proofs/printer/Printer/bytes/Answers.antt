-- What could not be written is left.
use Rattle.rl_session.proofs.Printers.{none_left, text_asked, written_on, no_rest}
use Rattle.rl_session.proofs.printer.Printer.bytes.Goals as goal

pub invariant_of-self : goal.invariant_of-self
invariant_of-self g c = (
  none_left c.self.inside.failed c.is_empty.result _ c.write_unless-rest.result.now _ c.self.invariant.0 (no_rest c.write_unless-rest.result.now c.is_empty.result c.is_empty.ensures) c.leave.ensures,
  written_on _ (g.W.Write.contents c.self.inside.writer) _ _ _ c.self.invariant.1 c.write_unless-rest.ensures.writes,
)

pub returns-clause-prints : goal.returns-clause-prints
returns-clause-prints g c =
    rw (← c.self.view_is) (text_asked (g.W.Write.contents c.self.inside.start.value) (g.W.Write.contents c.self.inside.writer) (g.W.Write.contents c.write_unless-rest.new.writer) _ c.write_unless-rest.result.now _ _ c.self.inside.failed _ c.self.invariant.0 c.write_unless-rest.ensures.writes c.write_unless-rest.ensures.stays c.leave.ensures)
