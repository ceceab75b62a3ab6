-- What was asked for stays.
use Rattle.rl_session.proofs.Printers.{list_kept}
use Rattle.rl_session.proofs.printer.Printer.flush.Goals as goal

pub returns-clause-same : goal.returns-clause-same
returns-clause-same g c =
    rw (← c.self.view_is) (list_kept (g.W.Write.contents c.self.inside.start.value) (g.W.Write.contents c.self.inside.writer) (g.W.Write.contents c.flush_unless-flushed.new.writer) _ c.self.inside.failed c.is_err-self-inside.result c.flush_unless-flushed.ensures.kept)
