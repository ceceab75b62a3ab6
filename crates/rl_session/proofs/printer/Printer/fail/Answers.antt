-- What was asked for stays.
use Rattle.std.proofs.Common.{true}
use Rattle.std.proofs.KnownBytes.{Keeps-refl}
use Rattle.rl_session.proofs.Printers.{list_kept}
use Rattle.rl_session.proofs.printer.Printer.fail.Goals as goal

pub returns-clause-same : goal.returns-clause-same
returns-clause-same g c =
    let held = g.W.Write.contents c.self.inside.writer in
    rw (← c.self.view_is) (list_kept (g.W.Write.contents c.self.inside.start.value) held held _ c.self.inside.failed true (Keeps-refl held))
