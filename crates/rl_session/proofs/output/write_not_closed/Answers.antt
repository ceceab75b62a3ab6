-- Three texts, one after the other.
use Rattle.rl_session.proofs.Printers.{printed_more}
use Rattle.rl_session.proofs.output.write_not_closed.Goals as goal

pub returns : goal.returns
returns g c =
    printed_more c.args.out.now c.text-2.new.self c.text-3.new.self _ _ (printed_more c.args.out.now c.text.new.self c.text-2.new.self _ _ c.text.ensures.prints c.text-2.ensures.prints) c.text-3.ensures.prints
