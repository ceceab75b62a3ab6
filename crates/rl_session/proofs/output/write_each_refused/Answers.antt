-- A line more.
use Rattle.std.proofs.Common.{Err}
use Rattle.rl_world.specs.declared.fault.Refusal.TheVariants as refusals
use Rattle.rl_session.specs.Printer.{as_list}
use Rattle.rl_session.proofs.Printing.{appends_more, entry_lines_repeated}
use Rattle.rl_session.proofs.output.write_each_refused.Goals as goal

pub loop-number-preserved : goal.loop-number-preserved
loop-number-preserved g c =
    appends_more (as_list c.args.out.now) (as_list c.loop-number.out) (as_list c.write_refusal.new.out) _ _ _ c.loop-number.invariant c.write_refusal.ensures (entry_lines_repeated c.loop-number.number (Err refusals.Memory))
