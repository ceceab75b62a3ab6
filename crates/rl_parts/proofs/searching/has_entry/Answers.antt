-- An entry that belongs between others is not among them.
use Rattle.rl_labels.specs.laws.OrderLaws.{entry_cmp_total}
use Rattle.rl_parts.proofs.Finding.{no, not_there}
use Rattle.rl_parts.proofs.searching.has_entry.Goals as goal

pub returns-in-Err : goal.returns-in-Err
returns-in-Err c = no (not_there entry_cmp_total c.args.entries.now c.args.entry.now c.in-Err.field-0 c.in-Err.ensures.belongs.before c.in-Err.ensures.belongs.after)
