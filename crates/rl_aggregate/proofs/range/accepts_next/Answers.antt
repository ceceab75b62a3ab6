-- Labels that are the ones before are accepted as those were.
use Rattle.std.proofs.Common.{sym, ap, ◌∙◌}
use Rattle.rl_labels.specs.Selects.{selects}
use Rattle.rl_labels.specs.laws.TextLaws.{label_set_eq-true}
use Rattle.rl_aggregate.proofs.range.accepts_next.Goals as goal

pub returns-then-eq : goal.returns-then-eq
returns-then-eq c = c.requires ∙ ap (selects c.args.selector.now) (label_set_eq-true c.args.before.now c.args.labels.now (sym c.if-eq.ensures))
