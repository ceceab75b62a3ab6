-- Where less stands there than is to go, nothing changes.
use Rattle.std.proofs.Common.{sym, ap, ◌∙◌}
use Rattle.std.proofs.lemmas.Map.Steps.{set_value_same}
use Rattle.std.specs.BTreeMap.{is_at}
use Rattle.std.specs.Map.{lookup}
use Rattle.rl_labels.specs.LabelText.{label_set_cmp}
use Rattle.rl_aggregate.proofs.totals.take_at.Goals as goal

pub returns-then-not-is_there-clause-left : goal.returns-then-not-is_there-clause-left
returns-then-not-is_there-clause-left c = λ q.
    ap (lookup (is_at (label_set_cmp q))) ((c.get_mut.follows.holds c.in-Some.sum.now).0 ∙ set_value_same (is_at (label_set_cmp c.args.labels.now)) c.args.by_labels.now.entries c.in-Some.sum.now (sym c.in-Some.ensures.value))
