-- A run of a label set adds to its total. The totals have a label set that they have with the run.
use Rattle.std.proofs.Common.{sym, ap, subst, ◌∙◌}
use Rattle.std.proofs.lemmas.Result.{on_ok_weaker}
use Rattle.std.specs.FinMap.{contains_key}
use Rattle.rl_aggregate.specs.Partials.{Fits}
use Rattle.rl_aggregate.specs.Runs.{with_volume}
use Rattle.rl_aggregate.specs.laws.Runs.{one_more}
use Rattle.rl_aggregate.proofs.Accumulating.{added-fits, added-has}
use Rattle.rl_aggregate.proofs.partial.Partial.add.Goals as goal

pub add-requires : goal.add-requires
add-requires c = added-fits c.args.self.now c.in-Some.own c.args.volume (subst (λ own. Fits (with_volume own c.args.volume c.args.self.now)) c.in-Some.is c.requires)

pub returns-clause-known : goal.returns-clause-known
returns-clause-known c = λ all. c.add.ensures.known (all c.in-Some.own (
    ap (λ own. contains_key (with_volume own c.args.volume c.args.self.now).totals c.in-Some.own) c.in-Some.is
    ∙ added-has c.args.self.now.totals c.in-Some.own c.args.volume
    ))

pub returns-in_default-clause-one_more : goal.returns-in_default-clause-one_more
returns-in_default-clause-one_more c = one_more (record { labels = c.args.labels.now; volume = c.args.volume }) c.args.self.now _ (λ i. with_volume (sym c.in_default.is i) c.args.volume c.args.self.now)

pub returns-clause-one_more : goal.returns-clause-one_more
returns-clause-one_more c = on_ok_weaker c.add.result (λ ok. one_more (record { labels = c.args.labels.now; volume = c.args.volume }) c.args.self.now _ (
    (λ i. record { errors = c.args.self.now.errors; totals = ok i })
    ∙ (λ i. with_volume (sym c.in-Some.is i) c.args.volume c.args.self.now)
    )) c.add.ensures.ok
