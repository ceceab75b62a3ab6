-- An absence of totals is one of lines.
use Rattle.std.proofs.Common.{◌≡◌, cond, ap, sym, ◌∙◌}
use Rattle.rl_aggregate.specs.Evaluated.{finished}
use Rattle.rl_aggregate.specs.declared.outcome.Outcome.TheVariants as outcomes
use Rattle.rl_aggregate.proofs.Absences.{absent-found}
use Rattle.rl_aggregate.proofs.vector.finish.Goals as goal

pub returns-clause-absent : goal.returns-clause-absent
returns-clause-absent c =
    let value : outcomes.Vector c.in_ok-samples.samples.items ≡ finished c.args.query.now c.args.partials.now = λ i. cond ((sym c.if-have_errors.false ∙ c.have_errors.ensures) i) outcomes.Failed (outcomes.Vector (c.in_ok-samples.ensures i)) in
    absent-found c.args.query.now c.args.partials.now (outcomes.Vector c.from_vec.result) (ap outcomes.Vector c.from_vec.ensures ∙ value)
