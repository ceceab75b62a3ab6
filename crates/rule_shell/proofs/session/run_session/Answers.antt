-- What callers did, and the close of the ruler, are a run.
use Rattle.std.proofs.Common.{◌≡◌, ◌∙◌, length, map, ap, subst}
use Rattle.rl_callers.specs.Callers.{listed}
use Rattle.rl_workers.specs.Rulers.{RulerView}
use Rattle.rule_shell.specs.Runs.{listed_groups, sinks_asked, RunsWith}
use Rattle.rule_shell.proofs.Ran.{ran}
use Rattle.rule_shell.proofs.session.run_session.Goals as goal

pub returns : goal.returns
returns g c =
    let plan = c.args.plan in
    let shards = length c.args.given.stores.items in
    let groups = listed_groups (length (sinks_asked plan.sinks)) c.args.given.groups.items in
    let commands = c.args.given.commands in
    let after = c.run_passes.new.out in
    let left = c.in_ok-ran.ran in
    let passes = c.in-Ok.passes.items in
    let known : map listed c.deref-2.result.now ≡ groups =
    ap (map listed) c.deref-2.ensures.value ∙ c.in_ok-listings.ensures ∙ ap (λ sinks. listed_groups sinks c.deref.result.now) c.sinks_of.ensures ∙ ap (listed_groups (length (sinks_asked plan.sinks))) c.deref.ensures.value in
    let text = c.as_str.result.now in
    let runs = subst (λ commands. RunsWith plan.pumps shards groups passes commands c.args.out.now left.refused after left.passes.items) c.as_str.ensures
    (subst (λ known. RunsWith plan.pumps shards known passes text c.args.out.now left.refused after left.passes.items) known
    (subst (λ count. RunsWith plan.pumps count (map listed c.deref-2.result.now) passes text c.args.out.now left.refused after left.passes.items) (ap (λ (view : RulerView). view.shards) c.in-Ok.ensures.ruler) c.in_ok-ran.ensures)) in
    ran plan.pumps shards plan.callers groups commands c.args.out.now after c.close.new.out passes left.passes.items left.refused c.close.result c.in-Ok.ensures.passes.0 c.in-Ok.ensures.passes.1 runs c.close.ensures
