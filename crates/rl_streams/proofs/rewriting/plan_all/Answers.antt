-- One stream more.
use Rattle.std.proofs.Common.{◌≡◌, List, ◌∷◌, ◌++◌, [], ◌+◌, map, refl, sym, ap, subst, ◌∙◌, arith}
use Rattle.std.proofs.lemmas.List.{take_all}
use Rattle.std.proofs.lemmas.Map.Entries.{length-values_of}
use Rattle.std.specs.Map.{values_of}
use Rattle.rl_parts.specs.Rewriting.{PlanView}
use Rattle.std.proofs.lemmas.Result.{err_from_is_err_and}
use Rattle.rl_parts.specs.StoreUse.{AreKept}
use Rattle.rl_parts.specs.laws.UseLaws.{AreKept-keeps, Keeps-puts, Puts-none, Puts-then, Puts-wider}
use Rattle.rl_streams.specs.Rewritten.{ArePlanned}
use Rattle.rl_streams.proofs.Plans.{of_more, one_planned, planned_none, planned_then, same_fault}
use Rattle.rl_streams.proofs.RowChanges.{at_row, with_key}
use Rattle.rl_streams.specs.StreamRows.{Row}
use Rattle.rl_streams.proofs.rewriting.plan_all.Goals as goal

pub loop-position-preserved : goal.loop-position-preserved
loop-position-preserved g c =
    let covers = g.C.Covers.covers c.args.covered.now in
    let start = c.args.chunks.now in
    let seen = c.loop-position.chunks in
    let after = c.plan.new.chunks in
    let before = c.loop-position.invariant in
    let stream = c.index.result.now in
    let plan = c.in_ok-plan.plan in
    let made = c.in_ok-plan.ensures in
    let one = one_planned covers stream seen plan after made.of made.labels made.newest made.own made.fewer made.parts made.head made.numbers made.kept made.right in
    let items : c.push.new.self.items ≡ c.loop-position.plans.items ++ plan ∷ [] = c.in_ok-push.ensures.items in
    record {
      of = ap (map (λ (p : PlanView). p.of)) items ∙ of_more c.args.streams.now.entries c.loop-position.plans.items c.loop-position.position plan stream before.of c.index.ensures made.of;
      planned = subst (λ (ps : List PlanView). ArePlanned covers start ps after) (sym items) (planned_then covers start seen after c.loop-position.plans.items (plan ∷ []) (Keeps-puts start seen seen.next before.puts) (Keeps-puts seen after after.next made.puts) before.planned one);
      puts = Puts-then start seen after after.next made.puts.up before.puts made.puts;
      faults = made.counted ∙ before.faults;
    }

pub returns-clause-of : goal.returns-clause-of
returns-clause-of g c =
    let rows = c.args.streams.now.entries in
    c.loop-position.invariant.of ∙ take_all c.loop-position.position (values_of rows) (omega (arith, length-values_of rows, c.len-position-end.ensures.len, c.loop-position-test.false))

pub loop-position-init : goal.loop-position-init
loop-position-init g c =
    let covers = g.C.Covers.covers c.args.covered.now in
    let start = c.args.chunks.now in
    let items : c.in_ok-plans.plans.items ≡ [] = c.in_ok-plans.ensures.items in
    record {
      of = ap (map (λ (p : PlanView). p.of)) items;
      planned = subst (λ (ps : List PlanView). ArePlanned covers start ps start) (sym items) (planned_none covers start);
      puts = Puts-none start start.next;
      faults = refl;
    }

pub returns-in_err-plan-clause-undamaged : goal.returns-in_err-plan-clause-undamaged
returns-in_err-plan-clause-undamaged g c = λ honest kept.
    let start = c.args.chunks.now in
    let seen = c.loop-position.chunks in
    let rows = c.args.streams.now.entries in
    let stream = c.index.result.now in
    let keeps = Keeps-puts start seen seen.next c.loop-position.invariant.puts in
    let row = with_key rows c.loop-position.position stream c.index.ensures in
    let there : AreKept start stream = at_row (λ (r : Row). AreKept start r.1) rows c.loop-position.position (row.0, stream) kept row.1 in
    let p = err_from_is_err_and c.from_residual-in_err-plan.result c.from_residual-in_err-plan.ensures.1 in
    rw (p.1, p.2) (λ damaged. c.in_err-plan.ensures.undamaged (keeps.honest ∙ honest) (AreKept-keeps start seen stream keeps there) (same_fault _ _ damaged))

pub returns-in_err-plan-clause-puts : goal.returns-in_err-plan-clause-puts
returns-in_err-plan-clause-puts g c =
    let p = err_from_is_err_and c.from_residual-in_err-plan.result c.from_residual-in_err-plan.ensures.1 in
    rw p.1 (Puts-then c.args.chunks.now c.loop-position.chunks c.plan.new.chunks (c.plan.new.chunks.next + 1) (omega (arith, c.in_err-plan.ensures.puts.up)) c.loop-position.invariant.puts c.in_err-plan.ensures.puts)

pub returns-in_err-push-clause-puts : goal.returns-in_err-push-clause-puts
returns-in_err-push-clause-puts g c =
    let start = c.args.chunks.now in
    let seen = c.loop-position.chunks in
    let after = c.plan.new.chunks in
    let made = c.in_ok-plan.ensures in
    let p = err_from_is_err_and c.from_residual-in_err-push.result c.from_residual-in_err-push.ensures.1 in
    rw p.1 (Puts-wider start after (Puts-then start seen after after.next made.puts.up c.loop-position.invariant.puts made.puts))
