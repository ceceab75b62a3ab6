-- The trees have the request at its number, and none of what is built ends later than the latest end.
use Rattle.std.proofs.Common.{◌≤◌, sym, ap, subst, ◌∙◌, arith}
use Rattle.std.specs.BTreeMap.{is_at}
use Rattle.std.specs.FinMap.{FinMap}
use Rattle.std.specs.Map.{lookup}
use Rattle.std.specs.Ordering.{nat_cmp}
use Rattle.std.proofs.lemmas.Grind.{common_steps}
use Rattle.rl_deletes.specs.Deletes.{RequestsView, asked, if_received, with_request}
use Rattle.rl_deletes.specs.declared.request.Request.{Request}
use Rattle.rl_deletes.proofs.Ends.{EndBy, ends_put, ends_raised, ends_taken}
use Rattle.rl_deletes.proofs.Received.{one_put, taken_again}
use Rattle.rl_deletes.proofs.requests.Requests.add.Goals as goal

pub invariant_of-self-in_err-insert : goal.invariant_of-self-in_err-insert
invariant_of-self-in_err-insert c =
    let inside = c.self.inside in
    let latest = c.max-self-inside.result in
    let rise : inside.latest ≤ latest = omega (arith, c.max-self-inside.ensures) in
    record {
      cancel_in_range = c.self.invariant.cancel_in_range;
      built = λ q. ap (lookup (is_at (nat_cmp q))) c.in_err-insert.ensures.err ∙ c.self.invariant.built q;
      ends = subst (EndBy latest) (sym c.in_err-insert.ensures.err) (ends_raised inside.latest latest rise inside.active.entries c.self.invariant.ends);
    }

pub invariant_of-self-in-Ok : goal.invariant_of-self-in-Ok
invariant_of-self-in-Ok c =
    let inside = c.self.inside in
    let latest = c.max-self-inside.result in
    let active = c.in_ok-active.active in
    let rise : inside.latest ≤ latest = omega (arith, c.max-self-inside.ensures) in
    let last : active.deletion.end ≤ latest = omega (arith, ap (λ (request : Request). request.deletion.end) c.in_ok-active.ensures, c.get.ensures.value, c.max-self-inside.ensures) in
    record {
      cancel_in_range = c.self.invariant.cancel_in_range;
      built = λ q. grind (arith, common_steps, c.self.invariant.built q);
      ends = subst (EndBy latest) (sym c.in_ok-insert.ensures.entries) (ends_put inside.latest latest rise inside.active.entries c.args.deletion.id active last c.self.invariant.ends);
    }

pub invariant_of-self-in-Err : goal.invariant_of-self-in-Err
invariant_of-self-in-Err c =
    let inside = c.self.inside in
    let id = c.args.deletion.id in
    let latest = c.max-self-inside.result in
    let active = c.in_ok-active.active in
    let rise : inside.latest ≤ latest = omega (arith, c.max-self-inside.ensures) in
    let last : active.deletion.end ≤ latest = omega (arith, ap (λ (request : Request). request.deletion.end) c.in_ok-active.ensures, c.get.ensures.value, c.max-self-inside.ensures) in
    let absent = c.self.invariant.built id ∙ ap if_received c.in-Err.ensures.absent in
    let put = subst (EndBy latest) (sym c.in_ok-insert.ensures.entries) (ends_put inside.latest latest rise inside.active.entries id active last c.self.invariant.ends) in
    record {
      cancel_in_range = c.self.invariant.cancel_in_range;
      built = λ q.
          taken_again inside.active.entries c.insert.new.self.entries c.remove.new.self.entries id active absent c.in_ok-insert.ensures.updates.0 c.remove.ensures.updates.0 q
          ∙ c.self.invariant.built q
          ∙ ap (λ es. if_received (lookup (is_at (nat_cmp q)) es)) (sym c.in-Err.ensures.err);
      ends = subst (EndBy latest) (sym c.remove.ensures.entries) (ends_taken latest (is_at (nat_cmp id)) c.insert.new.self.entries put);
    }

pub returns-in-Ok-clause-ok : goal.returns-in-Ok-clause-ok
returns-in-Ok-clause-ok c =
    let inside = c.self.inside in
    ap (λ (m : FinMap nat_cmp Request). let all : RequestsView = record { requests = m; cancel = inside.cancel } in all)
    (one_put inside.requests.entries c.insert-2.new.self.entries c.args.deletion.id (asked c.args.deletion) c.in-Ok.ensures.updates.0)
    ∙ ap (λ all. with_request all c.args.deletion.id (asked c.args.deletion)) c.self.view_is
