-- The tree has the request with the status, and what was built of it is gone.
use Rattle.std.proofs.Common.{IsSome, sym, ap, subst, ◌∙◌, arith}
use Rattle.std.specs.BTreeMap.{is_at}
use Rattle.std.specs.Ordering.{nat_cmp}
use Rattle.std.proofs.lemmas.Grind.{common_steps}
use Rattle.rl_deletes.specs.Deletes.{ended, received_at}
use Rattle.rl_deletes.proofs.Ends.{EndBy, ends_taken}
use Rattle.rl_deletes.proofs.Received.{ended_tree}
use Rattle.rl_deletes.proofs.requests.Requests.retire.Goals as goal

pub invariant_of-self : goal.invariant_of-self
invariant_of-self c =
    let inside = c.self.inside in
    record {
      cancel_in_range = c.self.invariant.cancel_in_range;
      built = λ q. grind (arith, common_steps, c.self.invariant.built q);
      ends = subst (EndBy inside.latest) (sym c.remove.ensures.entries) (ends_taken inside.latest (is_at (nat_cmp c.args.id)) inside.active.entries c.self.invariant.ends);
    }

pub returns : goal.returns
returns c =
    let inside = c.self.inside in
    ended_tree inside.cancel inside.requests.entries c.set_status.new.requests.entries c.args.id c.args.status (subst (λ all. IsSome (received_at all c.args.id)) (sym c.self.view_is) c.requires.received) c.set_status.ensures
    ∙ ap (λ all. ended c.args.status all c.args.id) c.self.view_is
