-- Callers that begin with the passes execute the commands, and what they have is taken back.
use Rattle.std.proofs.Common.{rules, ◌≡◌, ◌∙◌, ◌++◌, ◌∷◌, [], length, map, refl, ap, sym, subst, arith, length-append}
use Rattle.std.specs.List.{AllZip}
use Rattle.std.proofs.lemmas.List.{length-map, with_items_is}
use denote.Param.Send.{param_send}
use mir.Syntax.{erased}
use Rattle.rl_callers.proofs.Crossing.{Caller-send}
use Rattle.rl_callers.specs.Blocks.{ExecutesAll}
use Rattle.rl_callers.specs.Callers.{CallerView, listed}
use Rattle.rl_session.specs.declared.pumping.Pumping.{Pumping}
use Rattle.rule_shell.specs.contracts.counted.Counted as Counted
use Rattle.rule_shell.specs.contracts.session.run_passes as rows
use Rattle.rule_shell.specs.Runs.{Asking, IsBegun, asking_calls}
use Rattle.rule_shell.proofs.Crossing.{Counted-send, Counting-send, Pumping-send}
use Rattle.rule_shell.proofs.Running.{all_yielded, map_more, map_twice, one_yielded, zip_more}
use Rattle.rule_shell.proofs.session.run_passes.Goals as goal

pub loop-pass-init : goal.loop-pass-init
loop-pass-init g c = record {
  split = c.into_iter-pass-iterator.ensures.into_iter_gives.0;
  count = ap length c.in_ok-callers.ensures.items;
  room = omega (arith, c.in_ok-callers.ensures.capacity, c.len-2.ensures, c.args.passes.ok.0);
  begun = subst (λ callers. AllZip (IsBegun c.args.pumps c.args.ruler.now.shards (map listed c.args.listings.now)) [] (map (λ caller. caller.engine) callers)) (sym c.in_ok-callers.ensures.items) tt;
}

pub push_reserved-requires : goal.push_reserved-requires
push_reserved-requires g c =
    let so_far = c.loop-pass.invariant in
    omega (arith, c.loop-pass.callers.ok.0, so_far.count, so_far.room, ap length so_far.split, length-append c.loop-pass.yielded c.loop-pass.pass-iterator.rest.items, ap length c.in-Some.ensures.steps.0)

pub loop-pass-preserved : goal.loop-pass-preserved
loop-pass-preserved g c =
    let so_far = c.loop-pass.invariant in
    let runner = c.new-in-loop-pass-2.result in
    let begins = IsBegun c.args.pumps c.args.ruler.now.shards (map listed c.args.listings.now) in
    let one : begins c.in-Some.pass runner.engine = record {
      caller = ap (λ (asking : Asking). asking.engine.engine) c.new-in-loop-pass-2.ensures ∙ ap (λ pumping. pumping.engine) c.new-in-loop-pass.ensures ∙ c.new-engine.ensures.engine ∙ c.new.ensures;
      catches_up = ap (λ (asking : Asking). asking.engine.pumps) c.new-in-loop-pass-2.ensures ∙ ap (λ pumping. pumping.pumps) c.new-in-loop-pass.ensures ∙ c.new-engine.ensures.pumps;
    } in
    let more = zip_more begins c.loop-pass.yielded (map (λ caller. caller.engine) c.loop-pass.callers.items) c.in-Some.pass runner.engine so_far.begun one in
    let items = ap (map (λ caller. caller.engine)) c.push_reserved.ensures.items ∙ map_more (λ caller. caller.engine) c.loop-pass.callers.items runner in
    record {
      split = one_yielded c.loop-pass.yielded c.loop-pass.pass-iterator.rest.items c.args.passes.items c.next.new.self.rest.items c.in-Some.pass so_far.split c.in-Some.ensures.steps.0;
      count = omega (arith, ap length c.push_reserved.ensures.items, length-append c.loop-pass.callers.items (runner ∷ []), length-append c.loop-pass.yielded (c.in-Some.pass ∷ []), so_far.count);
      room = omega (arith, c.push_reserved.ensures.capacity, so_far.room);
      begun = subst (AllZip begins (c.loop-pass.yielded ++ c.in-Some.pass ∷ [])) (sym items) more;
    }

pub run_callers-refused-requires-send-E : goal.run_callers-refused-requires-send-E
run_callers-refused-requires-send-E g c κs within =
    let D = rows.D-row g.row.D g.row.S g.row.L g.row.P g.row.R g.row.W in
    let S = rows.S-row g.row.D g.row.S g.row.L g.row.P g.row.R g.row.W in
    let L = rows.L-row g.row.D g.row.S g.row.L g.row.P g.row.R g.row.W in
    let P = rows.P-row g.row.D g.row.S g.row.L g.row.P g.row.R g.row.W in
    let R = rows.R-row g.row.D g.row.S g.row.L g.row.P g.row.R g.row.W in
    let caller = Caller-send (record { mir = erased; lft = _ }) (Counted.the_row D) S L P R _ g.S.Sink g.L.Crew g.L.Ledger g.P.Crew g.P.Ledger (Counted-send D c.type_bounds.send-D) c.type_bounds.send-S c.type_bounds.send-L c.type_bounds.sync-R in
    let asking = param_send 0 _ (Counting-send _ (Pumping-send _ caller)) in
    record { owned = asking.owned; leaving = asking.leaving }

pub run_callers-refused-requires-clause-some : goal.run_callers-refused-requires-clause-some
run_callers-refused-requires-clause-some g c κs within =
    let so_far = c.loop-pass.invariant in
    let none : length c.loop-pass.pass-iterator.rest.items ≡ 0 = omega (arith, c.in-None.ensures.steps.0, c.loop-pass.pass-iterator.rest.ok.0) in
    omega (arith, c.requires, ap length c.deref_mut.ensures.value, so_far.count, ap length (all_yielded c.loop-pass.yielded c.loop-pass.pass-iterator.rest.items c.args.passes.items so_far.split none))

pub loop-caller-init : goal.loop-caller-init
loop-caller-init g c =
    let so_far = c.loop-pass.invariant in
    let none : length c.loop-pass.pass-iterator.rest.items ≡ 0 = omega (arith, c.in-None.ensures.steps.0, c.loop-pass.pass-iterator.rest.ok.0) in
    let yielded = ap length (all_yielded c.loop-pass.yielded c.loop-pass.pass-iterator.rest.items c.args.passes.items so_far.split none) in
    let put_back = with_items_is c.loop-pass.callers c.run_callers-refused.new.callers (omega (arith, c.run_callers-refused.auto.callers, c.deref_mut.ensures.len)) in
    record {
      split = refl;
      left = c.in_ok-left.ensures.items;
      room = omega (arith, ap length (c.into_iter-caller-iterator.ensures.into_iter_gives.0 ∙ put_back), c.run_callers-refused.auto.callers, ap length c.deref_mut.ensures.value, so_far.count, yielded, c.in_ok-left.ensures.capacity, c.len.ensures, c.args.passes.ok.0);
    }

pub push_reserved-requires-in-loop-caller : goal.push_reserved-requires-in-loop-caller
push_reserved-requires-in-loop-caller g c =
    let so_far = c.loop-caller.invariant in
    omega (arith, c.loop-caller.left.ok.0, ap length so_far.left, length-map c.loop-caller.yielded (λ caller. caller.engine.engine.engine.pass), so_far.room, ap length so_far.split, length-append c.loop-caller.yielded c.loop-caller.caller-iterator.rest.items, ap length c.in-Some-caller.ensures.steps.0)

pub loop-caller-preserved : goal.loop-caller-preserved
loop-caller-preserved g c =
    let so_far = c.loop-caller.invariant in
    let caller = c.in-Some-caller.caller in
    let pass = c.into_pass.ensures ∙ ap (λ (view : CallerView). view.pass) c.into_engine-in-loop-caller.ensures ∙ ap (λ (pumping : Pumping CallerView). pumping.engine.pass) c.into_parts-engine.ensures ∙ ap (λ (asking : Asking). asking.engine.engine.pass) c.into_engine.ensures in
    record {
      split = one_yielded c.loop-caller.yielded c.loop-caller.caller-iterator.rest.items _ c.next-in-loop-caller.new.self.rest.items caller so_far.split c.in-Some-caller.ensures.steps.0;
      left = c.push_reserved-in-loop-caller.ensures.items ∙ ap (λ left. left ++ c.into_pass.result ∷ []) so_far.left ∙ ap (λ one. map (λ caller. caller.engine.engine.engine.pass) c.loop-caller.yielded ++ one ∷ []) pass ∙ sym (map_more (λ caller. caller.engine.engine.engine.pass) c.loop-caller.yielded caller);
      room = omega (arith, c.push_reserved-in-loop-caller.ensures.capacity, so_far.room);
    }

pub returns : goal.returns
returns g c =
    let so_far = c.loop-pass.invariant in
    let none : length c.loop-pass.pass-iterator.rest.items ≡ 0 = omega (arith, c.in-None.ensures.steps.0, c.loop-pass.pass-iterator.rest.ok.0) in
    let yielded = all_yielded c.loop-pass.yielded c.loop-pass.pass-iterator.rest.items c.args.passes.items so_far.split none in
    let begins = IsBegun c.args.pumps c.args.ruler.now.shards (map listed c.args.listings.now) in
    let olds = map (λ caller. caller.engine) c.loop-pass.callers.items in
    let news = map (λ caller. caller.engine) c.run_callers-refused.new.callers in
    let executed = subst (λ callers. ExecutesAll asking_calls (map (λ caller. caller.engine) callers) c.args.commands.now c.args.out.now c.run_callers-refused.result c.run_callers-refused.new.out news) c.deref_mut.ensures.value c.run_callers-refused.ensures in
    let put_back = with_items_is c.loop-pass.callers c.run_callers-refused.new.callers (omega (arith, c.run_callers-refused.auto.callers, c.deref_mut.ensures.len)) in
    let last : length c.loop-caller.caller-iterator.rest.items ≡ 0 = omega (arith, c.in-None-caller.ensures.steps.0, c.loop-caller.caller-iterator.rest.ok.0) in
    let all = all_yielded c.loop-caller.yielded c.loop-caller.caller-iterator.rest.items _ c.loop-caller.invariant.split last ∙ c.into_iter-caller-iterator.ensures.into_iter_gives.0 ∙ put_back in
    let left = c.loop-caller.invariant.left ∙ ap (map (λ caller. caller.engine.engine.engine.pass)) all ∙ map_twice (λ (asking : Asking). asking.engine.engine.pass) (λ caller. caller.engine) c.run_callers-refused.new.callers in
    (olds, news, subst (λ passes. AllZip begins passes olds) yielded so_far.begun, executed, left)
