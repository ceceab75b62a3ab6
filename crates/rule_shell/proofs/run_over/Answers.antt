-- A group more, whose sinks are those that are asked for.
use Rattle.std.proofs.Common.{rules, ◌≡◌, ◌∙◌, None, refl, ap, inl, inr}
use Rattle.rl_sinks.specs.contracts.sink.BoxDynSinkSendSink.TheImpl.{ghosts}
use Rattle.rl_sinks.specs.LogState.{log_state}
use Rattle.rl_sinks.specs.TailState.{tail_state}
use Rattle.rl_sinks.specs.SinkState.{SinkState}
use Rattle.rl_sinks.specs.declared.sink.SinkKind.TheVariants as kinds
use denote.Param.Object.{read_made}
use Rattle.rule_shell.specs.Runs.{new_sink}
use Rattle.rule_shell.proofs.FreshSinks.{all_asked, all_fresh, all_more, one_asked, three_asked}
use Rattle.rule_shell.proofs.run_over.OwnLists.{own-1, lawful-own-1}
use Rattle.rule_shell.proofs.run_over.Hidden.{sends-own-1}
use Rattle.rule_shell.proofs.run_over.Goals as goal

-- a recorder alone
pub loop-preserved-then-not-all : goal.loop-preserved-then-not-all
loop-preserved-then-not-all g c =
    let state = (ghosts (own-1, lawful-own-1, sends-own-1)).state in
    let boxed = c.into_dyn_box.result in
    let read : state boxed ≡ log_state kinds.Recorder c.in_ok-new.field-0.value = read_made own-1 (own-1.entry (inl tt)) (inl tt) refl SinkState (λ j v. j.1.state v) boxed.vtable boxed.value c.in_ok-new.field-0.value c.into_dyn_box.ensures.1 in
    let is : state boxed ≡ new_sink kinds.Recorder None = read ∙ ap (log_state kinds.Recorder) (c.in_ok-new.ensures.ok ∙ c.new-recorder.ensures) in
    let own = one_asked state c.args.plan.sinks c.in_ok-vec.field-0 boxed (search rules) c.in_ok-vec.ensures.items is in
    let more = all_more _ c.loop.sinks.items c.in_ok-vec.field-0 c.loop.invariant.1 own in
    (search rules, rw (← c.in_ok-push.ensures.items) at more)

-- a recorder, a notifier and a tail
pub loop-preserved : goal.loop-preserved
loop-preserved g c =
    let state = (ghosts (own-1, lawful-own-1, sends-own-1)).state in
    let recorder = c.into_dyn_box.result in
    let notifier = c.into_dyn_box-in_ok-new-2.result in
    let tail = c.into_dyn_box-in_ok-new-3.result in
    let first : state recorder ≡ log_state kinds.Recorder c.in_ok-new.field-0.value = read_made own-1 (own-1.entry (inl tt)) (inl tt) refl SinkState (λ j v. j.1.state v) recorder.vtable recorder.value c.in_ok-new.field-0.value c.into_dyn_box.ensures.1 in
    let second : state notifier ≡ log_state kinds.Notifier c.in_ok-new-2.field-0.value = read_made own-1 (own-1.entry (inr (inl tt))) (inr (inl tt)) refl SinkState (λ j v. j.1.state v) notifier.vtable notifier.value c.in_ok-new-2.field-0.value c.into_dyn_box-in_ok-new-2.ensures.1 in
    let third : state tail ≡ tail_state c.in_ok-new-3.field-0.value = read_made own-1 (own-1.entry (inr (inr (inl tt)))) (inr (inr (inl tt))) refl SinkState (λ j v. j.1.state v) tail.vtable tail.value c.in_ok-new-3.field-0.value c.into_dyn_box-in_ok-new-3.ensures.1 in
    let recorder_is = first ∙ ap (log_state kinds.Recorder) (c.in_ok-new.ensures.ok ∙ c.new-recorder.ensures) in
    let notifier_is = second ∙ ap (log_state kinds.Notifier) (c.in_ok-new-2.ensures.ok ∙ c.new-notifier.ensures) in
    let tail_is = third ∙ ap tail_state (c.in_ok-new-3.ensures.ok ∙ c.in_ok-tail.ensures) in
    let own = three_asked state c.args.plan.sinks c.in_ok-vec-2.field-0 recorder notifier tail (search rules) c.in_ok-vec-2.ensures.items recorder_is notifier_is tail_is in
    let more = all_more _ c.loop.sinks.items c.in_ok-vec-2.field-0 c.loop.invariant.1 own in
    (search rules, rw (← c.in_ok-push-2.ensures.items) at more)

pub run_session-requires-clause-fresh : goal.run_session-requires-clause-fresh
run_session-requires-clause-fresh g c κs within = all_fresh (ghosts (own-1, lawful-own-1, sends-own-1)).state c.args.plan.sinks c.loop.sinks.items c.loop.invariant.1

pub run_session-requires-clause-asked : goal.run_session-requires-clause-asked
run_session-requires-clause-asked g c κs within = all_asked (ghosts (own-1, lawful-own-1, sends-own-1)).state c.args.plan.sinks c.loop.sinks.items c.args.front.groups.items (search rules) c.loop.invariant.1
