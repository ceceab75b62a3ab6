-- One sink is closed, and took what it took before.
use Rattle.std.proofs.Common.{◌≡◌, ◌<◌, IfSome, length, map, not, slice_get, slice_set, ap, sym, subst, ◌∙◌, refl, arith}
use Rattle.std.proofs.lemmas.List.{length-map}
use Rattle.std.proofs.lemmas.Option.{slice_get_read}
use Rattle.rl_sinks.specs.SinkState.{closed}
use Rattle.rl_world.specs.WorldState.{BookState, with_sinks}
use Rattle.rl_world.proofs.Closing.{answered_at, closed_view, took_prefix-at}
use Rattle.rl_world.proofs.book.Book.close_sink.Goals as goal

pub invariant_of-self : goal.invariant_of-self
invariant_of-self g c =
    let state = g.S.Sink.state in
    let book = c.self.inside in
    let few : c.args.sink < length book.sinks.items = omega (arith, c.requires, length-map book.sinks.items state, ap (λ (b : BookState). length b.sinks) c.self.view_is) in
    let there = slice_get_read book.sinks.items (length book.sinks.items) c.args.sink c.index_mut.result.now refl few c.index_mut.ensures.value in
    record {
      terms_are = c.self.invariant.terms_are;
      alerts_are = c.self.invariant.alerts_are;
      each = c.self.invariant.each;
      few_shards = c.self.invariant.few_shards;
      few_records = c.self.invariant.few_records;
      few = c.self.invariant.few;
      group_is = c.self.invariant.group_is;
      evaluations_are = c.self.invariant.evaluations_are;
      answers = c.self.invariant.answers;
      prefixes = took_prefix-at state book.evaluations.items book.sinks.items c.args.sink c.index_mut.result.now c.close.new.self _ there c.close.ensures.closed c.self.invariant.prefixes;
    }

pub returns-clause-closed : goal.returns-clause-closed
returns-clause-closed g c =
    let state = g.S.Sink.state in
    let book = c.self.inside in
    let few : c.args.sink < length book.sinks.items = omega (arith, c.requires, length-map book.sinks.items state, ap (λ (b : BookState). length b.sinks) c.self.view_is) in
    let there = slice_get_read book.sinks.items (length book.sinks.items) c.args.sink c.index_mut.result.now refl few c.index_mut.ensures.value in
    let here = closed_view state book.sinks.items c.args.sink c.index_mut.result.now c.close.new.self (not c.is_ok.result) there (c.close.ensures.closed ∙ ap (closed (state c.index_mut.result.now)) c.is_ok.ensures.negation) in
    let view : BookState = record { history = record { first = book.first; records = book.records; items = book.items.items; group = book.group; evaluations = book.evaluations.items; opened = book.opened }; shards = book.shards; slot = book.slot; sinks = map state book.sinks.items } in
    let now : BookState = with_sinks view (map state (slice_set book.sinks.items c.args.sink c.close.new.self)) in
    subst (λ (b : BookState). IfSome (slice_get b.sinks c.args.sink) (λ own. now ≡ with_sinks b (slice_set b.sinks c.args.sink (closed own (not c.is_ok.result))))) c.self.view_is (here view refl)

pub returns-clause-answer : goal.returns-clause-answer
returns-clause-answer g c =
    let state = g.S.Sink.state in
    let book = c.self.inside in
    answered_at state g.S.Sink.close_answers book.sinks.items c.args.sink c.close.new.self (c.close.new.self, c.close.result, refl, c.close.ensures.answer, ap (λ sink. sink.failed) c.close.ensures.closed)
