-- The sinks are closed and counted, and took what they took before.
use Rattle.std.proofs.Common.{◌++◌, length, map, take, drop, ap, sym, subst, arith}
use Rattle.std.proofs.lemmas.List.{with_items_is}
use Rattle.std.specs.List.{AllZip}
use Rattle.rl_world.specs.Closed.{IsClosed}
use Rattle.rl_world.specs.WorldState.{BookState, with_sinks}
use Rattle.rl_world.proofs.Closing.{took_prefix-put}
use Rattle.rl_world.proofs.book.Book.close_sinks.Goals as goal

pub invariant_of-self : goal.invariant_of-self
invariant_of-self g c =
    let book = c.self.inside in
    let state = g.S.Sink.state in
    let closes = subst (λ sinks. AllZip IsClosed (map state sinks) (map state c.close_all.new.sinks)) c.deref_mut.ensures.value c.close_all.ensures.closed in
    record {
      terms_are = c.self.invariant.terms_are;
      alerts_are = c.self.invariant.alerts_are;
      each = c.self.invariant.each;
      few_shards = c.self.invariant.few_shards;
      few_records = c.self.invariant.few_records;
      few = c.self.invariant.few;
      group_is = c.self.invariant.group_is;
      evaluations_are = c.self.invariant.evaluations_are;
      answers = c.self.invariant.answers;
      prefixes = took_prefix-put state book.evaluations.items book.sinks.items c.close_all.new.sinks book.sinks.len (omega (arith, book.sinks.ok.0)) closes c.self.invariant.prefixes;
    }

pub returns-clause-closed : goal.returns-clause-closed
returns-clause-closed g c =
    let state = g.S.Sink.state in
    let olds = c.self.inside.sinks in
    let news = c.close_all.new.sinks in
    let back = take olds.len (news ++ drop (length news) olds.items) in
    let closes = subst (λ sinks. AllZip IsClosed (map state sinks) (map state news)) c.deref_mut.ensures.value c.close_all.ensures.closed in
    let kept = subst (λ sinks. AllZip IsClosed (map state olds.items) (map state sinks)) (sym (with_items_is olds news (omega (arith, olds.ok.0)))) closes in
    (ap (λ (book : BookState). with_sinks book (map state back)) c.self.view_is, subst (λ (book : BookState). AllZip IsClosed book.sinks (map state back)) c.self.view_is kept)
