-- The sinks were offered what they had not taken, and the history is as before.
use Rattle.std.proofs.Common.{◌≡◌, ◌++◌, length, map, take, drop, arith, sym, subst}
use Rattle.std.specs.List.{AllByRecursion}
use Rattle.std.proofs.lemmas.Grind.{common_steps}
use Rattle.rl_world.specs.Offering.{TookPrefix}
use Rattle.rl_world.proofs.Committing.{each_took_offered}
use Rattle.rl_world.proofs.book.Book.catch_up.Goals as goal

pub catch_up_all-requires-clause-prefixes : goal.catch_up_all-requires-clause-prefixes
catch_up_all-requires-clause-prefixes g c =
    let state = g.S.Sink.state in
    let inside = c.self.inside in
    subst (λ evaluations. AllByRecursion (TookPrefix evaluations) (map state c.deref_mut.result.now)) (sym c.deref.ensures.value) (subst (λ sinks. AllByRecursion (TookPrefix inside.evaluations.items) (map state sinks)) (sym c.deref_mut.ensures.value) c.self.invariant.prefixes)

pub invariant_of-self : goal.invariant_of-self
invariant_of-self g c =
    let state = g.S.Sink.state in
    let inside = c.self.inside in
    let news = take inside.sinks.len (c.catch_up_all.new.sinks ++ drop (length c.catch_up_all.new.sinks) inside.sinks.items) in
    let same : news ≡ c.catch_up_all.new.sinks = grind (arith, common_steps) in
    let offered = subst (λ evaluations. AllByRecursion (TookPrefix evaluations) (map state c.catch_up_all.new.sinks)) c.deref.ensures.value (each_took_offered c.deref.result.now c.catch_up_all.ensures.offered.0 (map state c.catch_up_all.new.sinks) c.catch_up_all.ensures.offered.3) in
    record {
      terms_are = c.self.invariant.terms_are;
      alerts_are = c.self.invariant.alerts_are;
      each = c.self.invariant.each;
      few_shards = c.self.invariant.few_shards;
      few_records = c.self.invariant.few_records;
      few = c.self.invariant.few;
      group_is = c.self.invariant.group_is;
      evaluations_are = c.self.invariant.evaluations_are;
      answers = c.self.invariant.answers;
      prefixes = subst (λ sinks. AllByRecursion (TookPrefix inside.evaluations.items) (map state sinks)) (sym same) offered;
    }
