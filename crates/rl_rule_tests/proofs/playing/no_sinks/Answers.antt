-- A group more.
use Rattle.std.proofs.Common.{arith, ap, subst, sym, map}
use Rattle.std.specs.List.{AllByRecursion}
use Rattle.std.proofs.lemmas.Grind.{common_steps}
use Rattle.rl_world.specs.BookCalls.{IsFresh}
use Rattle.rl_rule_tests.proofs.Handed.{all_more, none_more}
use Rattle.rl_rule_tests.proofs.playing.no_sinks.Goals as goal

pub loop-preserved : goal.loop-preserved
loop-preserved g c = record {
  lists = grind (arith, common_steps);
  fresh = subst (AllByRecursion (λ own. AllByRecursion IsFresh (map g.S.Sink.state own.items))) (sym c.in_ok-push.ensures.items) (all_more _ _ c.new.result c.loop.invariant.fresh (rw c.new.ensures.items tt));
  none = none_more (λ own. map g.S.Sink.state own.items) c.loop.sinks.items c.push.new.self.items c.new.result c.args.groups.now c.loop.counter c.in_ok-push.ensures.items (ap (map g.S.Sink.state) c.new.ensures.items) c.loop.invariant.none c.loop-test.true;
}
