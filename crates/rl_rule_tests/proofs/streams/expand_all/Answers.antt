-- A stream more.
use Rattle.std.proofs.Common.{◌≡◌, ◌++◌, [], ◌∷◌, append_assoc, ap, sym, subst, ◌∙◌}
use Rattle.std.specs.List.{AllZip}
use Rattle.rl_rule_tests.specs.Document.{IsExpansion}
use Rattle.rl_rule_tests.proofs.Expansions.{zip_more}
use Rattle.rl_rule_tests.proofs.streams.expand_all.Goals as goal

pub loop-stream-preserved : goal.loop-stream-preserved
loop-stream-preserved c =
    let loop = c.loop-stream in
    let next : loop.stream-iterator.rest.items ≡ c.in-Some.stream ∷ c.next.new.self.rest.items = c.in-Some.ensures.steps.0 in
    record {
      split = append_assoc loop.yielded (c.in-Some.stream ∷ []) c.next.new.self.rest.items ∙ ap (λ rest. loop.yielded ++ rest) (sym next) ∙ loop.invariant.split;
      expanded = subst (AllZip IsExpansion (loop.yielded ++ c.in-Some.stream ∷ [])) (sym c.in_ok-push.ensures.items) (zip_more IsExpansion _ _ _ _ loop.invariant.expanded c.in_ok-expand.ensures);
    }
