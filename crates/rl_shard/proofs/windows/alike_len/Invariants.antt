-- The terms so far have the selector of the first.
use Rattle.std.proofs.Common.{◌≡◌, ◌≤◌, ◌-◌, Bor, length, take}
use Rattle.std.specs.List.{AllByRecursion}
use Rattle.rl_query.specs.declared.query.Term.{Term}
use Rattle.rl_shard.proofs.windows.alike_len.Given as goal

abbrev pub invariant-loop-len : goal.invariant-loop-len
invariant-loop-len l = record {
  some : 1 ≤ l.len;
  within : l.len ≤ length l.terms;
  alike : AllByRecursion (λ (term : Bor Term). term.now.range.selector.matchers ≡ l.selector.matchers) (take l.len l.terms);
}

abbrev pub decreases-loop-len : goal.decreases-loop-len
decreases-loop-len l = length l.terms - l.len
