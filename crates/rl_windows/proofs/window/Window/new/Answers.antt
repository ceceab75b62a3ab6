-- No lines add up to nothing.
use Rattle.std.proofs.Common.{true, sym, ap, subst, ◌∙◌, arith}
use Rattle.std.specs.FinMap.{empty, entries}
use Rattle.rl_windows.specs.Buckets.{volume_of}
use Rattle.rl_windows.specs.Windows.{count_of, IsSumOf}
use Rattle.rl_windows.proofs.Moving.{no_entries, sum_of_none}
use Rattle.rl_windows.proofs.window.Window.new.Goals as goal

pub invariant_of-result : goal.invariant_of-result
invariant_of-result c = record {
  range = c.requires.range;
  sum = subst (λ b. IsSumOf c.args.moment b c.new-2.result) (sym c.new.ensures) (subst (λ f. IsSumOf c.args.moment empty f) (sym c.new-2.ensures) (sum_of_none c.args.moment));
  counted = sym (ap (λ b. count_of b) c.new.ensures ∙ ap (λ es. (volume_of (λ _. true) es).count) no_entries);
  room = omega arith;
  few = c.requires.few;
}

pub returns-clause-stands : goal.returns-clause-stands
returns-clause-stands c = (tt, λ test. ap (λ b. volume_of test (entries b)) c.new.ensures ∙ ap (λ es. volume_of test es) no_entries)
