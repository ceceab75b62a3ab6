-- A digit less with each call.
use Rattle.rl_labels.proofs.decimal.+push_digits.Given as goal

abbrev pub decreases-push_digits : goal.decreases-push_digits
decreases-push_digits l = l.count
