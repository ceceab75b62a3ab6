-- The first byte is ASCII.
use Rattle.std.proofs.Common.{arith}
use Rattle.rl_plain.specs.laws.Cuts.{rest_ascii}
use Rattle.rl_plain.proofs.run.after_first.Goals as goal

pub split_at-requires : goal.split_at-requires
split_at-requires c = rest_ascii c.args.text.now 1 c.utf8.text (omega arith) (λ _. c.requires.ascii)
