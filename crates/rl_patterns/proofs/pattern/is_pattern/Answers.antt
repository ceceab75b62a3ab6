use Rattle.std.proofs.Common.{sym}
use Rattle.rl_patterns.proofs.Readings.{is_pattern-read, is_pattern-refused}
use Rattle.rl_patterns.proofs.pattern.is_pattern.Goals.{in-Ok, in-Err+in-OutOfMemory, in-Err+in_default}
use Rattle.rl_patterns.proofs.pattern.is_pattern.Goals as goal

pub returns : goal.returns
returns c = elim c.match-parse.branch [
  | in-Ok w ↦ rw w.result-is (sym (is_pattern-read _ _ _ (rw c.default.ensures at w.in-Ok.ensures.ok)))
  | in-Err+in-OutOfMemory w ↦ rw w.result-is tt
  | in-Err+in_default w ↦ rw w.result-is (sym (is_pattern-refused _ _ (rw c.default.ensures at w.in-Err.ensures.err) w.in_default.not-OutOfMemory))
]
