use Rattle.rl_patterns.proofs.Readings.{is_pattern_of, is_refusal}
use Rattle.rl_patterns.proofs.pattern.PatternCode.build.Goals as goal

pub returns-in-Ok-clause-read : goal.returns-in-Ok-clause-read
returns-in-Ok-clause-read c = let made = c.in-Ok.ensures in rw made.source at (is_pattern_of c.in-Ok.regex (made.config, made.read))

pub returns-in-Err-clause-refused : goal.returns-in-Err-clause-refused
returns-in-Err-clause-refused c =
    let given = c.in-Err.ensures in
    rw c.refusal_of.ensures (is_refusal c.args.pattern.now c.in-Err.error given.by_grammar given.kind given.no_internal)
