-- The answer is what the pattern means.
use Rattle.std.proofs.Common.{rules}
use Rattle.rl_patterns.proofs.Answered.{as_meant}
use Rattle.rl_patterns.proofs.pattern.WholePatternCode.matches.Goals as goal

pub returns-clause-whole : goal.returns-clause-whole
unfolding Rattle.rl_patterns.specs.Matching.matches_whole
returns-clause-whole c = as_meant c.has_match.result c.args.self.now c.args.value.now c.utf8.value (search rules)
