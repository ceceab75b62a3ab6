use Rattle.std.proofs.Common.{◌≡◌, sym, ◌∙◌}
use Rattle.rl_patterns.specs.Matching.{matches_whole, wrapped}
use Rattle.rl_patterns.proofs.Emptiness.{empty_read}
use Rattle.rl_patterns.proofs.Readings.{is_pattern-refused, has_match-refused}
use Rattle.rl_patterns.proofs.empty.matches_empty.Goals as goal

pub returns-in-Ok : goal.returns-in-Ok
unfolding matches_whole
returns-in-Ok c =
    let text : c.as_str.result.now ≡ wrapped c.args.pattern.now = c.as_str.ensures.value ∙ c.in_ok-text.ensures in
    c.tree_matches_empty.ensures ∙ empty_read _ _ _ (rw (c.default.ensures, text) at c.in-Ok.ensures.ok)

pub returns : goal.returns
unfolding matches_whole
returns c =
    let text : c.as_str.result.now ≡ wrapped c.args.pattern.now = c.as_str.ensures.value ∙ c.in_ok-text.ensures in
    sym (has_match-refused _ _ (is_pattern-refused _ _ (rw (c.default.ensures, text) at c.in-Err.ensures.err) c.in_default.not-OutOfMemory))
