-- The laws at patterns that are written out.
use Rattle.std.specs.Prelude.{◌≡◌, true, false, option_map, codes}
use Rattle.std.proofs.Common.{refl}
use Rattle.regex.proofs.OnLiterals.{regex_on_literals}
use Rattle.rl_patterns.specs.Matching.{read_as, is_pattern, is_whole_pattern, wrapped, anchored}

-- a wrapped pattern is read as what it wraps
choice_wraps : read_as (wrapped (codes "a|b")) ≡ option_map anchored (read_as (codes "a|b"))
unfolding regex_on_literals read_as
choice_wraps = refl

flagged_wraps : read_as (wrapped (codes "(?i)prod-\\d+")) ≡ option_map anchored (read_as (codes "(?i)prod-\\d+"))
unfolding regex_on_literals read_as
flagged_wraps = refl

-- it does not come to be a pattern by that
crossed : is_whole_pattern (codes ")(") ≡ false
unfolding regex_on_literals read_as is_pattern is_whole_pattern
crossed = refl

crossed_wrapped : is_pattern (wrapped (codes ")(")) ≡ true
unfolding regex_on_literals read_as is_pattern
crossed_wrapped = refl

-- and a comment without an end swallows the closing parenthesis
commented : is_pattern (codes "(?x)a # b") ≡ true
unfolding regex_on_literals read_as is_pattern
commented = refl

commented_wrapped : is_pattern (wrapped (codes "(?x)a # b")) ≡ false
unfolding regex_on_literals read_as is_pattern
commented_wrapped = refl
