-- What the text of a pattern means: where it is a pattern, whether it matches in a text, and whether it matches a whole value.
use Rattle.std.specs.Prelude.{◌≡◌, ℕ, nat_le, Bool, true, false, ◌&&◌, List, [], ◌++◌, Option, Some, None, is_some, option_and_then, if◌then◌else◌, codes, chars}
use Rattle.regex.specs.Patterns.{Re, Start, End, empty, byte_in, look, cat, alt, find_str, default_config}
use Rattle.regex_syntax.specs.Brackets.{Nested}
use Rattle.regex_syntax.specs.Grammar.{Names, read}
use Rattle.rl_plain.specs.declared.refusal.OrMemory.{OrMemory}
use Rattle.rl_plain.specs.declared.refusal.OrMemory.TheVariants.{Fault, Memory}
use Rattle.rl_patterns.specs.declared.pattern.PatternFault.{PatternFault}
use Rattle.rl_patterns.specs.declared.pattern.PatternFault.TheVariants.{BadRegex, TooBig}

-- what is read nests no deeper than it may
abbrev pub within_limit : Nested Re × Names → Option Re
within_limit (found, _) = if nat_le found.depth default_config.nest_limit then Some found.value else None

-- what the text is read as, if it is a pattern
unfoldable pub read_as : List ℕ → Option Re
read_as pattern = option_and_then within_limit (read default_config (chars pattern))

unfoldable pub is_pattern : List ℕ → Bool
is_pattern pattern = is_some (read_as pattern)

-- the pattern matches somewhere in the text
unfoldable pub has_match : List ℕ → List ℕ → Bool
has_match pattern text = is_some (option_and_then (λ re. find_str re text 0) (read_as pattern))

-- the pattern that matches whole texts alone
abbrev pub wrapped : List ℕ → List ℕ
wrapped pattern = codes "^(?:" ++ pattern ++ codes ")$"

-- the pattern matches the value from its start to its end
unfoldable pub matches_whole : List ℕ → List ℕ → Bool
matches_whole pattern value = has_match (wrapped pattern) value

-- what `^(?:pattern)$` is read as, where the pattern is read as re
abbrev pub anchored : Re → Re
anchored re = alt (cat (look Start) (cat re (cat (look End) empty))) (byte_in [])

-- the wrapped pattern is read as what it wraps, between the ends of the text
abbrev pub WrapsAs : List ℕ → Re → Type 0
WrapsAs pattern re = read_as (wrapped pattern) ≡ Some (anchored re)

-- the text is a pattern alone and wrapped: `)(` is one only where it is wrapped, and `(?x)a # b` only alone
unfoldable pub is_whole_pattern : List ℕ → Bool
is_whole_pattern pattern = is_pattern pattern && is_pattern (wrapped pattern)

-- Why a text is refused: it is no pattern, or it is one and its program is too big. Of memory nothing is said.
abbrev pub IsRefusalOf : (is_one : Bool) → OrMemory PatternFault → Type 0
IsRefusalOf is_one Memory = Unit {0}
IsRefusalOf is_one (Fault BadRegex) = is_one ≡ false
IsRefusalOf is_one (Fault TooBig) = is_one ≡ true
