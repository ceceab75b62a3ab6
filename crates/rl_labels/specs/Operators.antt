-- The operators of matchers, as in LogQL: `=`, `!=`, `=~`, `!~`.
use Rattle.std.specs.Prelude.{◌≡◌, Bool, true, false, not, ◌||◌, List, ℕ}
use Rattle.rl_plain.specs.declared.refusal.OrMemory.{OrMemory}
use Rattle.rl_plain.specs.declared.refusal.OrMemory.TheVariants.{Fault, Memory}
use Rattle.rl_patterns.specs.Matching.{matches_whole, is_whole_pattern}
use Rattle.rl_patterns.specs.declared.pattern.PatternFault.{PatternFault}
use Rattle.rl_labels.specs.Name.{is_name, is_text}
use Rattle.rl_labels.specs.declared.matcher.MatchOp.{MatchOp}
use Rattle.rl_labels.specs.declared.matcher.MatchOp.TheVariants.{Equal, NotEqual, Matches, NotMatches}
use Rattle.rl_labels.specs.declared.matcher.MatcherFault.{MatcherFault}
use Rattle.rl_labels.specs.declared.matcher.MatcherFault.TheVariants.{BadName, BadRegex}

-- whether a value passes, compared with a text or with a pattern
abbrev pub passes : MatchOp → (wanted value : List ℕ) → Bool
passes Equal wanted value = is_text wanted value
passes NotEqual wanted value = not (is_text wanted value)
passes Matches wanted value = matches_whole wanted value
passes NotMatches wanted value = not (matches_whole wanted value)

-- what is wanted is a pattern
abbrev pub is_by_pattern : MatchOp → Bool
is_by_pattern Equal = false
is_by_pattern NotEqual = false
is_by_pattern Matches = true
is_by_pattern NotMatches = true

-- any text can be compared with, but a pattern has to be one
abbrev pub is_comparable : MatchOp → List ℕ → Bool
is_comparable op value = not (is_by_pattern op) || is_whole_pattern value

-- why a matcher is refused, by why its pattern is
abbrev pub refusal_of : OrMemory PatternFault → OrMemory MatcherFault
refusal_of (Fault _) = Fault BadRegex
refusal_of Memory = Memory

-- Why a matcher is refused: for its name first. Only with a pattern is it for another cause.
abbrev pub IsRefusedMatcher : (name : List ℕ) → MatchOp → OrMemory MatcherFault → Type 0
IsRefusedMatcher name op (Fault BadName) = is_name name ≡ false
IsRefusedMatcher name op (Fault BadRegex) = (is_name name ≡ true) × (is_by_pattern op ≡ true)
IsRefusedMatcher name op Memory = (is_name name ≡ true) × (is_by_pattern op ≡ true)

-- Why a matcher is refused that is read and not built: for its name first, then where its pattern is none.
abbrev pub IsUnread : (name : List ℕ) → MatchOp → (value : List ℕ) → OrMemory MatcherFault → Type 0
IsUnread name op value (Fault BadName) = is_name name ≡ false
IsUnread name op value (Fault BadRegex) = (is_name name ≡ true) × (is_comparable op value ≡ false)
IsUnread name op value Memory = (is_name name ≡ true) × (is_by_pattern op ≡ true)

-- why the code of a matcher is not built: for memory, and where a pattern is in it for that
abbrev pub IsUnbuilt : (by_pattern : Bool) → OrMemory MatcherFault → Type 0
IsUnbuilt by_pattern (Fault BadName) = ⊥
IsUnbuilt by_pattern (Fault BadRegex) = by_pattern ≡ true
IsUnbuilt by_pattern Memory = Unit {0}
