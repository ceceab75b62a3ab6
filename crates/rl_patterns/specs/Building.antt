-- How built code stands to the text of its pattern.
use Rattle.std.specs.Prelude.{◌≡◌}
use Rattle.regex.specs.Patterns.{default_config}
use Rattle.regex.specs.Strings.{regex_config, regex_pattern, matcher_pattern, IsReadFromSource}
use Rattle.regex.specs.declared.string.regex.Regex.{Regex}
use Rattle.regex.specs.declared.string.matcher.Matcher.{Matcher}
use Rattle.regex.specs.declared.error.Error.{Error}
use Rattle.regex.specs.declared.error.Error.TheVariants.{Syntax, CompiledTooBig, Internal, OutOfMemory}
use Rattle.rl_plain.specs.declared.refusal.OrMemory.{OrMemory}
use Rattle.rl_plain.specs.declared.refusal.OrMemory.TheVariants.{Fault, Memory}
use Rattle.rl_patterns.specs.declared.pattern.PatternFault.{PatternFault}
use Rattle.rl_patterns.specs.declared.pattern.PatternFault.TheVariants.{BadRegex, TooBig}

-- the code is what its text is read as, under the default options
abbrev pub IsBuilt : Regex → Type 0
IsBuilt regex = (regex_config regex ≡ default_config) × IsReadFromSource regex

-- the matcher searches for the pattern of the code
abbrev pub SearchesFor : Regex → Matcher → Type 0
SearchesFor regex matcher = matcher_pattern matcher ≡ regex_pattern regex

-- why a text is refused, by the error that the build gave
abbrev pub refusal_of : Error → OrMemory PatternFault
refusal_of (Syntax e) = Fault BadRegex
refusal_of CompiledTooBig = Fault TooBig
refusal_of Internal = Fault TooBig
refusal_of OutOfMemory = Memory
