-- From what `regex` ensures to the words of `specs/Matching.antt`.
use Rattle.std.specs.Prelude.{◌≡◌, ℕ, ◌<◌, ◌≤◌, nat_le, true, false, List, length, get_or, Option, Some, None, IsSomeAnd, IfSome, is_some, option_and_then, ◌⊎◌, chars}
use Rattle.std.proofs.Common.{refl, sym, ap, ◌∙◌, inl, inr}
use Rattle.std.proofs.lemmas.Bool.{le-leb, lt-leb, cond-true, cond-false}
use Rattle.std.proofs.lemmas.Option.{none-some}
use Rattle.regex.specs.Patterns.{Re, SameCaptures, Reads, Refuses, find_str, default_config}
use Rattle.regex.specs.Strings.{regex_source, regex_pattern}
use Rattle.regex.specs.declared.string.regex.Regex.{Regex}
use Rattle.regex.proofs.ForCallers.{is_match_alike}
use Rattle.regex_hir.specs.Meaning.{meaning}
use Rattle.regex_hir.specs.declared.hir.Hir.{Hir}
use Rattle.regex_syntax.specs.Brackets.{Nested}
use Rattle.regex_syntax.specs.Grammar.{Names, group_count, read}
use Rattle.regex_syntax.specs.declared.error.ErrorKind.{ErrorKind}
use Rattle.regex_syntax.specs.declared.error.ErrorKind.TheVariants.{OutOfMemory}
use Rattle.regex.specs.declared.error.Error.{Error}
use Rattle.regex.specs.declared.error.Error.TheVariants.{Syntax, CompiledTooBig, Internal}
use Rattle.regex.specs.declared.error.Error.TheVariants as failed
use Rattle.regex.specs.Failures.{IsRightKind}
use Rattle.regex.specs.Sources.{IsRefusal}
use Rattle.rl_patterns.specs.Building.{IsBuilt, refusal_of}
use Rattle.rl_patterns.specs.Matching.{read_as, within_limit, is_pattern, has_match, IsRefusalOf}

-- what `within_limit` leaves
kept : (found : Nested Re) (names : Names) → found.depth ≤ default_config.nest_limit → within_limit (found, names) ≡ Some found.value
kept found names le = cond-true (nat_le found.depth default_config.nest_limit) (Some found.value) None (le-leb _ _ le)

dropped : (found : Nested Re) (names : Names) → default_config.nest_limit < found.depth → within_limit (found, names) ≡ None
dropped found names lt = cond-false (nat_le found.depth default_config.nest_limit) (Some found.value) None (lt-leb _ _ lt)

-- what is read is within the limit, matches as a tree does, and has its names
abbrev ReadWith : Re → Names → Nested Re × Names → Type 0
ReadWith a names = λ (re, found). (re.depth ≤ default_config.nest_limit) × SameCaptures a re.value
    × (names ≡ found) × (group_count a ≤ length names)

-- a tree finds a match exactly where the pattern does that it is of
found_alike : (o : Option (Nested Re × Names)) (a : Re) (names : Names) (text : List ℕ) → ((k : ℕ) → get_or text k 0 < 256) →
    IsSomeAnd o (ReadWith a names) →
    is_some (find_str a text 0) ≡ is_some (option_and_then (λ re. find_str re text 0) (option_and_then within_limit o))
found_alike None a names text bytes h = absurd h
found_alike (Some (found, others)) a names text bytes h =
    is_match_alike h.1 text bytes true 0
    ∙ sym (ap (λ o. is_some (option_and_then (λ re. find_str re text 0) o)) (kept found others h.0))

-- a tree that was read finds a match in a text exactly where its pattern has one there
pub has_match-read : (source : List ℕ) (hir : Hir) (names : Names) (text : List ℕ) → Reads default_config source hir names →
    ((k : ℕ) → get_or text k 0 < 256) → is_some (find_str (meaning hir) text 0) ≡ has_match source text
unfolding Reads has_match read_as
has_match-read source hir names text h bytes = found_alike (read default_config (chars source)) (meaning hir) names text bytes h

-- what is no pattern has none anywhere
pub has_match-refused : (source text : List ℕ) → is_pattern source ≡ false → has_match source text ≡ false
unfolding is_pattern has_match
has_match-refused source text h = none_in (read_as source) h
  where
    none_in : (o : Option Re) → is_some o ≡ false → is_some (option_and_then (λ re. find_str re text 0) o) ≡ false
    none_in None h = refl
    none_in (Some re) h = absurd cc

-- a built regex finds a match in a text exactly where its text has one there
pub has_match_of : (r : Regex) (text : List ℕ) → IsBuilt r → ((k : ℕ) → get_or text k 0 < 256) →
    is_some (find_str (regex_pattern r) text 0) ≡ has_match (regex_source r) text
has_match_of r text (is_default, is_read) bytes = has_match-read (regex_source r) _ _ text (rw is_default at is_read) bytes

some_read : (o : Option (Nested Re × Names)) (a : Re) (names : Names) →
    IsSomeAnd o (ReadWith a names) →
    is_some (option_and_then within_limit o) ≡ true
some_read None a names h = absurd h
some_read (Some (found, others)) a names h = ap is_some (kept found others h.0)

-- what is read is a pattern
pub is_pattern-read : (text : List ℕ) (hir : Hir) (names : Names) → Reads default_config text hir names → is_pattern text ≡ true
unfolding Reads is_pattern read_as
is_pattern-read text hir names h = some_read (read default_config (chars text)) (meaning hir) names h

none_read : (o : Option (Nested Re × Names)) (P : Type 0) →
    (o ≡ None) ⊎ (P × IfSome o (λ (re, _). default_config.nest_limit < re.depth)) → is_some (option_and_then within_limit o) ≡ false
none_read None P h = refl
none_read (Some found) P (inl e) = absurd (none-some found (sym e))
none_read (Some (found, others)) P (inr h) = ap is_some (dropped found others h.1)

-- and what the grammar refuses is none, but for memory
pub is_pattern-refused : (text : List ℕ) (kind : ErrorKind) → Refuses default_config text kind → (kind ≡ OutOfMemory → ⊥) →
    is_pattern text ≡ false
unfolding Refuses is_pattern read_as
is_pattern-refused text kind (inl e) other = absurd (other e)
is_pattern-refused text kind (inr h) other = none_read (read default_config (chars text)) _ h

-- a built regex is of a pattern
pub is_pattern_of : (r : Regex) → IsBuilt r → is_pattern (regex_source r) ≡ true
is_pattern_of r (is_default, is_read) = is_pattern-read (regex_source r) _ _ (rw is_default at is_read)

-- an error of `Regex::new` says whether the text is a pattern
pub is_refusal : (text : List ℕ) (error : Error) → IsRefusal default_config text error → IsRightKind default_config text error →
    (error ≡ Internal → ⊥) → IsRefusalOf (is_pattern text) (refusal_of error)
is_refusal text (Syntax e) refused kind known = is_pattern-refused text e.kind (refused e refl) kind
is_refusal text CompiledTooBig refused (hir, names, read) known = is_pattern-read text hir names read
is_refusal text Internal refused kind known = absurd (known refl)
is_refusal text failed.OutOfMemory refused kind known = tt
