-- What clap reads of the words of the command line.
use Rattle.std.proofs.Common.{◌≡◌, ◌≢◌, true, List, [], Result, Ok, Err, refl, ap, sym, subst, inl, inr, ◌∙◌}
use Rattle.clap.specs.Words.{App, HasMatchesOf, Text, fault_of, found_of, is_simple, is_simple_and_free, kind_of, matches_of, rows_of, HasKind, IsAmong, Kinds}
use Rattle.clap.specs.declared.error.Error.{Error}
use Rattle.clap.specs.declared.error.kind.ErrorKind.{ErrorKind}
use Rattle.clap.specs.declared.error.kind.ErrorKind.TheVariants.{OutOfMemory}
use Rattle.clap.specs.declared.parser.matches.ArgMatches.{ArgMatches}
use Rattle.rule_shell.specs.declared.Stop.{Stop}
use Rattle.rule_shell.specs.declared.Stop.TheVariants.{BadOptions, BadFolder, BadInput, Failed}
use Rattle.rule_shell.specs.declared.options.Options.{Options}
use Rattle.rule_shell.specs.Options.{command_line, AreOptions, AreOptionsIn}

line_simple : is_simple command_line ≡ true
line_simple = refl

line_free : is_simple_and_free command_line ≡ true
line_free = refl

-- what is read of rows is read of the words that have them
of_rows : (words : List Text) (result : Result Options Stop) → fault_of command_line words ≡ [] → AreOptions (matches_of command_line words) result → AreOptionsIn words result
of_rows words (Ok options) taken asked = (taken, asked)
of_rows words (Err BadOptions) taken asked = inr asked
of_rows words (Err Failed) taken asked = tt
of_rows words (Err (BadFolder fault)) taken asked = asked
of_rows words (Err (BadInput fault)) taken asked = asked

pub options_read : (app : App) (words : List Text) (matches : ArgMatches) (result : Result Options Stop) → app ≡ command_line → HasMatchesOf app words matches → (is_simple_and_free app ≡ true → fault_of app words ≡ []) → AreOptions (rows_of (found_of matches)) result → AreOptionsIn words result
options_read app words matches result is has taken asked =
    let rows : rows_of (found_of matches) ≡ matches_of command_line words = (has (ap is_simple is ∙ line_simple)).0 ∙ ap (λ app. matches_of app words) is in
    let none : fault_of command_line words ≡ [] = sym (ap (λ app. fault_of app words) is) ∙ taken (ap is_simple_and_free is ∙ line_free) in
    of_rows words result none (subst (λ rows. AreOptions rows result) rows asked)

-- a kind among some is not among none
some_kinds : (kind : ErrorKind) (kinds : Kinds) → IsAmong kind kinds → kinds ≢ []
some_kinds kind kinds among none = subst (IsAmong kind) none among

refused_by : (words : List Text) (kind : ErrorKind) (stop : Stop) → fault_of command_line words ≢ [] → (kind ≡ OutOfMemory → stop ≡ Failed) → (kind ≢ OutOfMemory → stop ≡ BadOptions) → AreOptionsIn words (Err stop)
refused_by words kind BadOptions some memory other = inl some
refused_by words kind Failed some memory other = tt
refused_by words kind (BadFolder fault) some memory other = let is : BadFolder fault ≡ BadOptions = other (λ same. let failed : BadFolder fault ≡ Failed = memory same in cc) in cc
refused_by words kind (BadInput fault) some memory other = let is : BadInput fault ≡ BadOptions = other (λ same. let failed : BadInput fault ≡ Failed = memory same in cc) in cc

pub words_refused : (app : App) (words : List Text) (error : Error) (stop : Stop) → app ≡ command_line → (is_simple_and_free app ≡ true → HasKind (fault_of app words) error) → (kind_of error ≡ OutOfMemory → stop ≡ Failed) → (kind_of error ≢ OutOfMemory → stop ≡ BadOptions) → AreOptionsIn words (Err stop)
words_refused app words error stop is kinds memory other =
    let has : HasKind (fault_of command_line words) error = subst (λ app. HasKind (fault_of app words) error) is (kinds (ap is_simple_and_free is ∙ line_free)) in
    elim has [
      | inl same ↦ subst (λ stop. AreOptionsIn words (Err stop)) (sym (memory same)) tt
      | inr among ↦ refused_by words (kind_of error) stop (some_kinds (kind_of error) (fault_of command_line words) among) memory other
    ]
