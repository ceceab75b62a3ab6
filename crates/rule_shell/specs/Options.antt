-- What the options ask for: limits, shards, stores and sinks.
use Rattle.std.specs.Prelude.{◌≡◌, ◌≢◌, ◌⊎◌, ℕ, ◌≤◌, nat_le, ⊤, Bool, true, false, ◌&&◌, List, [], ◌∷◌, map, fold, Option, None, Some, is_some, Result, Ok, Err, codes, if◌then◌else◌}
use Rattle.clap.specs.Words.{App, Row, Rule, Text, first_of, matches_of, new_app, new_rule, one_of, with_rule, fault_of}
use Rattle.clap.specs.declared.builder.action.ArgAction.TheVariants.{SetTrue}
use Rattle.rl_plain.specs.Answers.{◌>>=◌}
use Rattle.rl_labels.specs.Decimals.{number_of}
use Rattle.rl_labels.specs.Name.{is_text}
use Rattle.rl_labels.specs.LimitRanges.{first_out_of_range, raw_limits}
use Rattle.rl_labels.specs.declared.limits.LimitField.{LimitField}
use Rattle.rl_labels.specs.declared.limits.Limits.{Limits}
use Rattle.rl_labels.specs.declared.limits.RawLimits.{RawLimits}
use Rattle.rl_world.specs.ShardAnswers.{most_shards}
use Rattle.rule_shell.specs.declared.Stop.{Stop}
use Rattle.rule_shell.specs.declared.Stop.TheVariants.{BadOptions, BadFolder, BadInput, Failed}
use Rattle.rule_shell.specs.declared.options.Options.{Options}
use Rattle.rule_shell.specs.declared.options.Plan.{Plan}
use Rattle.rule_shell.specs.declared.options.SinkOptions.{SinkOptions}

-- the number of a text, which has to be one
abbrev pub required_number : Option ℕ → Result ℕ Stop
required_number None = Err BadOptions
required_number (Some number) = Ok number

-- the number that an option's text has, or the other where the option is not used
abbrev pub number_or : Option (List ℕ) → ℕ → Result ℕ Stop
number_or None other = Ok other
number_or (Some text) other = required_number (number_of 19 text)

-- the limits that hold where no others are asked for, but for these five
abbrev pub limits_with : (entries chunk_entries chunk_age cancel keep : ℕ) → RawLimits
limits_with entries chunk_entries chunk_age cancel keep = record { entries = entries; chunk_entries = chunk_entries; chunk_age = chunk_age; cancel = cancel; keep = keep; cache = 0; records = 1048576; first_blob = 0 }

-- the limits that the texts of five options ask for
abbrev pub limits_asked : (entries chunk_entries chunk_age cancel keep : Option (List ℕ)) → Result RawLimits Stop
limits_asked entries chunk_entries chunk_age cancel keep =
    number_or entries 67108864 >>= (λ most. number_or chunk_entries 1024 >>= (λ seals. number_or chunk_age 7200 >>= (λ age.
    number_or cancel 86400 >>= (λ time. number_or keep 0 >>= (λ kept. Ok (limits_with most seals age time kept))))))

-- a number from 1 to the most
abbrev pub in_range : ℕ → ℕ → Result ℕ Stop
in_range most number = if nat_le 1 number && nat_le number most then Ok number else Err BadOptions

-- the number that the text of an option asks for, or the other where the option is not used
abbrev pub number_asked : Option (List ℕ) → ℕ → ℕ → Result ℕ Stop
number_asked text other most = number_or text other >>= in_range most

-- whether the text of an option asks for sinks of all kinds, or for a recorder alone
abbrev pub kinds_asked : Option (List ℕ) → Result Bool Stop
kinds_asked None = Ok false
kinds_asked (Some text) = if is_text text (codes "recorder") then Ok false else (if is_text text (codes "all") then Ok true else Err BadOptions)

-- limits are taken exactly where each is in its range
abbrev pub IsChecked : RawLimits → Result Limits Stop → Type 0
IsChecked raw (Ok limits) = (first_out_of_range raw ≡ None) × (raw_limits limits ≡ raw)
IsChecked raw (Err stop) = (stop ≡ BadOptions) × (field : LimitField) × (first_out_of_range raw ≡ Some field)

abbrev pub AreChecked : Result RawLimits Stop → Result Limits Stop → Type 0
AreChecked (Ok raw) result = IsChecked raw result
AreChecked (Err stop) result = result ≡ Err stop

-- WHAT THE WORDS SAY

-- an option that has a value: `--name VALUE` or `--name=VALUE`
abbrev pub option_rule : Text → Rule
option_rule name = record (new_rule name) { long = Some name }

-- a flag: `--name`
abbrev pub flag_rule : Text → Rule
flag_rule name = record (new_rule name) { long = Some name; action = Some SetTrue }

abbrev pub option_names : List Text
option_names = codes "shards" ∷ codes "callers" ∷ codes "entries" ∷ codes "chunk-entries" ∷ codes "chunk-age" ∷ codes "cancel" ∷ codes "keep" ∷ codes "store" ∷ codes "sinks" ∷ codes "cap" ∷ codes "tail" ∷ []

abbrev pub flag_names : List Text
flag_names = codes "pump" ∷ codes "summary" ∷ codes "new" ∷ []

-- a command with more options, and with more flags
abbrev pub with_options : App → List Text → App
with_options command names = fold with_rule command (map option_rule names)

abbrev pub with_flags : App → List Text → App
with_flags command names = fold with_rule command (map flag_rule names)

-- the command line of the program
abbrev pub command_line : App
command_line = with_flags (with_options (new_app (codes "rule_shell")) option_names) flag_names

-- whether a flag stands among the words, by the text that it has there
pub record IsFlag (text : Option Text) (stands : Bool) : Type 0 where
  pub nowhere : text ≡ None → stands ≡ false
  pub there : text ≡ Some (codes "true") → stands ≡ true
  pub left_out : text ≡ Some (codes "false") → stands ≡ false

-- the limits that the options ask for
abbrev pub limits_of : List Row → Result RawLimits Stop
limits_of rows = limits_asked (first_of (codes "entries") rows) (first_of (codes "chunk-entries") rows) (first_of (codes "chunk-age") rows) (first_of (codes "cancel") rows) (first_of (codes "keep") rows)

-- so many shards and callers there may be
abbrev pub AreWithin : (shards callers : ℕ) → Type 0
AreWithin shards callers = (1 ≤ shards) × (shards ≤ most_shards) × (1 ≤ callers) × (callers ≤ 64)

-- the sinks are those that the options ask for, or one of the options asks for none that there are
abbrev pub AreSinks : List Row → Result SinkOptions Stop → Type 0
AreSinks rows (Ok sinks) =
    (kinds_asked (first_of (codes "sinks") rows) ≡ Ok sinks.all)
    × (number_asked (first_of (codes "cap") rows) 1024 1048576 ≡ Ok sinks.cap)
    × (number_asked (first_of (codes "tail") rows) 8 65536 ≡ Ok sinks.tail)
AreSinks rows (Err stop) =
    (kinds_asked (first_of (codes "sinks") rows) ≡ Err stop)
    ⊎ ((number_asked (first_of (codes "cap") rows) 1024 1048576 ≡ Err stop)
    ⊎ (number_asked (first_of (codes "tail") rows) 8 65536 ≡ Err stop))

-- what is asked of a run besides its stores
abbrev pub IsPlan : List Row → Result Plan Stop → Type 0
IsPlan rows (Ok plan) =
    (number_asked (first_of (codes "callers") rows) 2 64 ≡ Ok plan.callers)
    × AreChecked (limits_of rows) (Ok plan.limits)
    × AreSinks rows (Ok plan.sinks)
    × IsFlag (one_of (codes "pump") rows) plan.pumps
    × IsFlag (one_of (codes "summary") rows) plan.summary
IsPlan rows (Err stop) =
    (number_asked (first_of (codes "callers") rows) 2 64 ≡ Err stop)
    ⊎ (AreChecked (limits_of rows) (Err stop)
    ⊎ AreSinks rows (Err stop))

-- the options are those that the words ask for, each by its own word
pub record IsAsked (rows : List Row) (options : Options) : Type 0 where
  pub shards : number_asked (first_of (codes "shards") rows) 1 16 ≡ Ok options.shards
  -- the folder is the text of `--store`, and no empty one
  pub store : options.store ≡ first_of (codes "store") rows
  pub named : options.store ≢ Some []
  -- `--new` stands only beside `--store`
  pub is_new : IsFlag (one_of (codes "new") rows) options.is_new
  pub new_of_store : options.is_new ≡ true → is_some options.store ≡ true
  pub plan : IsPlan rows (Ok options.plan)

-- one of the options is not as it should be
abbrev pub IsWrong : List Row → Type 0
IsWrong rows =
    (number_asked (first_of (codes "shards") rows) 1 16 ≡ Err BadOptions)
    ⊎ (IsPlan rows (Err BadOptions)
    ⊎ ((first_of (codes "store") rows ≡ Some [])
    ⊎ ((first_of (codes "store") rows ≡ None) × IsFlag (one_of (codes "new") rows) true)))

-- the options are what the words ask for, or they are bad, exactly where one of them is; without memory nothing is said
abbrev pub AreOptions : List Row → Result Options Stop → Type 0
AreOptions rows (Ok options) = IsAsked rows options
AreOptions rows (Err BadOptions) = IsWrong rows
AreOptions rows (Err Failed) = ⊤
AreOptions rows (Err (BadFolder fault)) = ⊥
AreOptions rows (Err (BadInput fault)) = ⊥

-- the same of the words themselves, of which the first is the program's name: clap takes them for what the options and flags are,
-- and has nothing against them
abbrev pub AreOptionsIn : List Text → Result Options Stop → Type 0
AreOptionsIn words (Ok options) = (fault_of command_line words ≡ []) × IsAsked (matches_of command_line words) options
AreOptionsIn words (Err BadOptions) = (fault_of command_line words ≢ []) ⊎ IsWrong (matches_of command_line words)
AreOptionsIn words (Err Failed) = ⊤
AreOptionsIn words (Err (BadFolder fault)) = ⊥
AreOptionsIn words (Err (BadInput fault)) = ⊥
