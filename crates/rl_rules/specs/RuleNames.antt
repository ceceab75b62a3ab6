-- Names of groups, of recorded metrics and of alerts.
use Rattle.std.specs.Prelude.{ℕ, ◌==◌, nat_le, nat_lt, Bool, false, not, ◌&&◌, ◌||◌, List, [], ◌∷◌, length}
use Rattle.std.specs.List.{list_all}
use Rattle.std.specs.Char.{is_ascii_digit}
use Rattle.rl_labels.specs.Name.{is_name_start}

-- a letter, an underscore or a colon
abbrev pub is_metric_start : ℕ → Bool
is_metric_start byte = is_name_start byte || byte == 58

-- one of these, or a digit
abbrev pub is_metric_byte : ℕ → Bool
is_metric_byte byte = is_metric_start byte || is_ascii_digit byte

-- [a-zA-Z_:][a-zA-Z0-9_:]*
abbrev pub is_metric_name : List ℕ → Bool
is_metric_name [] = false
is_metric_name (byte ∷ bytes) = is_metric_start byte && list_all is_metric_byte bytes

-- the longest name of a group or of alerts, in bytes
abbrev pub longest_group_name : ℕ
longest_group_name = 256

-- a control character, below U+0020 or U+007F
abbrev pub is_control : ℕ → Bool
is_control byte = nat_lt byte 32 || byte == 127

abbrev pub is_group_name : List ℕ → Bool
is_group_name name = (nat_le 1 (length name) && nat_le (length name) longest_group_name) && list_all (λ byte. not (is_control byte)) name
