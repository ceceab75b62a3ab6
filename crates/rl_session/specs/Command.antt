-- Command lines: words one space apart, of which the last may be the rest of the line.
use Rattle.std.specs.Prelude.{ℕ, ◌==◌, ◌^◌, nat_lt, Bool, true, false, ◌&&◌, ◌||◌, List, length, Option, None, Some, option_and_then, option_map, codes, if◌then◌else◌}
use Rattle.std.specs.Char.{is_ascii_digit}
use Rattle.std.specs.List.{list_all, position_or_len, before_first, after_first}
use Rattle.std.specs.Str.Parse.{digits_value}
use Rattle.rl_deletes.specs.Deletes.{with_selector}
use Rattle.rl_deletes.specs.declared.deletion.Deletion.{Deletion}
use Rattle.rl_labels.specs.Decimals.{number_of, billionths, decimal_of}
use Rattle.rl_labels.specs.Name.{is_text}
use Rattle.rl_labels.specs.Quantity.{moment_at}
use Rattle.rl_session.specs.declared.command.Command.{Command}
use Rattle.rl_session.specs.declared.command.Command.TheVariants as commands

-- a command, with its texts as bytes and its moment as a number
pub data Asked : Type 0 where
  pushes : (json : List ℕ) → Asked
  cuts : Asked
  flushes : Asked
  deletes : Deletion (List ℕ) → Asked
  cancels : (id : ℕ) → Asked
  processes : (id now : ℕ) → Asked
  retains : (now : ℕ) → Asked
  edits : (document : List ℕ) → Asked
  evaluates : (t : ℕ) (group : List ℕ) → Asked
  ticks : (now : ℕ) → Asked
  pumps : (group : List ℕ) → Asked
  shows : (sink : ℕ) (group : List ℕ) → Asked
  blocks : Asked
  ends : Asked

abbrev pub asked : Command → Asked
asked (commands.Push json) = pushes json.now
asked commands.Cut = cuts
asked commands.Flush = flushes
asked (commands.Delete deletion) = deletes (with_selector deletion.selector.now deletion)
asked (commands.Cancel id) = cancels id
asked (commands.Process id now) = processes id now
asked (commands.Retain now) = retains now
asked (commands.Edit document) = edits document.now
asked (commands.Eval t group) = evaluates t group.now
asked (commands.Tick now) = ticks now
asked (commands.Pump group) = pumps group.now
asked (commands.Show sink group) = shows sink group.now
asked commands.Par = blocks
asked commands.End = ends

-- the parts before and after the first such byte
abbrev pub cut_at : ℕ → List ℕ → Option (List ℕ × List ℕ)
cut_at byte text = if nat_lt (position_or_len (λ b. b == byte) text) (length text) then Some (before_first (λ b. b == byte) text, after_first (λ b. b == byte) text) else None

-- the moment of a time word: 1 to 10 digits of seconds, and perhaps a point and 1 to 9 digits
abbrev pub time_of : List ℕ → Option ℕ
time_of word = option_and_then (λ seconds. moment_at (billionths seconds)) (decimal_of 10 word)

-- at least one digit, and nothing else
abbrev pub is_number : List ℕ → Bool
is_number word = nat_lt 0 (length word) && list_all is_ascii_digit word

-- the number of a word of digits, if it is one of 64 bits
abbrev pub id_of : List ℕ → Option ℕ
id_of word = if is_number word && nat_lt (digits_value 10 word) (2 ^ 64) then Some (digits_value 10 word) else None

-- the command of a request's number, its start, its end, the moment at which it is made, and a selector that may have spaces
abbrev pub delete_of_words : (id start end created selector : List ℕ) → Option Asked
delete_of_words id start end created selector =
    option_and_then (λ id. option_and_then (λ start. option_and_then (λ end. option_map (λ created. deletes (record { id = id; selector = selector; start = start; end = end; created = created })) (time_of created)) (time_of end)) (time_of start)) (id_of id)

abbrev pub delete_of : List ℕ → Option Asked
delete_of words =
    option_and_then (λ a. option_and_then (λ b. option_and_then (λ c. option_and_then (λ d. delete_of_words a.0 b.0 c.0 d.0 d.1) (cut_at 32 c.1)) (cut_at 32 b.1)) (cut_at 32 a.1)) (cut_at 32 words)

-- the command of a request's number and a time word
abbrev pub process_of : List ℕ × List ℕ → Option Asked
process_of words = option_and_then (λ id. option_map (λ now. processes id now) (time_of words.1)) (id_of words.0)

-- the command of a request or of retention
abbrev pub request_of_words : List ℕ × List ℕ → Option Asked
request_of_words words =
    if is_text words.0 (codes "delete") then delete_of words.1
    else (if is_text words.0 (codes "cancel") then option_map cancels (id_of words.1)
    else (if is_text words.0 (codes "process") then option_and_then process_of (cut_at 32 words.1)
    else (if is_text words.0 (codes "retain") then option_map retains (time_of words.1)
    else None)))

-- the command of a time word and a group's name
abbrev pub eval_of : List ℕ × List ℕ → Option Asked
eval_of words = option_map (λ t. evaluates t words.1) (time_of words.0)

-- the command of a sink's number and a group's name
abbrev pub show_of : List ℕ × List ℕ → Option Asked
show_of words = option_map (λ sink. shows sink words.1) (number_of 19 words.0)

-- the command of its first word and the rest of the line
abbrev pub command_of_words : List ℕ × List ℕ → Option Asked
command_of_words words =
    if is_text words.0 (codes "push") then Some (pushes words.1)
    else (if is_text words.0 (codes "edit") then Some (edits words.1)
    else (if is_text words.0 (codes "eval") then option_and_then eval_of (cut_at 32 words.1)
    else (if is_text words.0 (codes "tick") then option_map ticks (time_of words.1)
    else (if is_text words.0 (codes "pump") then Some (pumps words.1)
    else (if is_text words.0 (codes "show") then option_and_then show_of (cut_at 32 words.1)
    else request_of_words words)))))

-- the command of a line, if it is one
abbrev pub command_of : List ℕ → Option Asked
command_of line =
    if is_text line (codes "end") then Some ends
    else (if is_text line (codes "cut") then Some cuts
    else (if is_text line (codes "flush") then Some flushes
    else (if is_text line (codes "par") then Some blocks
    else option_and_then command_of_words (cut_at 32 line))))

-- whether a line of a block may have the command: it takes lines, or asks every shard or all rules of a group
abbrev pub is_for_block : Asked → Bool
is_for_block (edits document) = false
is_for_block (ticks now) = false
is_for_block (pumps group) = false
is_for_block (shows sink group) = false
is_for_block blocks = false
is_for_block ends = false
is_for_block asked = true

-- the command of a line of a block, if it may have it
abbrev pub command_in_block : List ℕ → Option Asked
command_in_block line = option_and_then (λ asked. if is_for_block asked then Some asked else None) (command_of line)

-- a space, a tab or a carriage return
abbrev pub is_blank_byte : ℕ → Bool
is_blank_byte byte = byte == 32 || (byte == 9 || byte == 13)
