-- What a session prints, where the bytes that its writer holds are known.
use Rattle.std.specs.Prelude.{ℕ, suc, ◌-◌, ◌==◌, nat_lt, is_err, ⊤, Bool, true, false, List, [], ◌∷◌, ◌++◌, length, replicate, count_by, flat_map, Option, None, Some, is_some, Result, Ok, Err, codes, if◌then◌else◌}
use Rattle.std.specs.List.{list_any}
use Rattle.std.specs.Fmt.{decimal}
use Rattle.rl_sinks.specs.Texts.{tail_text}
use Rattle.rl_world.specs.declared.fault.Refusal.{Refusal}
use Rattle.rl_world.specs.declared.fault.Refusal.TheVariants as refusals
use Rattle.rl_world.specs.declared.step.Committed.{Committed}
use Rattle.rl_records.specs.declared.step.ShardReply.{ShardReply}
use Rattle.rl_session.specs.Names.{push_error_name, push_refusal, query_error_name, refusal_name, shard_refusal, edit_refusal_name}
use Rattle.rl_session.specs.declared.edit.EditRefusal.{EditRefusal}
use Rattle.rl_session.specs.declared.engine.Partly.{Partly}
use Rattle.rl_session.specs.Engine.{Shown, kept_text}
use Rattle.rl_session.specs.declared.output.Answer.{Answer}
use Rattle.rl_session.specs.declared.output.Answer.TheVariants.{Taken, Refused}
use Rattle.rl_session.specs.declared.output.CommandResult.{CommandResult}
use Rattle.rl_session.specs.declared.output.CommandResult.TheVariants as command_results

-- the line of a refusal
abbrev pub refusal_line : List ℕ → List ℕ
refusal_line name = codes "refused " ++ (name ++ codes "\n")

-- the line of a push body that was refused
abbrev pub bad_push_line : List ℕ → List ℕ
bad_push_line name = codes "refused BadPush " ++ (name ++ codes "\n")

-- how many entries were accepted, and how many refused if some were
abbrev pub counts_line : ℕ → ℕ → List ℕ
counts_line accepted refused =
    if refused == 0 then codes "accepted " ++ decimal accepted ++ codes "\n"
    else codes "accepted " ++ decimal accepted ++ codes " refused " ++ decimal refused ++ codes "\n"

-- an entry's number and its refusal, if it was refused
abbrev pub entry_line : ℕ → Option (List ℕ) → List ℕ
entry_line number None = []
entry_line number (Some name) = codes "  " ++ decimal number ++ codes " " ++ name ++ codes "\n"

-- the lines of entries, of which the first has this number
abbrev pub entry_lines : ℕ → List (Result ShardReply Refusal) → List ℕ
entry_lines number [] = []
entry_lines number (answer ∷ answers) = entry_line number (push_refusal answer) ++ entry_lines (suc number) answers

abbrev pub is_refused : Result ShardReply Refusal → Bool
is_refused answer = is_some (push_refusal answer)

-- what a push prints, by the answer to each entry
abbrev pub pushed_text : List (Result ShardReply Refusal) → List ℕ
pushed_text answers = counts_line (length answers - count_by is_refused answers) (count_by is_refused answers) ++ entry_lines 0 answers

-- no memory for any of `count` entries
abbrev pub none_pushed : ℕ → List (Result ShardReply Refusal)
none_pushed count = replicate count (Err refusals.Memory)

-- a space and a number
abbrev pub number_text : ℕ → List ℕ
number_text number = codes " " ++ decimal number

-- the numbers of the sinks that are behind, if some are
abbrev pub behind_line : List ℕ → List ℕ
behind_line [] = []
behind_line (sink ∷ sinks) = codes "behind" ++ flat_map number_text (sink ∷ sinks) ++ codes "\n"

-- what sinks that could catch up print: which are behind, or that none is
abbrev pub caught_up_text : Result (List ℕ) Refusal → List ℕ
caught_up_text (Ok []) = codes "ok\n"
caught_up_text (Ok (sink ∷ sinks)) = behind_line (sink ∷ sinks)
caught_up_text (Err refusal) = refusal_line (refusal_name refusal)

-- what an evaluation prints
abbrev pub committed_text : Committed → List ℕ
committed_text committed = tail_text committed.evaluation ++ behind_line committed.behind

-- what an evaluation or its refusal prints
abbrev pub evaluated_text : Result Committed Refusal → List ℕ
evaluated_text (Ok committed) = committed_text committed
evaluated_text (Err refusal) = refusal_line (refusal_name refusal)

-- what those of the groups that are due print, one after the other
abbrev pub ticked_text : List (Result Committed Refusal) → List ℕ
ticked_text [] = codes "ok\n"
ticked_text (result ∷ results) = flat_map evaluated_text (result ∷ results)

-- the line of a step that not every shard did: how many did, and why the next one refused
abbrev pub partly_line : ℕ → List ℕ → List ℕ
partly_line done name = codes "partly " ++ decimal done ++ codes " " ++ name ++ codes "\n"

-- what a shard's refusal prints, if it is one
abbrev pub decided_text : Option (List ℕ) → List ℕ
decided_text None = codes "ok\n"
decided_text (Some name) = refusal_line name

-- what a step of every shard prints
abbrev pub asked_text : Result (Option ShardReply) Partly → List ℕ
asked_text (Ok None) = codes "ok\n"
asked_text (Ok (Some reply)) = decided_text (shard_refusal reply)
asked_text (Err partly) = partly_line partly.done (refusal_name partly.refusal)

-- it was refused, by a shard's reply or wholly or in part
abbrev pub is_refused_ask : Result (Option ShardReply) Partly → Bool
is_refused_ask (Ok None) = false
is_refused_ask (Ok (Some reply)) = true
is_refused_ask (Err partly) = true

-- what an edit prints
abbrev pub edited_text : Result ⊤ EditRefusal → List ℕ
edited_text (Ok done) = codes "ok\n"
edited_text (Err refusal) = refusal_line (edit_refusal_name refusal)

-- what a sink that is shown prints: how many texts it has taken, and those that it keeps
abbrev pub shown_text : Option Shown → List ℕ
shown_text None = refusal_line (codes "BadCommand")
shown_text sink = kept_text sink

abbrev pub shown_answer : Option Shown → Answer
shown_answer None = Refused
shown_answer (Some sink) = Taken

-- what is printed of a command's result
abbrev pub printed : CommandResult → List ℕ
printed command_results.Refused = refusal_line (codes "BadCommand")
printed (command_results.Unread error) = bad_push_line (push_error_name error)
printed (command_results.Pushed replies) = pushed_text replies.items
printed (command_results.Unpushed count) = pushed_text (none_pushed count)
printed (command_results.NoSelector error) = refusal_line (query_error_name error)
printed (command_results.Asked result) = asked_text result
printed (command_results.Edited result) = edited_text result
printed (command_results.Evaluated result) = evaluated_text result
printed (command_results.CaughtUp result) = caught_up_text result
printed (command_results.Ticked results) = ticked_text results.items

-- taken, unless some of it was refused
abbrev pub answer_of : Bool → Answer
answer_of refused = if refused then Refused else Taken

-- what becomes of the command
abbrev pub answer_to : CommandResult → Answer
answer_to (command_results.Pushed replies) = answer_of (list_any is_refused replies.items)
answer_to (command_results.Unpushed count) = answer_of (nat_lt 0 count)
answer_to (command_results.Asked result) = answer_of (is_refused_ask result)
answer_to (command_results.Edited result) = answer_of (is_err result)
answer_to (command_results.Evaluated result) = answer_of (is_err result)
answer_to (command_results.CaughtUp result) = answer_of (is_err result)
answer_to (command_results.Ticked results) = answer_of (list_any is_err results.items)
answer_to _ = Refused

-- the last line: the sinks are closed, or they are not, for a reason with a name
abbrev pub closed_line : List ℕ
closed_line = codes "closed\n"

abbrev pub not_closed_line : List ℕ → List ℕ
not_closed_line name = codes "not closed " ++ (name ++ codes "\n")
