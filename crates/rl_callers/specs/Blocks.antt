-- Blocks of lines of callers: whose a line is, and what a block prints.
use Rattle.std.specs.Prelude.{◌≡◌, ℕ, zero, suc, nat_lt, ◌==◌, Bool, true, false, ◌||◌, List, [], ◌∷◌, ◌++◌, length, Option, None, Some, IfSome, Result, Ok, Err, option_and_then, codes, if◌then◌else◌, drop, slice_get, slice_set}
use Rattle.std.specs.List.{list_all}
use Rattle.rl_labels.specs.Decimals.{number_of}
use Rattle.rl_labels.specs.Name.{is_text}
use Rattle.rl_session.specs.Command.{command_in_block, cut_at, is_blank_byte}
use Rattle.rl_session.specs.Engine.{Calls}
use Rattle.rl_session.specs.Front.{lines_of}
use Rattle.rl_session.specs.Printed.{refusal_line}
use Rattle.rl_session.specs.Printer.{Printing, Prints, HoldsFront}
use Rattle.rl_session.specs.Session.{AreLinesExecuted, FirstAreExecuted, IsExecuted, is_refusal}
use Rattle.rl_session.specs.declared.output.Answer.{Answer}
use Rattle.rl_session.specs.declared.session.RunError.{RunError}
use Rattle.rl_session.specs.declared.session.RunError.TheVariants.{WriteFault}
use Rattle.rl_callers.specs.declared.runner.Reply.{Reply}
use Rattle.rl_callers.specs.declared.runner.Runner.{Runner}

-- the line that ends a block
abbrev pub ends_block : List ℕ → Bool
ends_block line = is_text line (codes "end")

-- the number of a line's caller, and its command, where a word is the number of one of so many callers
abbrev pub caller_of_words : (callers : ℕ) → List ℕ × List ℕ → Option (ℕ × List ℕ)
caller_of_words callers words = option_and_then (λ number. if nat_lt number callers then Some (number, words.1) else None) (number_of 19 words.0)

abbrev pub caller_of : (callers : ℕ) → List ℕ → Option (ℕ × List ℕ)
caller_of callers line = option_and_then (caller_of_words callers) (cut_at 32 line)

-- the command of a line, if it is the caller's
abbrev pub own_command : (number : ℕ) → Option (ℕ × List ℕ) → List (List ℕ)
own_command number None = []
own_command number (Some (caller, command)) = if caller == number then command ∷ [] else []

-- the commands of a caller in a block, up to its end
abbrev pub own_commands : (callers number : ℕ) → List (List ℕ) → List (List ℕ)
own_commands callers number [] = []
own_commands callers number (line ∷ lines) = if ends_block line then [] else own_command number (caller_of callers line) ++ own_commands callers number lines

module _ {E : Type 0} (calls : Calls E) where
  -- commands of a caller are executed one after the other, each with a reply
  abbrev pub AreOwnExecuted : E → List (List ℕ) → List Reply → E → Type 0
  AreOwnExecuted old [] [] new = new ≡ old
  AreOwnExecuted old (line ∷ lines) (reply ∷ replies) new = (answer : Answer) × (mid : E) × IsExecuted calls old (command_in_block line) reply.text.items answer mid × (reply.refused ≡ is_refusal answer) × AreOwnExecuted mid lines replies new
  AreOwnExecuted old lines replies new = ⊥

  -- a line of a block: its caller executes its command; where it has none it is refused, unless it is blank
  abbrev pub IsOfCaller : Option (ℕ × List ℕ) → (blank : Bool) → List E → List ℕ → Bool → List E → Type 0
  IsOfCaller (Some (number, command)) blank olds text refused news = (old : E) × (new : E) × (answer : Answer) × (slice_get olds number ≡ Some old) × IsExecuted calls old (command_in_block command) text answer new × (refused ≡ is_refusal answer) × (news ≡ slice_set olds number new)
  IsOfCaller None true olds text refused news = (text ≡ []) × (refused ≡ false) × (news ≡ olds)
  IsOfCaller None false olds text refused news = (text ≡ refusal_line (codes "BadCommand")) × (refused ≡ true) × (news ≡ olds)

  abbrev pub IsBlockLine : List E → List ℕ → List ℕ → Bool → List E → Type 0
  IsBlockLine olds line text refused news = IsOfCaller (caller_of (length olds) line) (list_all is_blank_byte line) olds text refused news

  -- a block's end, or another line and those after it
  abbrev pub IsBlockRest : (ends : Bool) → List E → List ℕ → List (List ℕ) → (List E → List ℕ → Bool → List (List ℕ) → List E → Type 0) → List ℕ → Bool → List (List ℕ) → List E → Type 0
  IsBlockRest true olds line lines AreExecuted text refused left news = (text ≡ []) × (refused ≡ false) × (left ≡ lines) × (news ≡ olds)
  IsBlockRest false olds line lines AreExecuted text refused left news = (first : List ℕ) × (here : Bool) × (mids : List E) × (rest : List ℕ) × (later : Bool) × IsBlockLine olds line first here mids × AreExecuted mids rest later left news × (text ≡ first ++ rest) × (refused ≡ (here || later))

  -- the lines of a block, up to its end: what each caller does is as if one line came after the other; and the lines left
  abbrev pub IsBlockExecuted : List E → List (List ℕ) → List ℕ → Bool → List (List ℕ) → List E → Type 0
  IsBlockExecuted olds [] text refused left news = (text ≡ []) × (refused ≡ false) × (left ≡ []) × (news ≡ olds)
  IsBlockExecuted olds (line ∷ lines) text refused left news = IsBlockRest (ends_block line) olds line lines (λ mids. IsBlockExecuted mids lines) text refused left news

  -- the replies that are left of each caller are those of its commands in the lines left, by the engines as the lines before left them
  abbrev pub AreLeft : List E → List (List ℕ) → List (Runner E) → Type 0
  AreLeft olds lines callers = (length olds ≡ length callers) × ((number : ℕ) → IfSome (slice_get callers number) (λ caller. IfSome (slice_get olds number) (λ old. AreOwnExecuted old (own_commands (length callers) number lines) (drop caller.printed caller.replies.items) caller.engine)))

  -- each caller ran its lines of a block, unless memory ran out for a reply
  abbrev pub AreRun : List (Runner E) → List (List ℕ) → List (Runner E) → Type 0
  AreRun olds lines news = (length news ≡ length olds) × ((number : ℕ) → IfSome (slice_get olds number) (λ old. IfSome (slice_get news number) (λ new. new.failed ≡ false → (new.printed ≡ 0) × AreOwnExecuted old.engine (own_commands (length olds) number lines) new.replies.items new.engine)))

  -- a command more was executed, and its reply added
  abbrev pub IsReplied : Runner E → List ℕ → Runner E → Type 0
  IsReplied old command new = (answer : Answer) × (reply : Reply) × IsExecuted calls old.engine (command_in_block command) reply.text.items answer new.engine × (reply.refused ≡ is_refusal answer) × (new.replies.items ≡ old.replies.items ++ reply ∷ []) × (new.printed ≡ old.printed)

  -- commands of a caller were executed, and their replies added
  abbrev pub AreReplied : Runner E → List (List ℕ) → Runner E → Type 0
  AreReplied old commands new = (more : List Reply) × AreOwnExecuted old.engine commands more new.engine × (new.replies.items ≡ old.replies.items ++ more) × (new.printed ≡ old.printed)

  -- where lines stopped: at the end, or before a block, which and what follows it is executed
  abbrev pub IsAfterLines : List E → Option (List (List ℕ)) → List ℕ → Bool → (List E → List (List ℕ) → List ℕ → Bool → List E → Type 0) → List ℕ → Bool → List E → Type 0
  IsAfterLines mids None first here AreExecuted text refused news = (text ≡ first) × (refused ≡ here) × (news ≡ mids)
  IsAfterLines mids (Some lines) first here AreExecuted text refused news =
      (own : List ℕ) × (some : Bool) × (left : List (List ℕ)) × (afters : List E) × (rest : List ℕ) × (later : Bool) × IsBlockExecuted mids lines own some left afters × AreExecuted afters left rest later news × (text ≡ first ++ (own ++ rest)) × (refused ≡ (here || (some || later)))

  -- lines and blocks, at most so many: outside a block each line is the first caller's
  abbrev pub AreAllExecuted : (blocks : ℕ) → List E → List (List ℕ) → List ℕ → Bool → List E → Type 0
  AreAllExecuted zero olds lines text refused news = ⊥
  AreAllExecuted (suc blocks) olds lines text refused news =
      (old : E) × (mid : E) × (first : List ℕ) × (here : Bool) × (left : Option (List (List ℕ))) × (slice_get olds 0 ≡ Some old) × AreLinesExecuted calls old lines first here left mid × IsAfterLines (slice_set olds 0 mid) left first here (AreAllExecuted blocks) text refused news

  -- the first so many lines and blocks are executed, and what they print
  abbrev pub AreFirstExecuted : (blocks : ℕ) → List E → List (List ℕ) → List ℕ → List E → Type 0
  AreFirstExecuted zero olds lines text news = (old : E) × (mid : E) × (slice_get olds 0 ≡ Some old) × FirstAreExecuted calls old lines text mid × (news ≡ slice_set olds 0 mid)
  AreFirstExecuted (suc blocks) olds lines text news =
      (old : E) × (mid : E) × (first : List ℕ) × (here : Bool) × (block : List (List ℕ)) × (slice_get olds 0 ≡ Some old) × AreLinesExecuted calls old lines first here (Some block) mid
      × (own : List ℕ) × (some : Bool) × (left : List (List ℕ)) × (afters : List E) × (rest : List ℕ) × IsBlockExecuted (slice_set olds 0 mid) block own some left afters × AreFirstExecuted blocks afters left rest news × (text ≡ first ++ (own ++ rest))

  -- a session of callers: all lines and blocks are executed, and their text printed; or a write failed, and the first so many are; or
  -- memory ran out in a block, before which the first so many were
  abbrev pub ExecutesAll : List E → List ℕ → Printing → Result Bool RunError → Printing → List E → Type 0
  ExecutesAll olds commands before (Ok refused) after news = (blocks : ℕ) × (text : List ℕ) × AreAllExecuted blocks olds (lines_of commands) text refused news × Prints before text after
  ExecutesAll olds commands before (Err error) after news =
      (blocks : ℕ) × (text : List ℕ) × (mids : List E) × AreFirstExecuted blocks olds (lines_of commands) text mids × Prints before text after × HoldsFront after × (error ≡ WriteFault → news ≡ mids)
