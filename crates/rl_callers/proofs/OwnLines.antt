-- What the lines of a block that are a caller's were answered so far.
use Rattle.std.proofs.Common.{◌≡◌, ℕ, ◌+◌, false, cond, List, [], ◌∷◌, ◌++◌, length, Option, None, Some, Bor, refl, sym, ap, subst, ◌∙◌, eq-eqb, append_assoc}
use Rattle.std.specs.Prelude.{IfSome}
use Rattle.std.specs.Str.{IsUtf8}
use Rattle.std.specs.Option.{option_copied}
use Rattle.rl_session.specs.Command.{command_in_block}
use Rattle.rl_session.specs.Engine.{Calls}
use Rattle.rl_session.specs.Front.{IsFirstLine, lines_of}
use Rattle.rl_session.specs.Session.{IsExecuted, is_refusal, lines_left}
use Rattle.rl_session.specs.declared.output.Answer.{Answer}
use Rattle.rl_session.proofs.Cut.{IsUtf8-following}
use Rattle.rl_callers.specs.Blocks.{AreOwnExecuted, AreReplied, IsReplied, caller_of, ends_block, own_command, own_commands}
use Rattle.rl_callers.specs.declared.runner.Reply.{Reply}
use Rattle.rl_callers.specs.declared.runner.Runner.{Runner}

-- the lines of a text are its first one and those of what follows
lines_after : (text line : List ℕ) (following : Option (List ℕ)) → IsFirstLine text line following → lines_of text ≡ line ∷ lines_left following
lines_after text line None first = first
lines_after text line (Some more) first = first.0

-- how much of a block is left
abbrev pub left_len : Option (Bor (List ℕ)) → ℕ
left_len None = 0
left_len (Some text) = length text.now + 1

-- what is left is text
abbrev pub IsTextLeft : Option (Bor (List ℕ)) → Type 0
IsTextLeft rest = IfSome rest (λ text. IsUtf8 text.now)

pub text_left : (text line : List ℕ) (following : Option (Bor (List ℕ))) → IsUtf8 text → IsFirstLine text line (option_copied following) → IsTextLeft following
text_left text line None utf8 first = tt
text_left text line (Some more) utf8 first = IsUtf8-following text line more.now utf8 first.1

pub left_text : (rest : Option (Bor (List ℕ))) (text : Bor (List ℕ)) → rest ≡ Some text → IsTextLeft rest → IsUtf8 text.now
left_text rest text is left = subst IsTextLeft is left

-- the command of a line of the caller's
pub own_is : (number : ℕ) (found : Option (ℕ × List ℕ)) (caller : ℕ) (command : List ℕ) → found ≡ Some (caller, command) → caller ≡ number → own_command number found ≡ command ∷ []
own_is number found caller command is same = ap (own_command number) is ∙ ap (λ b. cond b (command ∷ []) []) (eq-eqb caller number same)

-- a caller's commands in a line and those after it
of_line : (callers number : ℕ) (line : List ℕ) (lines : List (List ℕ)) → ends_block line ≡ false → own_commands callers number (line ∷ lines) ≡ own_command number (caller_of callers line) ++ own_commands callers number lines
of_line callers number line lines goes = ap (λ b. cond b [] (own_command number (caller_of callers line) ++ own_commands callers number lines)) goes

module _ {E : Type 0} (calls : Calls E) where
  -- a command more
  executed_more : (old mid new : E) (done : List (List ℕ)) (replies : List Reply) (command : List ℕ) (answer : Answer) (reply : Reply)
      → AreOwnExecuted calls old done replies mid → IsExecuted calls mid (command_in_block command) reply.text.items answer new → reply.refused ≡ is_refusal answer → AreOwnExecuted calls old (done ++ command ∷ []) (replies ++ reply ∷ []) new
  executed_more old mid new [] [] command answer reply done executed refused =
      (answer, new, subst (λ engine. IsExecuted calls engine (command_in_block command) reply.text.items answer new) done executed, refused, refl)
  executed_more old mid new (line ∷ lines) (first ∷ replies) command answer reply done executed refused =
      (done.0, done.1, done.2, done.3, executed_more done.1 mid new lines replies command answer reply done.4 executed refused)
  executed_more old mid new [] (first ∷ replies) command answer reply done executed refused = absurd done
  executed_more old mid new (line ∷ lines) [] command answer reply done executed refused = absurd done

  -- the caller's commands so far are executed, and those of the lines left come after them
  pub record RepliedSoFar (callers number : ℕ) (start : Runner E) (lines rest : List (List ℕ)) (now : Runner E) : Type 0 where
    pub done : List (List ℕ)
    pub split : own_commands callers number lines ≡ done ++ own_commands callers number rest
    pub replied : AreReplied calls start done now

  replied_more : (start now new : Runner E) (done : List (List ℕ)) (command : List ℕ) → AreReplied calls start done now → IsReplied calls now command new → AreReplied calls start (done ++ command ∷ []) new
  replied_more start now new done command before next = (
    before.0 ++ next.1 ∷ [],
    executed_more start.engine now.engine new.engine done before.0 command next.0 next.1 before.1 next.2 next.3,
    next.4 ∙ ap (λ replies. replies ++ next.1 ∷ []) before.2 ∙ append_assoc start.replies.items before.0 (next.1 ∷ []),
    next.5 ∙ before.3,
  )

  -- a line of the caller's
  pub line_replied : (callers number : ℕ) (start now new : Runner E) (lines : List (List ℕ)) (text line command : List ℕ) (following : Option (List ℕ)) → IsFirstLine text line following → ends_block line ≡ false → own_command number (caller_of callers line) ≡ command ∷ []
      → IsReplied calls now command new → RepliedSoFar callers number start lines (lines_of text) now → RepliedSoFar callers number start lines (lines_left following) new
  line_replied callers number start now new lines text line command following first goes own next so_far = record {
    done = so_far.done ++ command ∷ [];
    split =
        so_far.split
        ∙ ap (λ rest. so_far.done ++ own_commands callers number rest) (lines_after text line following first)
        ∙ ap (λ commands. so_far.done ++ commands) (of_line callers number line (lines_left following) goes ∙ ap (λ own. own ++ own_commands callers number (lines_left following)) own)
        ∙ sym (append_assoc so_far.done (command ∷ []) (own_commands callers number (lines_left following)));
    replied = replied_more start now new so_far.done command so_far.replied next;
  }
