-- How a session ends, over an engine that takes no blocks.
use Rattle.std.proofs.Common.{◌≡◌, ℕ, false, inr, List, ◌++◌, None, Result, Ok, Err, subst}
use Rattle.rl_session.specs.Engine.{Calls}
use Rattle.rl_session.specs.Front.{lines_of}
use Rattle.rl_session.specs.Printed.{closed_line}
use Rattle.rl_session.specs.Printer.{Printing}
use Rattle.rl_session.specs.Session.{AreLinesExecuted, ExecutesSession, ExecutesText, IsEnded, ended_by, stopped_before}
use Rattle.rl_session.specs.declared.session.RunError.{RunError}
use Rattle.rl_session.specs.declared.session.Status.{Status}
use Rattle.rl_session.specs.declared.session.Stopped.{Stopped}
use Rattle.rl_session.proofs.Printers.{all_printed, cut_printed, printed_more}
use Rattle.rl_session.proofs.WithoutBlocks.{none_left}

module _ {E : Type 0} (calls : Calls E) (Closes : E → ℕ → E → Type 0) (old mid new : E) (commands : List ℕ) (before during after : Printing) (stopped : Stopped) (failed : ℕ) (without : calls.blocks ≡ false) (executed : ExecutesText calls old commands before (Ok stopped) during mid) (closes : Closes mid failed new) where
  -- no lines are left
  all_executed : AreLinesExecuted calls old (lines_of commands) executed.0 stopped.refused None mid
  all_executed = subst (λ left. AreLinesExecuted calls old (lines_of commands) executed.0 stopped.refused left mid) (none_left calls without old (lines_of commands) executed.0 stopped.refused (stopped_before stopped.at) mid executed.1) executed.1

  -- they are all executed, the engine is closed, and the last line is printed, or a write of it failed
  pub session_ended : (result : Result Status RunError) → IsEnded closed_line (ended_by failed stopped.refused) during result after → ExecutesSession calls Closes old commands before result after new
  session_ended (Ok status) ended =
      let whole = printed_more before during after executed.0 closed_line executed.2 ended.1 in
      (stopped.refused, failed, ended.0, (executed.0, mid, all_executed, closes, all_printed before (executed.0 ++ closed_line) after whole ended.2))
  session_ended (Err error) ended =
      let whole = printed_more before during after executed.0 closed_line executed.2 ended.1 in
      (ended.0, inr (stopped.refused, failed, (executed.0, mid, all_executed, closes, cut_printed before (executed.0 ++ closed_line) after whole ended.2)))
