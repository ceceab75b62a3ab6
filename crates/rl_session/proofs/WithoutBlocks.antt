-- An engine that takes no blocks: no line begins one, and no lines are left.
use Rattle.std.proofs.Common.{◌≡◌, ℕ, Bool, true, false, List, [], ◌∷◌, Option, None, Some, refl, ap, subst, ◌∙◌}
use Rattle.std.specs.Prelude.{is_err, nat_lt}
use Rattle.std.specs.List.{list_all, list_any}
use Rattle.rl_session.specs.Command.{Asked, pushes, cuts, flushes, deletes, cancels, processes, retains, edits, evaluates, ticks, pumps, shows, blocks, ends, command_of, is_blank_byte}
use Rattle.rl_session.specs.Engine.{Calls, Shown}
use Rattle.rl_session.specs.Printed.{answer_of, answer_to, is_refused, is_refused_ask, shown_answer}
use Rattle.rl_session.specs.Session.{AreLinesExecuted, IsBlockBegun, IsExecuted, IsLineExecuted, IsRestExecuted}
use Rattle.rl_session.specs.declared.output.Answer.{Answer}
use Rattle.rl_session.specs.declared.output.Answer.TheVariants.{Taken, Refused, Block, Ended}
use Rattle.rl_session.specs.declared.output.CommandResult.{CommandResult}
use Rattle.rl_session.specs.declared.output.CommandResult.TheVariants as command_results

abbrev is_block : Answer → Bool
is_block Block = true
is_block _ = false

none_by : (refused : Bool) → is_block (answer_of refused) ≡ false
none_by true = refl
none_by false = refl

-- what becomes of a command by its result
none_by_result : (result : CommandResult) → is_block (answer_to result) ≡ false
none_by_result command_results.Refused = refl
none_by_result (command_results.Unread error) = refl
none_by_result (command_results.Pushed replies) = none_by (list_any is_refused replies.items)
none_by_result (command_results.Unpushed count) = none_by (nat_lt 0 count)
none_by_result (command_results.NoSelector error) = refl
none_by_result (command_results.Asked result) = none_by (is_refused_ask result)
none_by_result (command_results.Edited result) = none_by (is_err result)
none_by_result (command_results.Evaluated result) = none_by (is_err result)
none_by_result (command_results.CaughtUp result) = none_by (is_err result)
none_by_result (command_results.Ticked results) = none_by (list_any is_err results.items)

none_by_shown : (shown : Option Shown) → is_block (shown_answer shown) ≡ false
none_by_shown None = refl
none_by_shown (Some sink) = refl

-- of a line that begins no block the lines after it leave what is left
none_left_after : {E : Type 0} (mid : E) (here : Answer) (first : List ℕ) (lines : List (List ℕ)) (AreExecuted : List ℕ → Bool → Option (List (List ℕ)) → E → Type 0) (text : List ℕ) (refused : Bool) (left : Option (List (List ℕ))) (new : E)
    → is_block here ≡ false → ((rest : List ℕ) (later : Bool) → AreExecuted rest later left new → left ≡ None) → IsRestExecuted mid here first lines AreExecuted text refused left new → left ≡ None
none_left_after mid Ended first lines AreExecuted text refused left new none leaves executed = executed.2
none_left_after mid Block first lines AreExecuted text refused left new none leaves executed = let never : ⊥ = cc in absurd never
none_left_after mid Taken first lines AreExecuted text refused left new none leaves executed = leaves executed.0 executed.1 executed.2
none_left_after mid Refused first lines AreExecuted text refused left new none leaves executed = leaves executed.0 executed.1 executed.2

module _ {E : Type 0} (calls : Calls E) (without : calls.blocks ≡ false) where
  none_by_command : (old : E) (asked : Option Asked) (text : List ℕ) (answer : Answer) (new : E) → IsExecuted calls old asked text answer new → is_block answer ≡ false
  none_by_command old None text answer new executed = ap is_block executed.0.1
  none_by_command old (Some (pushes json)) text answer new executed = ap is_block executed.2.1 ∙ none_by_result executed.0
  none_by_command old (Some cuts) text answer new executed = ap is_block executed.2.1 ∙ none_by_result executed.0
  none_by_command old (Some flushes) text answer new executed = ap is_block executed.2.1 ∙ none_by_result executed.0
  none_by_command old (Some (deletes deletion)) text answer new executed = ap is_block executed.2.1 ∙ none_by_result executed.0
  none_by_command old (Some (cancels id)) text answer new executed = ap is_block executed.2.1 ∙ none_by_result executed.0
  none_by_command old (Some (processes id now)) text answer new executed = ap is_block executed.2.1 ∙ none_by_result executed.0
  none_by_command old (Some (retains now)) text answer new executed = ap is_block executed.2.1 ∙ none_by_result executed.0
  none_by_command old (Some (edits document)) text answer new executed = ap is_block executed.2.1 ∙ none_by_result executed.0
  none_by_command old (Some (ticks now)) text answer new executed = ap is_block executed.2.1 ∙ none_by_result executed.0
  none_by_command old (Some (evaluates t group)) text answer new executed = ap is_block executed.2.1 ∙ none_by_result executed.0
  none_by_command old (Some (pumps group)) text answer new executed = ap is_block executed.2.1 ∙ none_by_result executed.0
  none_by_command old (Some (shows sink group)) text answer new executed = ap is_block executed.2.1 ∙ none_by_shown executed.0
  none_by_command old (Some blocks) text answer new executed =
      let refused = subst (λ takes. IsBlockBegun takes old text answer new) without executed in
      ap is_block refused.0.1
  none_by_command old (Some ends) text answer new executed = ap is_block executed.1

  none_by_line : (old : E) (blank : Bool) (line text : List ℕ) (answer : Answer) (new : E) → IsLineExecuted calls old blank line text answer new → is_block answer ≡ false
  none_by_line old true line text answer new executed = ap is_block executed.1
  none_by_line old false line text answer new executed = none_by_command old (command_of line) text answer new executed

  -- no lines are left
  pub none_left : (old : E) (lines : List (List ℕ)) (text : List ℕ) (refused : Bool) (left : Option (List (List ℕ))) (new : E) → AreLinesExecuted calls old lines text refused left new → left ≡ None
  none_left old [] text refused left new executed = executed.2
  none_left old (line ∷ lines) text refused left new executed =
      let mid = executed.2 in
      none_left_after mid executed.1 executed.0 lines (AreLinesExecuted calls mid lines) text refused left new
      (none_by_line old (list_all is_blank_byte line) line executed.0 executed.1 mid executed.3)
      (λ rest later others. none_left mid lines rest later left new others) executed.4
