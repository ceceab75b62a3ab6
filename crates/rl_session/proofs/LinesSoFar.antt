-- The lines so far, and what was written of them.
use Rattle.std.proofs.Common.{◌≡◌, ℕ, Bool, false, ◌||◌, List, [], ◌∷◌, ◌++◌, Option, None, Some, Ok, Err, refl, sym, ap, subst, ◌∙◌, append_assoc, append-nil, Bor}
use Rattle.std.proofs.Math.Bool.{or_assoc, or-false}
use Rattle.std.specs.List.{list_all}
use Rattle.std.specs.Option.{option_copied}
use Rattle.std.specs.declared.io.Error.{Error}
use Rattle.std.proofs.KnownBytes.{Appends-nil, Appends-trans}
use Rattle.rl_session.specs.Command.{is_blank_byte}
use Rattle.rl_session.specs.Engine.{Calls}
use Rattle.rl_session.specs.Front.{IsFirstLine, lines_of}
use Rattle.rl_session.specs.Printer.{Printing, Prints, as_list}
use Rattle.rl_session.specs.Session.{ExecutesLine, ExecutesText, FirstAreExecuted, AreLinesExecuted, IsLineExecuted, IsRestExecuted, is_refusal, lines_left, stop_at, stopped_before}
use Rattle.rl_session.specs.declared.session.StoppedAt.{StoppedAt}
use Rattle.rl_session.specs.declared.session.StoppedAt.TheVariants as stops
use Rattle.rl_session.specs.declared.output.Answer.{Answer}
use Rattle.rl_session.specs.declared.output.Answer.TheVariants.{Taken, Refused, Block, Ended}

-- where lines stop, if they do not
pub goes_on : (here : Answer) (following : Option (Bor (List ℕ))) (stopped : Option StoppedAt) → stopped ≡ stop_at here following → stopped ≡ None → stop_at here following ≡ None
goes_on here following stopped is none = sym is ∙ none

-- lines go on: what the rest gives is written after the first one, and the rest leaves what is left
rest_executed : {E : Type 0} (mid : E) (here : Answer) (following : Option (Bor (List ℕ))) (first : List ℕ) (lines : List (List ℕ)) (AreExecuted : List ℕ → Bool → Option (List (List ℕ)) → E → Type 0) (rest : List ℕ) (later : Bool) (left : Option (List (List ℕ))) (new : E) → stop_at here following ≡ None → AreExecuted rest later left new → IsRestExecuted mid here first lines AreExecuted (first ++ rest) (is_refusal here || later) left new
rest_executed mid Ended following first lines AreExecuted rest later left new goes executed = let never : ⊥ = cc in absurd never
rest_executed mid Block following first lines AreExecuted rest later left new goes executed = let never : ⊥ = cc in absurd never
rest_executed mid Taken following first lines AreExecuted rest later left new goes executed = (rest, later, executed, refl, refl)
rest_executed mid Refused following first lines AreExecuted rest later left new goes executed = (rest, later, executed, refl, refl)

-- lines stop: nothing is written after the first one, and the lines after it are left where it begins a block
stop_executed : {E : Type 0} (mid : E) (here : Answer) (following : Option (Bor (List ℕ))) (at : StoppedAt) (first : List ℕ) (AreExecuted : List ℕ → Bool → Option (List (List ℕ)) → E → Type 0) → Some at ≡ stop_at here following → IsRestExecuted mid here first (lines_left (option_copied following)) AreExecuted first false (stopped_before at) mid
stop_executed mid Ended following at first AreExecuted is = let same : at ≡ stops.End = cc in (refl, refl, ap stopped_before same, refl)
stop_executed mid Block following at first AreExecuted is = let same : at ≡ stops.Block following = cc in (refl, refl, ap stopped_before same, refl)
stop_executed mid Taken following at first AreExecuted is = let never : ⊥ = cc in absurd never
stop_executed mid Refused following at first AreExecuted is = let never : ⊥ = cc in absurd never

-- what is left by a line that nothing follows
abbrev left_by : Answer → Option (List (List ℕ))
left_by Block = Some []
left_by _ = None

none_left_by : (here : Answer) (following : Option (Bor (List ℕ))) → stop_at here following ≡ None → left_by here ≡ None
none_left_by Ended following goes = refl
none_left_by Block following goes = let never : ⊥ = cc in absurd never
none_left_by Taken following goes = refl
none_left_by Refused following goes = refl

-- the first line, and the lines after it
first_and_left : (rest line : List ℕ) (following : Option (List ℕ)) → IsFirstLine rest line following → lines_of rest ≡ line ∷ lines_left following
first_and_left rest line None first = first
first_and_left rest line (Some following) first = first.0

-- whatever further lines give, over the engine as it is now, they give after what was written of those that are done
pub record ExecutedSoFar {E : Type 0} (calls : Calls E) (start : E) (commands rest : List ℕ) (refused : Bool) (before after : Printing) (now : E) : Type 0 where
  pub done : List (List ℕ)
  pub split : lines_of commands ≡ done ++ lines_of rest
  pub written : List ℕ
  pub whole : (lines : List (List ℕ)) (text : List ℕ) (later : Bool) (left : Option (List (List ℕ))) (new : E) → AreLinesExecuted calls now lines text later left new → AreLinesExecuted calls start (done ++ lines) (written ++ text) (refused || later) left new
  pub printed : Prints before written after

module _ {E : Type 0} (calls : Calls E) (start : E) where
  pub none_executed : (commands : List ℕ) (before : Printing) → ExecutedSoFar calls start commands commands false before before start
  none_executed commands before = record { done = []; split = refl; written = []; whole = λ lines text later left new executed. executed; printed = Appends-nil (as_list before) }

  -- a line, and nothing after it
  only_line : (mid : E) (here : Answer) (first : List ℕ) → IsRestExecuted mid here first [] (AreLinesExecuted calls mid []) first (is_refusal here) (left_by here) mid
  only_line mid Ended first = (refl, refl, refl, refl)
  only_line mid Block first = (refl, refl, refl, refl)
  only_line mid Taken first = ([], false, (refl, refl, refl, refl), sym (append-nil first), refl)
  only_line mid Refused first = ([], false, (refl, refl, refl, refl), sym (append-nil first), refl)

  -- a line with others after it
  line_and_others : (line : List ℕ) (others : List (List ℕ)) (here : Answer) (mid after : Printing) (old new : E) (executed : ExecutesLine calls old line mid (Ok here) after new) (text : List ℕ) (later : Bool) (left : Option (List (List ℕ))) (last : E)
      → IsRestExecuted new here executed.0 others (AreLinesExecuted calls new others) text later left last → AreLinesExecuted calls old (line ∷ others) text later left last
  line_and_others line others here mid after old new executed text later left last following =
      (executed.0, here, new, subst (λ answer. IsLineExecuted calls old (list_all is_blank_byte line) line executed.0 answer new) (sym executed.4) executed.2, following)

  -- a line that is not the last, and at which lines do not stop
  pub executed_line : (commands rest line following : List ℕ) (beyond : Option (Bor (List ℕ))) (refused : Bool) (here : Answer) (before mid after : Printing) (old new : E) → stop_at here beyond ≡ None → IsFirstLine rest line (Some following) → ExecutesLine calls old line mid (Ok here) after new
      → ExecutedSoFar calls start commands rest refused before mid old → ExecutedSoFar calls start commands following (refused || is_refusal here) before after new
  executed_line commands rest line following beyond refused here before mid after old new goes first executed so_far = record {
    done = so_far.done ++ line ∷ [];
    split = so_far.split ∙ ap (λ lines. so_far.done ++ lines) first.0 ∙ sym (append_assoc so_far.done (line ∷ []) (lines_of following));
    written = so_far.written ++ executed.0;
    whole = λ lines text later left last others.
        subst (λ done. AreLinesExecuted calls start done ((so_far.written ++ executed.0) ++ text) ((refused || is_refusal here) || later) left last) (sym (append_assoc so_far.done (line ∷ []) lines))
        (subst (λ t. AreLinesExecuted calls start (so_far.done ++ line ∷ lines) t ((refused || is_refusal here) || later) left last) (sym (append_assoc so_far.written executed.0 text))
        (subst (λ r. AreLinesExecuted calls start (so_far.done ++ line ∷ lines) (so_far.written ++ (executed.0 ++ text)) r left last) (sym (or_assoc refused (is_refusal here) later))
        (so_far.whole (line ∷ lines) (executed.0 ++ text) (is_refusal here || later) left last (line_and_others line lines here mid after old new executed (executed.0 ++ text) (is_refusal here || later) left last (rest_executed new here beyond executed.0 lines (AreLinesExecuted calls new lines) text later left last goes others)))));
    printed = Appends-trans (as_list before) (as_list mid) (as_list after) so_far.written executed.0 so_far.printed executed.3;
  }

  -- the last line that is looked at
  executed_last : (commands rest line : List ℕ) (others : List (List ℕ)) (refused later : Bool) (at : StoppedAt) (here : Answer) (before mid after : Printing) (old new : E) → lines_of rest ≡ line ∷ others → (executed : ExecutesLine calls old line mid (Ok here) after new)
      → IsRestExecuted new here executed.0 others (AreLinesExecuted calls new others) executed.0 later (stopped_before at) new → ExecutedSoFar calls start commands rest refused before mid old → ExecutesText calls start commands before (Ok (record { refused = refused || later; at = at })) after new
  executed_last commands rest line others refused later at here before mid after old new lines executed ends so_far = (
    so_far.written ++ executed.0,
    subst (λ all. AreLinesExecuted calls start all (so_far.written ++ executed.0) (refused || later) (stopped_before at) new) (sym (so_far.split ∙ ap (λ lines. so_far.done ++ lines) lines))
        (so_far.whole (line ∷ others) executed.0 later (stopped_before at) new (line_and_others line others here mid after old new executed executed.0 later (stopped_before at) new ends)),
    Appends-trans (as_list before) (as_list mid) (as_list after) so_far.written executed.0 so_far.printed executed.3,
  )

  -- no line is left
  pub executed_all : (commands rest line : List ℕ) (beyond : Option (Bor (List ℕ))) (refused : Bool) (here : Answer) (before mid after : Printing) (old new : E) → stop_at here beyond ≡ None → IsFirstLine rest line None → ExecutesLine calls old line mid (Ok here) after new
      → ExecutedSoFar calls start commands rest refused before mid old → ExecutesText calls start commands before (Ok (record { refused = refused || is_refusal here; at = stops.End })) after new
  executed_all commands rest line beyond refused here before mid after old new goes first executed so_far =
      let ends = subst (λ left. IsRestExecuted new here executed.0 [] (AreLinesExecuted calls new []) executed.0 (is_refusal here) left new) (none_left_by here beyond goes) (only_line new here executed.0) in
      executed_last commands rest line [] refused (is_refusal here) stops.End here before mid after old new first executed ends so_far

  -- a line at which lines stop
  pub executed_stop : (commands rest line : List ℕ) (following : Option (Bor (List ℕ))) (at : StoppedAt) (refused : Bool) (here : Answer) (before mid after : Printing) (old new : E) → Some at ≡ stop_at here following → IsFirstLine rest line (option_copied following) → ExecutesLine calls old line mid (Ok here) after new
      → ExecutedSoFar calls start commands rest refused before mid old → ExecutesText calls start commands before (Ok (record { refused = refused; at = at })) after new
  executed_stop commands rest line following at refused here before mid after old new is first executed so_far =
      let others = lines_left (option_copied following) in
      subst (λ r. ExecutesText calls start commands before (Ok (record { refused = r; at = at })) after new) (or-false refused)
      (executed_last commands rest line others refused false at here before mid after old new (first_and_left rest line (option_copied following) first) executed (stop_executed new here following at executed.0 (AreLinesExecuted calls new others) is) so_far)

  -- a line at which a write failed
  pub executed_first : (commands rest line : List ℕ) (following : Option (List ℕ)) (refused : Bool) (error : Error) (before mid after : Printing) (old new : E) → IsFirstLine rest line following → ExecutesLine calls old line mid (Err error) after new
      → ExecutedSoFar calls start commands rest refused before mid old → ExecutesText calls start commands before (Err error) after new
  executed_first commands rest line following refused error before mid after old new first executed so_far =
      let done : FirstAreExecuted calls start (lines_of commands) (so_far.written ++ executed.0) new = (
        so_far.done ++ line ∷ [],
        lines_left following,
        so_far.split ∙ ap (λ lines. so_far.done ++ lines) (first_and_left rest line following first) ∙ sym (append_assoc so_far.done (line ∷ []) (lines_left following)),
        refused || is_refusal executed.1,
        left_by executed.1,
        so_far.whole (line ∷ []) executed.0 (is_refusal executed.1) (left_by executed.1) new (executed.0, executed.1, new, executed.2, only_line new executed.1 executed.0),
      ) in
      (so_far.written ++ executed.0, done, Appends-trans (as_list before) (as_list mid) (as_list after) so_far.written executed.0 so_far.printed executed.3, executed.5)
