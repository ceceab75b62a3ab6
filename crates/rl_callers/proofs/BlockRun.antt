-- A block that was run, and a turn of a session: lines up to a block, and the block.
use Rattle.std.proofs.Common.{◌≡◌, ℕ, ◌<◌, Bool, true, false, List, [], ◌++◌, map, length, length-set, drop, get_or, set, slice_get, Option, None, Some, IfSome, Ok, Err, option_map, ◌||◌, refl, sym, ap, subst, ◌∙◌, arith}
use Rattle.std.specs.List.{list_any}
use Rattle.std.specs.Borrow.{Bor}
use Rattle.std.specs.Io.KnownBytes.{Keeps}
use Rattle.std.specs.Option.{option_copied}
use Rattle.std.proofs.lemmas.List.{length-map, map-set}
use Rattle.std.proofs.lemmas.Map.Keys.{any_passes_from_place}
use Rattle.std.proofs.lemmas.Option.{slice_get-get_or, slice_get-map}
use Rattle.rl_session.specs.Engine.{Calls}
use Rattle.rl_session.specs.Front.{lines_of}
use Rattle.rl_session.specs.Printer.{Printing, Prints, HoldsFront, as_list}
use Rattle.rl_session.specs.Session.{AreLinesExecuted, ExecutesText, FirstAreExecuted, lines_left, stopped_before}
use Rattle.rl_session.specs.declared.session.RunError.{RunError}
use Rattle.rl_session.specs.declared.session.RunError.TheVariants.{Memory}
use Rattle.rl_session.specs.declared.session.Stopped.{Stopped}
use Rattle.rl_session.specs.declared.session.StoppedAt.TheVariants as stops
use Rattle.rl_callers.specs.Blocks.{own_commands, AreLeft, AreOwnExecuted, AreRun, ExecutesAll, IsBlockExecuted}
use Rattle.rl_callers.specs.declared.runner.Runner.{Runner}
use Rattle.rl_callers.proofs.BlockPrinted.{block_shorter}
use Rattle.rl_callers.proofs.BlocksSoFar.{ExecutedSoFar, IsTurn, Prints-kept, Prints-trans, all_executed, failed_after_block, failed_at_line, failed_in_block, lines_shorter, none_left}

-- what no element passes the element at a place does not
none_passes : {A : Type 0} (test : A → Bool) (xs : List A) (i : ℕ) (x : A) → list_any test xs ≡ false → slice_get xs i ≡ Some x → test x ≡ false
none_passes test xs i x none there =
    elim (test x) as (λ t. test x ≡ t → t ≡ false) [
      | true ↦ λ passes. sym (any_passes_from_place test xs i x there passes) ∙ none
      | false ↦ λ _. refl
    ] refl

module _ {E : Type 0} (calls : Calls E) where
  -- a caller that ran its lines has all replies left
  run_left : (commands : List (List ℕ)) (old : Runner E) (new : Runner E) → (new.printed ≡ 0) × AreOwnExecuted calls old.engine commands new.replies.items new.engine
      → AreOwnExecuted calls old.engine commands (drop new.printed new.replies.items) new.engine
  run_left commands old new ran = subst (λ n. AreOwnExecuted calls old.engine commands (drop n new.replies.items) new.engine) (sym ran.0) ran.1

  -- of a caller, by its place
  left_at : (olds news : List (Runner E)) (lines : List (List ℕ)) (number : ℕ) → list_any (λ caller. caller.failed) news ≡ false
      → IfSome (slice_get olds number) (λ old. IfSome (slice_get news number) (λ new. new.failed ≡ false → (new.printed ≡ 0) × AreOwnExecuted calls old.engine (own_commands (length olds) number lines) new.replies.items new.engine))
      → IfSome (slice_get news number) (λ caller. IfSome (option_map (λ caller. caller.engine) (slice_get olds number)) (λ old. AreOwnExecuted calls old (own_commands (length olds) number lines) (drop caller.printed caller.replies.items) caller.engine))
  left_at olds news lines number none ran =
      elim (slice_get news number) as (λ new. slice_get news number ≡ new
      → IfSome (slice_get olds number) (λ old. IfSome new (λ new. new.failed ≡ false → (new.printed ≡ 0) × AreOwnExecuted calls old.engine (own_commands (length olds) number lines) new.replies.items new.engine))
      → IfSome new (λ caller. IfSome (option_map (λ caller. caller.engine) (slice_get olds number)) (λ old. AreOwnExecuted calls old (own_commands (length olds) number lines) (drop caller.printed caller.replies.items) caller.engine))) [
        | None ↦ λ _ _. tt
        | Some new ↦ λ there ran.
            elim (slice_get olds number) as (λ old.
            IfSome old (λ old. new.failed ≡ false → (new.printed ≡ 0) × AreOwnExecuted calls old.engine (own_commands (length olds) number lines) new.replies.items new.engine)
            → IfSome (option_map (λ caller. caller.engine) old) (λ old. AreOwnExecuted calls old (own_commands (length olds) number lines) (drop new.printed new.replies.items) new.engine)) [
              | None ↦ λ _. tt
              | Some old ↦ λ ran. run_left (own_commands (length olds) number lines) old new (ran (none_passes (λ caller. caller.failed) news number new none there))
            ] ran
      ] refl ran

  -- all replies of a block that was run are left
  pub all_left : (olds news : List (Runner E)) (lines : List (List ℕ)) → AreRun calls olds lines news → list_any (λ caller. caller.failed) news ≡ false → AreLeft calls (map (λ caller. caller.engine) olds) lines news
  all_left olds news lines run none = (
    length-map olds (λ caller. caller.engine) ∙ sym run.0,
    λ number.
        subst (λ n. IfSome (slice_get news number) (λ caller. IfSome (slice_get (map (λ caller. caller.engine) olds) number) (λ old. AreOwnExecuted calls old (own_commands n number lines) (drop caller.printed caller.replies.items) caller.engine))) (sym run.0)
        (subst (λ found. IfSome (slice_get news number) (λ caller. IfSome found (λ old. AreOwnExecuted calls old (own_commands (length olds) number lines) (drop caller.printed caller.replies.items) caller.engine))) (sym (slice_get-map (λ caller. caller.engine) olds number))
        (left_at olds news lines number none (run.1 number))),
  )

  -- lines up to a block, and the block
  pub turn_by : (nows : List E) (callers runs : List (Runner E)) (afters : List E) (old new : E) (rest : List (List ℕ)) (first : List ℕ) (here some : Bool) (block left : List (List ℕ)) (before mid printed after : Printing)
      → slice_get nows 0 ≡ Some old → map (λ caller. caller.engine) callers ≡ set nows 0 new → AreLinesExecuted calls old rest first here (Some block) new → Prints before first mid
      → AreRun calls callers block runs → list_any (λ caller. caller.failed) runs ≡ false
      → ((olds : List E) → AreLeft calls olds block runs → (own : List ℕ) × IsBlockExecuted calls olds block own some left afters × Prints mid own printed)
      → Keeps (as_list printed) (as_list after) → IsTurn calls nows rest here some before after left afters
  turn_by nows callers runs afters old new rest first here some block left before mid printed after there engines lines prints run none own keeps =
      let block_own = own (map (λ caller. caller.engine) callers) (all_left callers runs block run none) in
      record {
        old = old;
        mid = new;
        first = first;
        block = block;
        own = block_own.0;
        there = there;
        lines = lines;
        executed = subst (λ olds. IsBlockExecuted calls olds block block_own.0 some left afters) engines block_own.1;
        printed = Prints-kept before printed after (first ++ block_own.0) (Prints-trans before mid printed first block_own.0 prints block_own.2) keeps;
      }

  -- a turn leaves fewer lines than there were
  pub turn_shorter : (nows : List E) (rest : List (List ℕ)) (here some : Bool) (before after : Printing) (left : List (List ℕ)) (afters : List E) → IsTurn calls nows rest here some before after left afters → length left < length rest
  turn_shorter nows rest here some before after left afters turn =
      let lines = lines_shorter calls turn.old rest turn.first here turn.block turn.mid turn.lines in
      let block = block_shorter calls (set nows 0 turn.mid) turn.block turn.own some left afters turn.executed in
      omega (arith, lines, block)

  -- the engine of the first caller
  first_engine : (callers : List (Runner E)) (default : Runner E) → 0 < length callers → slice_get (map (λ caller. caller.engine) callers) 0 ≡ Some (get_or callers 0 default).engine
  first_engine callers default some = slice_get-map (λ caller. caller.engine) callers 0 ∙ ap (option_map (λ caller. caller.engine)) (slice_get-get_or callers 0 default some)

  -- a write failed at a line of the first caller
  pub line_failed : (start callers : List (Runner E)) (default changed : Runner E) (commands text : List ℕ) (refused : Bool) (error : RunError) (before mid after : Printing) → 0 < length callers
      → (printed : List ℕ) × FirstAreExecuted calls (get_or callers 0 default).engine (lines_of text) printed changed.engine × Prints mid printed after × HoldsFront after
      → ExecutedSoFar calls (map (λ caller. caller.engine) start) (lines_of commands) (lines_of text) refused before mid (map (λ caller. caller.engine) callers)
      → ExecutesAll calls (map (λ caller. caller.engine) start) commands before (Err error) after (map (λ caller. caller.engine) (set callers 0 changed))
  line_failed start callers default changed commands text refused error before mid after some failed so_far =
      subst (λ news. ExecutesAll calls (map (λ caller. caller.engine) start) commands before (Err error) after news) (sym (map-set (λ caller. caller.engine) callers 0 changed))
      (failed_at_line calls (map (λ caller. caller.engine) start) commands text refused error before mid after (map (λ caller. caller.engine) callers) (get_or callers 0 default).engine changed.engine failed.0
      (first_engine callers default some) failed.1 failed.2 failed.3 so_far)

  -- the first caller's lines came to the end
  pub lines_ended : (start callers : List (Runner E)) (default changed : Runner E) (commands text : List ℕ) (refused : Bool) (stopped : Stopped) (before mid after : Printing) → 0 < length callers
      → ExecutesText calls (get_or callers 0 default).engine text mid (Ok stopped) after changed.engine → stopped.at ≡ stops.End
      → ExecutedSoFar calls (map (λ caller. caller.engine) start) (lines_of commands) (lines_of text) refused before mid (map (λ caller. caller.engine) callers)
      → ExecutesAll calls (map (λ caller. caller.engine) start) commands before (Ok (refused || stopped.refused)) after (map (λ caller. caller.engine) (set callers 0 changed))
  lines_ended start callers default changed commands text refused stopped before mid after some executed ends so_far =
      subst (λ news. ExecutesAll calls (map (λ caller. caller.engine) start) commands before (Ok (refused || stopped.refused)) after news) (sym (map-set (λ caller. caller.engine) callers 0 changed))
      (all_executed calls (map (λ caller. caller.engine) start) commands text refused stopped.refused before mid after (map (λ caller. caller.engine) callers) (get_or callers 0 default).engine changed.engine executed.0
      (first_engine callers default some)
      (subst (λ left. AreLinesExecuted calls (get_or callers 0 default).engine (lines_of text) executed.0 stopped.refused left changed.engine) (ap stopped_before ends) executed.1)
      executed.2 so_far)

  -- memory ran out in a block
  pub block_failed : (start callers : List (Runner E)) (default changed : Runner E) (commands text : List ℕ) (refused : Bool) (stopped : Stopped) (block : Option (Bor (List ℕ))) (before mid after flushed : Printing) (news : List E) → 0 < length callers
      → ExecutesText calls (get_or callers 0 default).engine text mid (Ok stopped) after changed.engine → stopped.at ≡ stops.Block block → Keeps (as_list after) (as_list flushed) → HoldsFront flushed
      → ExecutedSoFar calls (map (λ caller. caller.engine) start) (lines_of commands) (lines_of text) refused before mid (map (λ caller. caller.engine) callers)
      → ExecutesAll calls (map (λ caller. caller.engine) start) commands before (Err Memory) flushed news
  block_failed start callers default changed commands text refused stopped block before mid after flushed news some executed at keeps front so_far =
      failed_in_block calls (map (λ caller. caller.engine) start) commands text refused stopped.refused before mid flushed (map (λ caller. caller.engine) callers) news (get_or callers 0 default).engine changed.engine executed.0 (lines_left (option_copied block))
      (first_engine callers default some)
      (subst (λ left. AreLinesExecuted calls (get_or callers 0 default).engine (lines_of text) executed.0 stopped.refused left changed.engine) (ap stopped_before at) executed.1)
      (Prints-kept mid after flushed executed.0 executed.2 keeps) front so_far

  -- a block was run and printed
  pub turn_of : (callers runs afters : List (Runner E)) (default changed : Runner E) (text : List ℕ) (stopped : Stopped) (block left : Option (Bor (List ℕ))) (failed some : Bool) (mid after printed flushed : Printing) → 0 < length callers
      → ExecutesText calls (get_or callers 0 default).engine text mid (Ok stopped) after changed.engine → stopped.at ≡ stops.Block block
      → AreRun calls (set callers 0 changed) (lines_left (option_copied block)) runs → failed ≡ list_any (λ caller. caller.failed) runs → failed ≡ false
      → ((olds : List E) → AreLeft calls olds (lines_left (option_copied block)) runs → (own : List ℕ) × IsBlockExecuted calls olds (lines_left (option_copied block)) own some (lines_left (option_copied left)) (map (λ caller. caller.engine) afters) × Prints after own printed)
      → Keeps (as_list printed) (as_list flushed) → IsTurn calls (map (λ caller. caller.engine) callers) (lines_of text) stopped.refused some mid flushed (lines_left (option_copied left)) (map (λ caller. caller.engine) afters)
  turn_of callers runs afters default changed text stopped block left failed some mid after printed flushed first executed at run failed_is none own keeps =
      turn_by (map (λ caller. caller.engine) callers) (set callers 0 changed) runs (map (λ caller. caller.engine) afters) (get_or callers 0 default).engine changed.engine (lines_of text) executed.0 stopped.refused some
      (lines_left (option_copied block)) (lines_left (option_copied left)) mid after printed flushed
      (first_engine callers default first) (map-set (λ caller. caller.engine) callers 0 changed)
      (subst (λ left. AreLinesExecuted calls (get_or callers 0 default).engine (lines_of text) executed.0 stopped.refused left changed.engine) (ap stopped_before at) executed.1)
      executed.2 run (sym failed_is ∙ none) own keeps

  -- no caller came or went
  pub some_after : (callers runs afters : List (Runner E)) (changed : Runner E) (lines : List (List ℕ)) → 0 < length callers → AreRun calls (set callers 0 changed) lines runs → map (λ caller. caller.engine) afters ≡ map (λ caller. caller.engine) runs → 0 < length afters
  some_after callers runs afters changed lines some run engines =
      let same : length afters ≡ length callers = sym (length-map afters (λ caller. caller.engine)) ∙ ap length engines ∙ length-map runs (λ caller. caller.engine) ∙ run.0 ∙ length-set callers 0 changed in
      omega (arith, same, some)

  -- a write failed after a block
  pub flush_failed : (start afters : List (Runner E)) (commands : List ℕ) (left : List (List ℕ)) (refused : Bool) (error : RunError) (before after : Printing) → 0 < length afters → HoldsFront after
      → ExecutedSoFar calls (map (λ caller. caller.engine) start) (lines_of commands) left refused before after (map (λ caller. caller.engine) afters)
      → ExecutesAll calls (map (λ caller. caller.engine) start) commands before (Err error) after (map (λ caller. caller.engine) afters)
  flush_failed start afters commands left refused error before after some front so_far =
      failed_after_block calls (map (λ caller. caller.engine) start) commands left refused error before after (map (λ caller. caller.engine) afters) (omega (arith, some, length-map afters (λ caller. caller.engine))) front so_far

  -- no line is left
  pub all_done : (start afters : List (Runner E)) (commands : List ℕ) (refused : Bool) (before after : Printing) → 0 < length afters
      → ExecutedSoFar calls (map (λ caller. caller.engine) start) (lines_of commands) [] refused before after (map (λ caller. caller.engine) afters)
      → ExecutesAll calls (map (λ caller. caller.engine) start) commands before (Ok refused) after (map (λ caller. caller.engine) afters)
  all_done start afters commands refused before after some so_far =
      none_left calls (map (λ caller. caller.engine) start) commands refused before after (map (λ caller. caller.engine) afters) (omega (arith, some, length-map afters (λ caller. caller.engine))) so_far
