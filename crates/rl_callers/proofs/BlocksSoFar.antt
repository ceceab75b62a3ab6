-- The lines and blocks of a session so far, and what was printed of them.
use Rattle.std.proofs.Common.{◌≡◌, ℕ, suc, ◌<◌, Bool, false, ◌||◌, List, [], ◌∷◌, ◌++◌, length, set, slice_get, None, Some, Ok, Err, refl, sym, ap, subst, ◌∙◌, append_assoc, append-nil, arith}
use Rattle.std.proofs.Math.Bool.{or_assoc, or-false}
use Rattle.std.proofs.KnownBytes.{Appends-nil, Appends-trans, Appends-kept}
use Rattle.std.specs.Io.KnownBytes.{Keeps}
use Rattle.rl_session.specs.Engine.{Calls}
use Rattle.rl_session.specs.Front.{lines_of}
use Rattle.rl_session.specs.Printer.{Printing, Prints, HoldsFront, as_list}
use Rattle.rl_session.specs.Session.{AreLinesExecuted, FirstAreExecuted, IsRestExecuted}
use Rattle.rl_session.specs.declared.output.Answer.{Answer}
use Rattle.rl_session.specs.declared.output.Answer.TheVariants.{Taken, Refused, Block, Ended}
use Rattle.rl_session.specs.declared.session.RunError.{RunError}
use Rattle.rl_session.specs.declared.session.RunError.TheVariants.{Memory}
use Rattle.rl_callers.specs.Blocks.{AreAllExecuted, AreFirstExecuted, ExecutesAll, IsBlockExecuted}
use Rattle.rl_callers.proofs.Places.{set_there, some_there}

-- a text is printed, and what is held back is handed on
pub Prints-kept : (before mid after : Printing) (text : List ℕ) → Prints before text mid → Keeps (as_list mid) (as_list after) → Prints before text after
Prints-kept before mid after text prints keeps = Appends-kept (as_list before) (as_list mid) (as_list after) text prints keeps

pub Prints-trans : (before mid after : Printing) (first second : List ℕ) → Prints before first mid → Prints mid second after → Prints before (first ++ second) after
Prints-trans before mid after first second p q = Appends-trans (as_list before) (as_list mid) (as_list after) first second p q

module _ {E : Type 0} (calls : Calls E) where
  -- lines that stopped at a block leave fewer than there were
  shorter_by : (mid : E) (here : Answer) (first : List ℕ) (lines : List (List ℕ)) (text : List ℕ) (refused : Bool) (block : List (List ℕ)) (new : E)
      → ((rest : List ℕ) (later : Bool) → AreLinesExecuted calls mid lines rest later (Some block) new → length block < length lines)
      → IsRestExecuted mid here first lines (AreLinesExecuted calls mid lines) text refused (Some block) new → length block < suc (length lines)
  shorter_by mid Ended first lines text refused block new shorter rest = let never : ⊥ = cc (rest.2) in absurd never
  shorter_by mid Block first lines text refused block new shorter rest = let same : block ≡ lines = cc (rest.2) in omega (arith, ap length same)
  shorter_by mid Taken first lines text refused block new shorter rest = omega (arith, shorter rest.0 rest.1 rest.2)
  shorter_by mid Refused first lines text refused block new shorter rest = omega (arith, shorter rest.0 rest.1 rest.2)

  pub lines_shorter : (old : E) (lines : List (List ℕ)) (text : List ℕ) (refused : Bool) (block : List (List ℕ)) (new : E) → AreLinesExecuted calls old lines text refused (Some block) new → length block < length lines
  lines_shorter old [] text refused block new executed = let never : ⊥ = cc (executed.2) in absurd never
  lines_shorter old (line ∷ lines) text refused block new executed =
      shorter_by executed.2 executed.1 executed.0 lines text refused block new (λ rest later. lines_shorter executed.2 lines rest later block new) executed.4

  -- whatever the lines left print, by the callers as they are now, follows what was printed of those before
  pub record ExecutedSoFar (olds : List E) (commands rest : List (List ℕ)) (refused : Bool) (before after : Printing) (nows : List E) : Type 0 where
    pub text : List ℕ
    pub printed : Prints before text after
    pub whole : (blocks : ℕ) (more : List ℕ) (later : Bool) (news : List E) → AreAllExecuted calls blocks nows rest more later news → (all : ℕ) × AreAllExecuted calls all olds commands (text ++ more) (refused || later) news
    pub first : (blocks : ℕ) (more : List ℕ) (news : List E) → AreFirstExecuted calls blocks nows rest more news → (all : ℕ) × AreFirstExecuted calls all olds commands (text ++ more) news

  pub none_executed : (olds : List E) (commands : List (List ℕ)) (before : Printing) → ExecutedSoFar olds commands commands false before before olds
  none_executed olds commands before = record { text = []; printed = Appends-nil (as_list before); whole = λ blocks more later news executed. (blocks, executed); first = λ blocks more news executed. (blocks, executed) }

  -- lines up to a block, and the block
  pub record IsTurn (nows : List E) (rest : List (List ℕ)) (here some : Bool) (before after : Printing) (left : List (List ℕ)) (afters : List E) : Type 0 where
    pub old : E
    pub mid : E
    pub first : List ℕ
    pub block : List (List ℕ)
    pub own : List ℕ
    pub there : slice_get nows 0 ≡ Some old
    pub lines : AreLinesExecuted calls old rest first here (Some block) mid
    pub executed : IsBlockExecuted calls (set nows 0 mid) block own some left afters
    pub printed : Prints before (first ++ own) after

  pub turn_executed : (olds : List E) (commands rest : List (List ℕ)) (refused here some : Bool) (before mid after : Printing) (nows : List E) (left : List (List ℕ)) (afters : List E)
      → IsTurn nows rest here some mid after left afters → ExecutedSoFar olds commands rest refused before mid nows → ExecutedSoFar olds commands left ((refused || here) || some) before after afters
  turn_executed olds commands rest refused here some before mid after nows left afters turn so_far =
      let regroup = λ (more : List ℕ). append_assoc so_far.text (turn.first ++ turn.own) more ∙ ap (λ t. so_far.text ++ t) (append_assoc turn.first turn.own more) in
      let regroup_refused = λ (later : Bool). or_assoc (refused || here) some later ∙ or_assoc refused here (some || later) in
      record {
        text = so_far.text ++ (turn.first ++ turn.own);
        printed = Prints-trans before mid after so_far.text (turn.first ++ turn.own) so_far.printed turn.printed;
        whole = λ blocks more later news executed.
            let all = so_far.whole (suc blocks) (turn.first ++ (turn.own ++ more)) (here || (some || later)) news
            (turn.old, turn.mid, turn.first, here, Some turn.block, turn.there, turn.lines, (turn.own, some, left, afters, more, later, turn.executed, executed, refl, refl)) in (
              all.0,
              subst (λ t. AreAllExecuted calls all.0 olds commands t (((refused || here) || some) || later) news) (sym (regroup more))
                  (subst (λ r. AreAllExecuted calls all.0 olds commands (so_far.text ++ (turn.first ++ (turn.own ++ more))) r news) (sym (regroup_refused later)) all.1),
            );
        first = λ blocks more news executed.
            let all = so_far.first (suc blocks) (turn.first ++ (turn.own ++ more)) news
            (turn.old, turn.mid, turn.first, here, turn.block, turn.there, turn.lines, turn.own, some, left, afters, more, turn.executed, executed, refl) in
            (all.0, subst (λ t. AreFirstExecuted calls all.0 olds commands t news) (sym (regroup more)) all.1);
      }

  -- lines up to the end
  pub all_executed : (olds : List E) (commands rest : List ℕ) (refused here : Bool) (before mid after : Printing) (nows : List E) (old new : E) (text : List ℕ) → slice_get nows 0 ≡ Some old → AreLinesExecuted calls old (lines_of rest) text here None new → Prints mid text after
      → ExecutedSoFar olds (lines_of commands) (lines_of rest) refused before mid nows → ExecutesAll calls olds commands before (Ok (refused || here)) after (set nows 0 new)
  all_executed olds commands rest refused here before mid after nows old new text there lines prints so_far =
      let all = so_far.whole 1 text here (set nows 0 new) (old, new, text, here, None, there, lines, (refl, refl, refl)) in
      (all.0, so_far.text ++ text, all.1, Prints-trans before mid after so_far.text text so_far.printed prints)

  -- a block was the last
  pub none_left : (olds : List E) (commands : List ℕ) (refused : Bool) (before after : Printing) (nows : List E) → 0 < length nows → ExecutedSoFar olds (lines_of commands) [] refused before after nows → ExecutesAll calls olds commands before (Ok refused) after nows
  none_left olds commands refused before after nows some so_far =
      let first = some_there nows 0 some in
      let all = so_far.whole 1 [] false nows (first.0, first.0, [], false, None, first.1, (refl, refl, refl, refl), (refl, refl, sym (set_there nows 0 first.0 first.1))) in (
        all.0,
        so_far.text,
        subst (λ t. AreAllExecuted calls all.0 olds (lines_of commands) t refused nows) (append-nil so_far.text)
            (subst (λ r. AreAllExecuted calls all.0 olds (lines_of commands) (so_far.text ++ []) r nows) (or-false refused) all.1),
        so_far.printed,
      )

  -- a write failed at a line
  pub failed_at_line : (olds : List E) (commands rest : List ℕ) (refused : Bool) (error : RunError) (before mid after : Printing) (nows : List E) (old new : E) (text : List ℕ) → slice_get nows 0 ≡ Some old → FirstAreExecuted calls old (lines_of rest) text new → Prints mid text after
      → HoldsFront after → ExecutedSoFar olds (lines_of commands) (lines_of rest) refused before mid nows → ExecutesAll calls olds commands before (Err error) after (set nows 0 new)
  failed_at_line olds commands rest refused error before mid after nows old new text there done prints front so_far =
      let all = so_far.first 0 text (set nows 0 new) (old, new, there, done, refl) in
      (all.0, so_far.text ++ text, set nows 0 new, all.1, Prints-trans before mid after so_far.text text so_far.printed prints, front, λ _. refl)

  -- a write failed after a block
  pub failed_after_block : (olds : List E) (commands : List ℕ) (left : List (List ℕ)) (refused : Bool) (error : RunError) (before after : Printing) (nows : List E) → 0 < length nows → HoldsFront after
      → ExecutedSoFar olds (lines_of commands) left refused before after nows → ExecutesAll calls olds commands before (Err error) after nows
  failed_after_block olds commands left refused error before after nows some front so_far =
      let there = some_there nows 0 some in
      let all = so_far.first 0 [] nows (there.0, there.0, there.1, ([], left, refl, false, None, (refl, refl, refl, refl)), sym (set_there nows 0 there.0 there.1)) in
      (all.0, so_far.text, nows, subst (λ t. AreFirstExecuted calls all.0 olds (lines_of commands) t nows) (append-nil so_far.text) all.1, so_far.printed, front, λ _. refl)

  -- memory ran out in a block
  pub failed_in_block : (olds : List E) (commands rest : List ℕ) (refused here : Bool) (before mid after : Printing) (nows news : List E) (old new : E) (text : List ℕ) (block : List (List ℕ)) → slice_get nows 0 ≡ Some old
      → AreLinesExecuted calls old (lines_of rest) text here (Some block) new → Prints mid text after → HoldsFront after
      → ExecutedSoFar olds (lines_of commands) (lines_of rest) refused before mid nows → ExecutesAll calls olds commands before (Err Memory) after news
  failed_in_block olds commands rest refused here before mid after nows news old new text block there lines prints front so_far =
      let all = so_far.first 0 text (set nows 0 new) (old, new, there, (lines_of rest, [], sym (append-nil (lines_of rest)), here, Some block, lines), refl) in
      (all.0, so_far.text ++ text, set nows 0 new, all.1, Prints-trans before mid after so_far.text text so_far.printed prints, front, λ is. let never : ⊥ = cc (is) in absurd never)
