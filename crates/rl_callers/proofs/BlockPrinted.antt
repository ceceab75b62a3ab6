-- What was printed of a block so far.
use Rattle.std.proofs.Common.{◌≡◌, ℕ, ◌≤◌, Bool, true, false, ◌||◌, List, [], ◌∷◌, ◌++◌, map, length, Option, None, Some, refl, sym, ap, subst, ◌∙◌, append_assoc, append-nil, arith}
use Rattle.std.proofs.Math.Bool.{or_assoc, or-false}
use Rattle.std.proofs.KnownBytes.{Appends-nil, Appends-trans}
use Rattle.rl_session.specs.Engine.{Calls}
use Rattle.rl_session.specs.Front.{IsFirstLine, lines_of}
use Rattle.rl_session.specs.Printer.{Printing, Prints, as_list}
use Rattle.rl_session.specs.Session.{lines_left}
use Rattle.rl_callers.specs.Blocks.{ends_block, AreLeft, IsBlockExecuted, IsBlockLine, IsBlockRest}
use Rattle.rl_callers.specs.declared.runner.Runner.{Runner}
use Rattle.rl_callers.proofs.LinePrinted.{at_end, at_last}

-- the first line of a text, and those after it
pub lines_of-first : (text line : List ℕ) (following : Option (List ℕ)) → IsFirstLine text line following → lines_of text ≡ line ∷ lines_left following
lines_of-first text line None first = first
lines_of-first text line (Some following) first = first.0

module _ {E : Type 0} (calls : Calls E) where
  -- whatever the lines left print, with the callers as they are now, follows what was printed of those before
  pub record PrintedSoFar (olds : List E) (block rest : List (List ℕ)) (refused : Bool) (before after : Printing) (callers : List (Runner E)) : Type 0 where
    pub text : List ℕ
    pub mids : List E
    pub printed : Prints before text after
    pub left : AreLeft calls mids rest callers
    pub whole : (more : List ℕ) (later : Bool) (remaining : List (List ℕ)) (news : List E) → IsBlockExecuted calls mids rest more later remaining news → IsBlockExecuted calls olds block (text ++ more) (refused || later) remaining news

  pub none_printed : (olds : List E) (block : List (List ℕ)) (before : Printing) (callers : List (Runner E)) → AreLeft calls olds block callers → PrintedSoFar olds block block false before before callers
  none_printed olds block before callers left = record { text = []; mids = olds; printed = Appends-nil (as_list before); left = left; whole = λ more later remaining news executed. executed }

  -- a line that does not end the block, and those after it
  line_and_others : (olds mids : List E) (line first more : List ℕ) (lines : List (List ℕ)) (here later : Bool) (remaining : List (List ℕ)) (news : List E) → ends_block line ≡ false → IsBlockLine calls olds line first here mids
      → IsBlockExecuted calls mids lines more later remaining news → IsBlockExecuted calls olds (line ∷ lines) (first ++ more) (here || later) remaining news
  line_and_others olds mids line first more lines here later remaining news goes executed others =
      subst (λ b. IsBlockRest calls b olds line lines (λ mids. IsBlockExecuted calls mids lines) (first ++ more) (here || later) remaining news) (sym goes)
      (first, here, mids, more, later, executed, others, refl, refl)

  -- a line more is printed
  pub line_printed : (olds : List E) (block rest : List (List ℕ)) (line : List ℕ) (lines : List (List ℕ)) (refused here : Bool) (before mid after : Printing) (callers nows : List (Runner E)) → rest ≡ line ∷ lines → ends_block line ≡ false
      → ((mids : List E) (lines : List (List ℕ)) → ends_block line ≡ false → AreLeft calls mids (line ∷ lines) callers → (text : List ℕ) × (afters : List E) × IsBlockLine calls mids line text here afters × AreLeft calls afters lines nows × Prints mid text after)
      → PrintedSoFar olds block rest refused before mid callers → PrintedSoFar olds block lines (refused || here) before after nows
  line_printed olds block rest line lines refused here before mid after callers nows split goes prints so_far =
      let printed = prints so_far.mids lines goes (subst (λ lines. AreLeft calls so_far.mids lines callers) split so_far.left) in
      record {
        text = so_far.text ++ printed.0;
        mids = printed.1;
        printed = Appends-trans (as_list before) (as_list mid) (as_list after) so_far.text printed.0 so_far.printed printed.4;
        left = printed.3;
        whole = λ more later remaining news others.
            subst (λ t. IsBlockExecuted calls olds block t ((refused || here) || later) remaining news) (sym (append_assoc so_far.text printed.0 more))
            (subst (λ r. IsBlockExecuted calls olds block (so_far.text ++ (printed.0 ++ more)) r remaining news) (sym (or_assoc refused here later))
            (so_far.whole (printed.0 ++ more) (here || later) remaining news
            (subst (λ lines. IsBlockExecuted calls so_far.mids lines (printed.0 ++ more) (here || later) remaining news) (sym split)
            (line_and_others so_far.mids printed.1 line printed.0 more lines here later remaining news goes printed.2 others))));
      }

  -- nothing more is printed of the block
  ended : (olds : List E) (block rest lines : List (List ℕ)) (refused : Bool) (before after : Printing) (callers : List (Runner E)) (so_far : PrintedSoFar olds block rest refused before after callers) → map (λ caller. caller.engine) callers ≡ so_far.mids
      → IsBlockExecuted calls so_far.mids rest [] false lines so_far.mids → (text : List ℕ) × IsBlockExecuted calls olds block text refused lines (map (λ caller. caller.engine) callers) × Prints before text after
  ended olds block rest lines refused before after callers so_far engines executed = (
    so_far.text,
    subst (λ news. IsBlockExecuted calls olds block so_far.text refused lines news) (sym engines)
        (subst (λ r. IsBlockExecuted calls olds block so_far.text r lines so_far.mids) (or-false refused)
        (subst (λ t. IsBlockExecuted calls olds block t (refused || false) lines so_far.mids) (append-nil so_far.text)
        (so_far.whole [] false lines so_far.mids executed))),
    so_far.printed,
  )

  -- a line ends the block
  pub block_ended : (olds : List E) (block rest : List (List ℕ)) (line : List ℕ) (lines : List (List ℕ)) (refused : Bool) (before after : Printing) (callers : List (Runner E)) → rest ≡ line ∷ lines → ends_block line ≡ true
      → PrintedSoFar olds block rest refused before after callers → (text : List ℕ) × IsBlockExecuted calls olds block text refused lines (map (λ caller. caller.engine) callers) × Prints before text after
  block_ended olds block rest line lines refused before after callers split ends so_far =
      ended olds block rest lines refused before after callers so_far
      (at_end calls so_far.mids line lines callers ends (subst (λ lines. AreLeft calls so_far.mids lines callers) split so_far.left))
      (subst (λ rest. IsBlockExecuted calls so_far.mids rest [] false lines so_far.mids) (sym split)
      (subst (λ b. IsBlockRest calls b so_far.mids line lines (λ mids. IsBlockExecuted calls mids lines) [] false lines so_far.mids) (sym ends) (refl, refl, refl, refl)))

  -- no line is left
  pub block_done : (olds : List E) (block : List (List ℕ)) (refused : Bool) (before after : Printing) (callers : List (Runner E))
      → PrintedSoFar olds block [] refused before after callers → (text : List ℕ) × IsBlockExecuted calls olds block text refused [] (map (λ caller. caller.engine) callers) × Prints before text after
  block_done olds block refused before after callers so_far = ended olds block [] [] refused before after callers so_far (at_last calls so_far.mids callers so_far.left) (refl, refl, refl, refl)

  -- whichever engines the callers had at the start of a block, and that no engine changes
  pub record IsBlockSoFar (block rest : List (List ℕ)) (refused : Bool) (before after : Printing) (start nows : List (Runner E)) : Type 0 where
    pub printed : (olds : List E) → AreLeft calls olds block start → PrintedSoFar olds block rest refused before after nows
    pub engines : map (λ caller. caller.engine) nows ≡ map (λ caller. caller.engine) start

  pub block_begun : (block : List (List ℕ)) (before : Printing) (start : List (Runner E)) → IsBlockSoFar block block false before before start start
  block_begun block before start = record { printed = λ olds left. none_printed olds block before start left; engines = refl }

  pub block_goes_on : (block rest : List (List ℕ)) (line : List ℕ) (lines : List (List ℕ)) (refused here : Bool) (before mid after : Printing) (start callers nows : List (Runner E)) → rest ≡ line ∷ lines → ends_block line ≡ false
      → ((mids : List E) (lines : List (List ℕ)) → ends_block line ≡ false → AreLeft calls mids (line ∷ lines) callers → (text : List ℕ) × (afters : List E) × IsBlockLine calls mids line text here afters × AreLeft calls afters lines nows × Prints mid text after)
      → map (λ caller. caller.engine) nows ≡ map (λ caller. caller.engine) callers → IsBlockSoFar block rest refused before mid start callers → IsBlockSoFar block lines (refused || here) before after start nows
  block_goes_on block rest line lines refused here before mid after start callers nows split goes prints engines so_far = record {
    printed = λ olds left. line_printed olds block rest line lines refused here before mid after callers nows split goes prints (so_far.printed olds left);
    engines = engines ∙ so_far.engines;
  }

  pub block_ends : (block rest : List (List ℕ)) (line : List ℕ) (lines : List (List ℕ)) (refused : Bool) (before after : Printing) (start callers : List (Runner E)) → rest ≡ line ∷ lines → ends_block line ≡ true → IsBlockSoFar block rest refused before after start callers
      → (olds : List E) → AreLeft calls olds block start → (text : List ℕ) × IsBlockExecuted calls olds block text refused lines (map (λ caller. caller.engine) callers) × Prints before text after
  block_ends block rest line lines refused before after start callers split ends so_far olds left = block_ended olds block rest line lines refused before after callers split ends (so_far.printed olds left)

  pub block_is_done : (block : List (List ℕ)) (refused : Bool) (before after : Printing) (start callers : List (Runner E)) → IsBlockSoFar block [] refused before after start callers
      → (olds : List E) → AreLeft calls olds block start → (text : List ℕ) × IsBlockExecuted calls olds block text refused [] (map (λ caller. caller.engine) callers) × Prints before text after
  block_is_done block refused before after start callers so_far olds left = block_done olds block refused before after callers (so_far.printed olds left)

  -- of a block not more is left than there was
  rest_shorter : (ends : Bool) (olds : List E) (line : List ℕ) (lines : List (List ℕ)) (text : List ℕ) (refused : Bool) (left : List (List ℕ)) (news : List E) → ((mids : List E) (text : List ℕ) (refused : Bool) → IsBlockExecuted calls mids lines text refused left news → length left ≤ length lines)
      → IsBlockRest calls ends olds line lines (λ mids. IsBlockExecuted calls mids lines) text refused left news → length left ≤ length (line ∷ lines)
  rest_shorter true olds line lines text refused left news shorter rest = omega (arith, ap length rest.2)
  rest_shorter false olds line lines text refused left news shorter rest = omega (arith, shorter rest.2 rest.3 rest.4 rest.6)

  pub block_shorter : (olds : List E) (lines : List (List ℕ)) (text : List ℕ) (refused : Bool) (left : List (List ℕ)) (news : List E) → IsBlockExecuted calls olds lines text refused left news → length left ≤ length lines
  block_shorter olds [] text refused left news executed = omega (arith, ap length executed.2)
  block_shorter olds (line ∷ lines) text refused left news executed =
      rest_shorter (ends_block line) olds line lines text refused left news (λ mids text refused. block_shorter mids lines text refused left news) executed
