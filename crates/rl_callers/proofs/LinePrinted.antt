-- The replies of callers to the lines of a block, one line after the other.
use Rattle.std.proofs.Common.{◌≡◌, ◌≢◌, ℕ, suc, ◌+◌, ◌<◌, Bool, true, false, cond, inl, inr, List, [], ◌∷◌, ◌++◌, map, length, drop, set, slice_get, Option, None, Some, IfSome, option_map, codes, refl, sym, ap, ap₂, subst, ◌∙◌, ltb, ltb-true, eq-eqb, ne_eqb, arith, length-set}
use Rattle.std.specs.List.{list_all}
use Rattle.std.proofs.KnownBytes.{Appends-nil}
use Rattle.std.proofs.lemmas.Bool.{cases_eq}
use Rattle.std.proofs.lemmas.List.{map-set}
use Rattle.std.proofs.lemmas.Option.{MatchOption-at_some, cond_some, option_and_then_some, none-some, slice_get-map}
use Rattle.rl_labels.specs.Decimals.{number_of}
use Rattle.rl_session.specs.Command.{command_in_block, cut_at, is_blank_byte}
use Rattle.rl_session.specs.Engine.{Calls}
use Rattle.rl_session.specs.Printed.{refusal_line}
use Rattle.rl_session.specs.Printer.{Printing, Prints, as_list}
use Rattle.rl_session.specs.Session.{IsExecuted, is_refusal}
use Rattle.rl_session.specs.declared.output.Answer.{Answer}
use Rattle.rl_callers.specs.Blocks.{caller_of, caller_of_words, ends_block, own_command, own_commands, AreOwnExecuted, AreLeft, IsBlockLine, IsOfCaller}
use Rattle.rl_callers.specs.declared.runner.Reply.{Reply}
use Rattle.rl_callers.specs.declared.runner.Runner.{Runner}
use Rattle.rl_callers.proofs.Places.{drop_first, set_there, some_there, slice_get-set_same, slice_get-set_other}

-- a caller of a line is one of so many
pub caller_of_within : (callers : ℕ) (line : List ℕ) (number : ℕ) (command : List ℕ) → caller_of callers line ≡ Some (number, command) → number < callers
caller_of_within callers line number command is =
    option_and_then_some (caller_of_words callers) (cut_at 32 line) (number, command) is (λ words cut of_words.
    option_and_then_some (λ n. cond (ltb n callers) (Some (n, words.1)) None) (number_of 19 words.0) (number, command) of_words (λ n of_word chosen.
    let parts = cond_some (ltb n callers) (n, words.1) (number, command) chosen in
    let same : n ≡ number = ap (λ (p : ℕ × List ℕ). p.0) parts.1 in
    subst (λ m. m < callers) same (ltb-true n callers parts.0)))

-- the commands of a caller, by the first line
own_at_end : (callers number : ℕ) (line : List ℕ) (lines : List (List ℕ)) → ends_block line ≡ true → own_commands callers number (line ∷ lines) ≡ []
own_at_end callers number line lines ends = ap (λ b. cond b [] (own_command number (caller_of callers line) ++ own_commands callers number lines)) ends

own_before_end : (callers number : ℕ) (line : List ℕ) (lines : List (List ℕ)) → ends_block line ≡ false → own_commands callers number (line ∷ lines) ≡ own_command number (caller_of callers line) ++ own_commands callers number lines
own_before_end callers number line lines goes = ap (λ b. cond b [] (own_command number (caller_of callers line) ++ own_commands callers number lines)) goes

own_without : (callers number : ℕ) (line : List ℕ) (lines : List (List ℕ)) → ends_block line ≡ false → caller_of callers line ≡ None → own_commands callers number (line ∷ lines) ≡ own_commands callers number lines
own_without callers number line lines goes none = own_before_end callers number line lines goes ∙ ap (λ own. own_command number own ++ own_commands callers number lines) none

own_same : (callers number : ℕ) (line command : List ℕ) (lines : List (List ℕ)) → ends_block line ≡ false → caller_of callers line ≡ Some (number, command) → own_commands callers number (line ∷ lines) ≡ command ∷ own_commands callers number lines
own_same callers number line command lines goes is =
    own_before_end callers number line lines goes ∙ ap (λ own. own_command number own ++ own_commands callers number lines) is
    ∙ ap (λ b. cond b (command ∷ []) [] ++ own_commands callers number lines) (eq-eqb number number refl)

own_other : (callers number other : ℕ) (line command : List ℕ) (lines : List (List ℕ)) → ends_block line ≡ false → caller_of callers line ≡ Some (number, command) → other ≢ number → own_commands callers other (line ∷ lines) ≡ own_commands callers other lines
own_other callers number other line command lines goes is differs =
    own_before_end callers other line lines goes ∙ ap (λ own. own_command other own ++ own_commands callers other lines) is
    ∙ ap (λ b. cond b (command ∷ []) [] ++ own_commands callers other lines) (ne_eqb number other (λ same. differs (sym same)))

module _ {E : Type 0} (calls : Calls E) where
  -- the first reply is that of the first command
  pub record IsFirstReply (old : E) (command : List ℕ) (commands : List (List ℕ)) (replies : List Reply) (new : E) : Type 0 where
    pub reply : Reply
    pub rest : List Reply
    pub split : replies ≡ reply ∷ rest
    pub answer : Answer
    pub mid : E
    pub executed : IsExecuted calls old (command_in_block command) reply.text.items answer mid
    pub refused : reply.refused ≡ is_refusal answer
    pub later : AreOwnExecuted calls mid commands rest new

  first_reply : (old : E) (command : List ℕ) (commands : List (List ℕ)) (replies : List Reply) (new : E) → AreOwnExecuted calls old (command ∷ commands) replies new → IsFirstReply old command commands replies new
  first_reply old command commands [] new own = absurd own
  first_reply old command commands (reply ∷ rest) new own = record { reply = reply; rest = rest; split = refl; answer = own.0; mid = own.1; executed = own.2; refused = own.3; later = own.4 }

  -- no command, and nothing changes
  none_own : (old : E) (replies : List Reply) (new : E) → AreOwnExecuted calls old [] replies new → new ≡ old
  none_own old [] new own = own
  none_own old (reply ∷ replies) new own = absurd own

  -- what is left of a caller
  abbrev pub IsLeft : List (List ℕ) → Option (Runner E) → Option E → Type 0
  IsLeft commands caller old = IfSome caller (λ caller. IfSome old (λ old. AreOwnExecuted calls old commands (drop caller.printed caller.replies.items) caller.engine))

  -- nothing is left of any caller
  engines_left : (olds : List E) (callers : List (Runner E)) → length olds ≡ length callers → ((number : ℕ) → IsLeft [] (slice_get callers number) (slice_get olds number)) → map (λ caller. caller.engine) callers ≡ olds
  engines_left [] [] same left = refl
  engines_left [] (caller ∷ callers) same left = absurd (omega (arith, same))
  engines_left (old ∷ olds) [] same left = absurd (omega (arith, same))
  engines_left (old ∷ olds) (caller ∷ callers) same left =
      ap₂ (λ e es. e ∷ es) (none_own old (drop caller.printed caller.replies.items) caller.engine (left 0)) (engines_left olds callers (omega (arith, same)) (λ number. left (suc number)))

  -- at the end of a block the callers are as its lines left them
  pub at_end : (olds : List E) (line : List ℕ) (lines : List (List ℕ)) (callers : List (Runner E)) → ends_block line ≡ true → AreLeft calls olds (line ∷ lines) callers → map (λ caller. caller.engine) callers ≡ olds
  at_end olds line lines callers ends left =
      engines_left olds callers left.0 (λ number. subst (λ commands. IsLeft commands (slice_get callers number) (slice_get olds number)) (own_at_end (length callers) number line lines ends) (left.1 number))

  pub at_last : (olds : List E) (callers : List (Runner E)) → AreLeft calls olds [] callers → map (λ caller. caller.engine) callers ≡ olds
  at_last olds callers left = engines_left olds callers left.0 left.1

  -- a line without a caller
  pub left_without : (olds : List E) (line : List ℕ) (lines : List (List ℕ)) (callers : List (Runner E)) → ends_block line ≡ false → caller_of (length callers) line ≡ None → AreLeft calls olds (line ∷ lines) callers → AreLeft calls olds lines callers
  left_without olds line lines callers goes none left =
      (left.0, λ number. subst (λ commands. IsLeft commands (slice_get callers number) (slice_get olds number)) (own_without (length callers) number line lines goes none) (left.1 number))

  -- a caller that printed one reply more
  left_more : (caller after : Runner E) (mid : E) (commands : List (List ℕ)) (reply : Reply) (rest : List Reply) → drop caller.printed caller.replies.items ≡ reply ∷ rest → after.printed ≡ caller.printed + 1 → after.replies ≡ caller.replies → after.engine ≡ caller.engine
      → AreOwnExecuted calls mid commands rest caller.engine → AreOwnExecuted calls mid commands (drop after.printed after.replies.items) after.engine
  left_more caller after mid commands reply rest split printed replies engine own =
      let next : after.printed ≡ suc caller.printed = omega (arith, printed) in
      let here : drop after.printed after.replies.items ≡ rest =
      ap (λ n. drop n after.replies.items) next ∙ ap (λ r. drop (suc caller.printed) r.items) replies ∙ (drop_first caller.printed caller.replies.items reply rest split).1 in
      subst (λ replies. AreOwnExecuted calls mid commands replies after.engine) (sym here) (subst (AreOwnExecuted calls mid commands rest) (sym engine) own)

  -- what a line of a block printed, and the callers after it
  pub record IsLinePrinted (olds : List E) (line : List ℕ) (lines : List (List ℕ)) (refused : Bool) (before after : Printing) (callers : List (Runner E)) : Type 0 where
    pub text : List ℕ
    pub mids : List E
    pub executed : IsBlockLine calls olds line text refused mids
    pub left : AreLeft calls mids lines callers
    pub printed : Prints before text after

  -- what is known of the caller of a line, where it has one
  pub record IsCallerLeft (olds : List E) (lines : List (List ℕ)) (callers : List (Runner E)) (number : ℕ) (command : List ℕ) (caller : Runner E) : Type 0 where
    pub old : E
    pub old_is : slice_get olds number ≡ Some old
    pub next : IsFirstReply old command (own_commands (length callers) number lines) (drop caller.printed caller.replies.items) caller.engine

  caller_left : (olds : List E) (line : List ℕ) (lines : List (List ℕ)) (callers : List (Runner E)) (number : ℕ) (command : List ℕ) (caller : Runner E) → ends_block line ≡ false → caller_of (length callers) line ≡ Some (number, command)
      → slice_get callers number ≡ Some caller → AreLeft calls olds (line ∷ lines) callers → IsCallerLeft olds lines callers number command caller
  caller_left olds line lines callers number command caller goes is there left =
      elim (slice_get olds number) as (λ old. slice_get olds number ≡ old → IsLeft (own_commands (length callers) number (line ∷ lines)) (slice_get callers number) old → IsCallerLeft olds lines callers number command caller) [
        | None ↦ λ none _.
            let within : number < length callers = caller_of_within (length callers) line number command is in
            let old = some_there olds number (omega (arith, left.0)) in
            absurd (none-some old.0 (sym none ∙ old.1))
        | Some old ↦ λ old_is own.
            let here = subst (λ c. IsLeft (own_commands (length callers) number (line ∷ lines)) c (Some old)) there own in
            let own_here = subst (λ commands. AreOwnExecuted calls old commands (drop caller.printed caller.replies.items) caller.engine) (own_same (length callers) number line command lines goes is) here in
            record { old = old; old_is = old_is; next = first_reply old command (own_commands (length callers) number lines) (drop caller.printed caller.replies.items) caller.engine own_here }
      ] refl (left.1 number)

  -- the replies that are left, after one of a caller's was printed
  left_after : (olds : List E) (line : List ℕ) (lines : List (List ℕ)) (callers : List (Runner E)) (number : ℕ) (command : List ℕ) (caller after : Runner E) (known : IsCallerLeft olds lines callers number command caller) → ends_block line ≡ false
      → caller_of (length callers) line ≡ Some (number, command) → number < length callers → number < length olds → after.printed ≡ caller.printed + 1 → after.replies ≡ caller.replies → after.engine ≡ caller.engine
      → ((other : ℕ) → IsLeft (own_commands (length callers) other (line ∷ lines)) (slice_get callers other) (slice_get olds other))
      → (other : ℕ) → IsLeft (own_commands (length callers) other lines) (slice_get (set callers number after) other) (slice_get (set olds number known.next.mid) other)
  left_after olds line lines callers number command caller after known goes is within within_olds printed replies engine left other =
      elim (cases_eq other number) [
        | inl same ↦
            subst (λ k. IsLeft (own_commands (length callers) k lines) (slice_get (set callers number after) k) (slice_get (set olds number known.next.mid) k)) (sym same)
            (subst (λ c. IsLeft (own_commands (length callers) number lines) c (slice_get (set olds number known.next.mid) number)) (sym (slice_get-set_same callers number after within))
            (subst (λ e. IsLeft (own_commands (length callers) number lines) (Some after) e) (sym (slice_get-set_same olds number known.next.mid within_olds))
            (left_more caller after known.next.mid (own_commands (length callers) number lines) known.next.reply known.next.rest known.next.split printed replies engine known.next.later)))
        | inr differs ↦
            subst (λ c. IsLeft (own_commands (length callers) other lines) c (slice_get (set olds number known.next.mid) other)) (sym (slice_get-set_other callers number other after differs))
            (subst (λ e. IsLeft (own_commands (length callers) other lines) (slice_get callers other) e) (sym (slice_get-set_other olds number other known.next.mid differs))
            (subst (λ commands. IsLeft commands (slice_get callers other) (slice_get olds other)) (own_other (length callers) number other line command lines goes is differs) (left other)))
      ]

  -- the next reply of a line's caller is printed
  pub printed_next : (olds : List E) (line : List ℕ) (lines : List (List ℕ)) (callers : List (Runner E)) (number : ℕ) (command : List ℕ) (caller after : Runner E) (refused : Bool) (before out : Printing)
      → caller_of (length callers) line ≡ Some (number, command) → slice_get callers number ≡ Some caller → ends_block line ≡ false → AreLeft calls olds (line ∷ lines) callers
      → IfSome (slice_get caller.replies.items caller.printed) (λ reply. (refused ≡ reply.refused) × Prints before reply.text.items out × (after.printed ≡ caller.printed + 1))
      → (after.replies ≡ caller.replies) × (after.engine ≡ caller.engine) → IsLinePrinted olds line lines refused before out (set callers number after)
  printed_next olds line lines callers number command caller after refused before out is there goes left reply kept =
      let known = caller_left olds line lines callers number command caller goes is there left in
      let next = known.next in
      let first = drop_first caller.printed caller.replies.items next.reply next.rest next.split in
      let said = MatchOption-at_some (Unit {0}) (λ reply. (refused ≡ reply.refused) × Prints before reply.text.items out × (after.printed ≡ caller.printed + 1)) next.reply first.0 reply in
      let within : number < length callers = caller_of_within (length callers) line number command is in
      let same : length (set olds number next.mid) ≡ length (set callers number after) = length-set olds number next.mid ∙ left.0 ∙ sym (length-set callers number after) in
      let after_left = left_after olds line lines callers number command caller after known goes is within (omega (arith, left.0)) said.2 kept.0 kept.1 left.1 in
      record {
        text = next.reply.text.items;
        mids = set olds number next.mid;
        executed = subst (λ own. IsOfCaller calls own (list_all is_blank_byte line) olds next.reply.text.items refused (set olds number next.mid)) (sym (ap (λ n. caller_of n line) left.0 ∙ is))
            (known.old, next.mid, next.answer, known.old_is, next.executed, said.0 ∙ next.refused, refl);
        left = (same, λ other. subst (λ n. IsLeft (own_commands n other lines) (slice_get (set callers number after) other) (slice_get (set olds number next.mid) other)) (sym (length-set callers number after)) (after_left other));
        printed = said.1;
      }

  -- a line without a caller, blank or not
  pub printed_blank : (olds : List E) (line : List ℕ) (lines : List (List ℕ)) (callers : List (Runner E)) (before : Printing) → caller_of (length callers) line ≡ None → list_all is_blank_byte line ≡ true → ends_block line ≡ false
      → AreLeft calls olds (line ∷ lines) callers → IsLinePrinted olds line lines false before before callers
  printed_blank olds line lines callers before none blank goes left = record {
    text = [];
    mids = olds;
    executed = subst (λ own. IsOfCaller calls own (list_all is_blank_byte line) olds [] false olds) (sym (ap (λ n. caller_of n line) left.0 ∙ none))
        (subst (λ b. IsOfCaller calls None b olds [] false olds) (sym blank) (refl, refl, refl));
    left = left_without olds line lines callers goes none left;
    printed = Appends-nil (as_list before);
  }

  pub printed_refusal : (olds : List E) (line : List ℕ) (lines : List (List ℕ)) (callers : List (Runner E)) (before after : Printing) → caller_of (length callers) line ≡ None → list_all is_blank_byte line ≡ false → ends_block line ≡ false
      → AreLeft calls olds (line ∷ lines) callers → Prints before (refusal_line (codes "BadCommand")) after → IsLinePrinted olds line lines true before after callers
  printed_refusal olds line lines callers before after none text goes left prints = record {
    text = refusal_line (codes "BadCommand");
    mids = olds;
    executed = subst (λ own. IsOfCaller calls own (list_all is_blank_byte line) olds (refusal_line (codes "BadCommand")) true olds) (sym (ap (λ n. caller_of n line) left.0 ∙ none))
        (subst (λ b. IsOfCaller calls None b olds (refusal_line (codes "BadCommand")) true olds) (sym text) (refl, refl, refl));
    left = left_without olds line lines callers goes none left;
    printed = prints;
  }

-- a caller that changed without its engine
pub engines_kept : {E : Type 0} (callers : List (Runner E)) (number : ℕ) (caller after : Runner E) → slice_get callers number ≡ Some caller → after.engine ≡ caller.engine → map (λ caller. caller.engine) (set callers number after) ≡ map (λ caller. caller.engine) callers
engines_kept callers number caller after there kept =
    map-set (λ caller. caller.engine) callers number after ∙ ap (set (map (λ caller. caller.engine) callers) number) kept
    ∙ set_there (map (λ caller. caller.engine) callers) number caller.engine (slice_get-map (λ caller. caller.engine) callers number ∙ ap (option_map (λ caller. caller.engine)) there)
