-- Definitions, computed where no running session shows them.
use Rattle.std.specs.Prelude.{codes}
use Rattle.std.specs.Fmt.{digits}
use Rattle.std.proofs.Common.{◌≡◌, ℕ, true, false, List, [], ◌∷◌, None, Some, Ok, Err, inl, refl, sym, subst, arith}
use Rattle.rl_world.specs.declared.fault.BookFault.TheVariants as books
use Rattle.rl_world.specs.declared.fault.Refusal.TheVariants as refusals
use Rattle.rl_session.specs.Asking.{IsForPush, IsForEvaluation, EvaluatesDue}
use Rattle.rl_session.specs.Command.{pushes, evaluates}
use Rattle.rl_session.specs.Engine.{Calls, number_named}
use Rattle.rl_session.specs.Front.{IsCut}
use Rattle.rl_session.specs.Names.{refusal_name}
use Rattle.rl_session.specs.Printed.{pushed_text, asked_text}
use Rattle.rl_session.specs.PushBody.{entries_of}
use Rattle.rl_session.specs.PushForms.{EntryForm}
use Rattle.rl_session.specs.Reading.{Reads, ReadsAll}
use Rattle.rl_session.specs.Session.{IsBlockBegun, IsExecuted, AreLinesExecuted}
use Rattle.rl_session.specs.declared.output.Answer.TheVariants.{Refused, Block, Ended}
use Rattle.rl_session.specs.declared.output.CommandResult.TheVariants as command_results
use Rattle.rl_session.specs.declared.front.fault.FrontFault.TheVariants as fronts

cut_round_a_mark : IsCut (codes "d\n%%\nc") (codes "d\n", codes "c")
cut_round_a_mark = inl refl

read_in_two_turns : Reads 4 (Some (codes "abc")) (Some []) (Ok (codes "abc"))
read_in_two_turns = (codes "ab" ∷ codes "c" ∷ [], omega arith, refl, (refl, omega arith, refl))

not_read_past_the_longest : Reads 2 (Some (codes "abc")) (Some []) (Ok (codes "abc")) → ⊥
not_read_past_the_longest reads = absurd (omega (arith, reads.3.1))

reading_never_reports_the_mark : Reads 2 (Some []) (Some []) (Err fronts.NoMark) → ⊥
reading_never_reports_the_mark reads = reads.3

no_mark_past_the_longest : ReadsAll 4 (codes "abcde") (Err fronts.NoMark) → ⊥
no_mark_past_the_longest said = absurd (omega (arith, said.0))

name_of_a_busy_book : refusal_name (refusals.Book books.Busy) ≡ codes "Busy"
name_of_a_busy_book = refl

pushes_refused_for_a_store : pushed_text (Err refusals.Fault ∷ Err refusals.Damaged ∷ []) ≡ codes "accepted 0 refused 2\n  0 Fault\n  1 Damaged\n"
unfolding digits
pushes_refused_for_a_store = refl

refused_by_the_second_shard : asked_text (Err (record { done = 1; refusal = refusals.NumbersSpent })) ≡ codes "partly 1 NumbersSpent\n"
unfolding digits
refused_by_the_second_shard = refl

module _ {E : Type 0} (calls : Calls E) where
  push_without_memory : (engine : E) (json : List ℕ) (form : EntryForm) → entries_of json ≡ Ok (form ∷ []) → IsExecuted calls engine (Some (pushes json)) (codes "accepted 0 refused 1\n  0 Memory\n") Refused engine
  unfolding digits
  push_without_memory engine json form read = (command_results.Unpushed 1, subst (λ read. IsForPush calls engine read (command_results.Unpushed 1) engine) (sym read) (refl, refl), (refl, refl))

  evaluation_refused : (old new : E) (group : List ℕ) → number_named group (calls.groups old) ≡ Some 0 → calls.evaluates old 0 5 (Err refusals.Memory) new → IsExecuted calls old (Some (evaluates 5 group)) (codes "refused Memory\n") Refused new
  evaluation_refused old new group named evaluated = (command_results.Evaluated (Err refusals.Memory), subst (λ number. IsForEvaluation calls old 5 number (command_results.Evaluated (Err refusals.Memory)) new) (sym named) (evaluated, tt), (refl, refl))

  tick_that_goes_on : (old mid new : E) → calls.is_due old 0 9 true → calls.evaluates old 0 9 (Err refusals.JournalFull) mid → calls.is_due mid 1 9 true → calls.evaluates mid 1 9 (Err refusals.Memory) new
      → EvaluatesDue calls old 9 0 2 (Err refusals.JournalFull ∷ Err refusals.Memory ∷ []) new
  tick_that_goes_on old mid new first full second wanted =
      (true, first, (Err refusals.JournalFull, mid, Err refusals.Memory ∷ [], (full, tt), refl, (true, second, (Err refusals.Memory, new, [], (wanted, tt), refl, (refl, refl)))))

  nothing_executed_after_an_end : (engine : E) → AreLinesExecuted calls engine (codes "end" ∷ codes "nonsense" ∷ []) [] false None engine
  nothing_executed_after_an_end engine = ([], Ended, engine, (refl, refl, refl), (refl, refl, refl, refl))

  lines_left_where_a_block_begins : (engine : E) → calls.blocks ≡ true → AreLinesExecuted calls engine (codes "par" ∷ codes "cut" ∷ codes "end" ∷ []) [] false (Some (codes "cut" ∷ codes "end" ∷ [])) engine
  lines_left_where_a_block_begins engine takes = ([], Block, engine, subst (λ takes. IsBlockBegun takes engine [] Block engine) (sym takes) (refl, refl, refl), (refl, refl, refl, refl))
