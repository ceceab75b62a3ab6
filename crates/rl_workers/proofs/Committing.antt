-- Evaluations that are complete, and what is left of those that are not committed.
use Rattle.std.proofs.Common.{◌≡◌, ◌⊎◌, inl, inr, ℕ, nat_le, Bool, true, false, cond, List, [], ◌∷◌, map, length, Option, None, Some, Result, Ok, Err, OnOk, OnErr, IfSome, is_some, refl, sym, ap, subst, ◌∙◌}
use Rattle.std.proofs.lemmas.List.{append-nil}
use Rattle.std.specs.List.{flat_map, list_all}
use Rattle.std.specs.Option.{option_to_list}
use Rattle.rl_aggregate.specs.declared.partial.Partial.{Partial}
use Rattle.rl_plain.specs.declared.refusal.OrMemory.{OrMemory}
use Rattle.rl_plain.specs.declared.refusal.OrMemory.TheVariants as errors
use Rattle.rl_rules.specs.declared.evaluation.Evaluation.{Evaluation}
use Rattle.rl_world.specs.BookCalls.{Answers, Refuses, with_history}
use Rattle.rl_world.specs.History.{History, abandon_fault, abandoned, alerts_of, begin_fault, closing_fault, commit_fault, committed, is_session_full, last_moment, not_later}
use Rattle.rl_world.specs.Kept.{evaluation_from}
use Rattle.rl_world.specs.WorldState.{BookState}
use Rattle.rl_world.specs.declared.fault.BookFault.{BookFault}
use Rattle.rl_world.specs.declared.fault.BookFault.TheVariants as book_faults
use Rattle.rl_world.specs.declared.opened.Gathered.{Gathered}
use Rattle.rl_world.specs.declared.opened.OpenEvaluation.{OpenEvaluation}
use Rattle.rl_world.specs.declared.step.Committed.{Committed}
use Rattle.rl_workers.specs.Receipts.{PassView}
use Rattle.rl_audit.proofs.Answered.{given_all}
use Rattle.rl_audit.specs.Driven.{opened_with, with_open}
use Rattle.rl_workers.specs.Seats.{late_fault, refusal_to_begin, refusal_to_commit, AreGathered, IsCommitted, IsLeftOpen, IsNotBegun, IsNotEvaluated, IsNotGathered, IsRefusedAfter, MayNotBegin, MayNotCommit}
use Rattle.rl_workers.specs.declared.fault.EvaluationFault.{EvaluationFault}
use Rattle.rl_workers.specs.declared.fault.EvaluationFault.TheVariants as evaluations

abbrev Answer : Type 0
Answer = Gathered (List Partial)

some_is : {X : Type 0} (a b : X) → Some a ≡ Some b → a ≡ b
some_is a b h = cc

none_some : {X : Type 0} (x : X) → None ≡ Some x → ⊥
none_some x h = cc

-- BEGINNING

-- where none is open only a moment that is not later is refused
begin_is : (history : History (List Partial)) (t : ℕ) → is_some history.opened ≡ false → begin_fault history t ≡ not_later (last_moment history) t
begin_is history t closed = ap (λ b. cond b (Some book_faults.Busy) (not_later (last_moment history) t)) closed

late_is : (last : ℕ) (late : Bool) (fault : BookFault) → cond late (Some (book_faults.MomentNotLater last)) None ≡ Some fault → fault ≡ book_faults.MomentNotLater last
late_is last true fault h = sym (some_is (book_faults.MomentNotLater last) fault h)
late_is last false fault h = absurd (none_some fault h)

not_later_is : (last : Option ℕ) (t : ℕ) (fault : BookFault) → not_later last t ≡ Some fault → (moment : ℕ) × (fault ≡ book_faults.MomentNotLater moment)
not_later_is None t fault h = absurd (none_some fault h)
not_later_is (Some last) t fault h = (last, late_is last (nat_le t last) fault h)

-- a refusal of a call that may lack memory is its fault
pub fault_is : (A : Type 0) (may : Option BookFault) (fault : BookFault) → Answers {A = A} may (Err (errors.Fault fault)) → may ≡ Some fault
fault_is A (Some own) fault h = cc
fault_is A None fault h = cc

pub only_late : (A : Type 0) (history : History (List Partial)) (t : ℕ) (fault : BookFault) → is_some history.opened ≡ false → Answers {A = A} (begin_fault history t) (Err (errors.Fault fault)) → (moment : ℕ) × (fault ≡ book_faults.MomentNotLater moment)
only_late A history t fault closed answer = not_later_is (last_moment history) t fault (sym (begin_is history t closed) ∙ fault_is A (begin_fault history t) fault answer)

pub free_is : (A : Type 0) (may : Option BookFault) → Answers {A = A} may (Err errors.Memory) → may ≡ None
free_is A (Some own) h = cc
free_is A None h = refl

pub may_not_begin : (A : Type 0) (history : History (List Partial)) (t : ℕ) (error : OrMemory BookFault) → is_some history.opened ≡ false → Answers {A = A} (begin_fault history t) (Err error) → MayNotBegin error
may_not_begin A history t (errors.Fault fault) closed answer = let late = only_late A history t fault closed answer in inl (late.0, ap errors.Fault late.1)
may_not_begin A history t errors.Memory closed answer = inr refl

-- so refused, none was begun
pub begin_refused : (A : Type 0) (book : BookState) (t : ℕ) (error : OrMemory BookFault) → is_some book.history.opened ≡ false → Answers {A = A} (begin_fault book.history t) (Err error) → IsNotBegun (refusal_to_begin error) book t
begin_refused A book t (errors.Fault fault) closed answer =
    let late = only_late A book.history t fault closed answer in
    subst (λ f. IsNotBegun (late_fault f) book t) (sym late.1) (fault_is A (begin_fault book.history t) fault answer ∙ ap Some late.1)
begin_refused A book t errors.Memory closed answer = free_is A (begin_fault book.history t) answer

pub ok_is : {A : Type 0} (may : Option BookFault) (answer : A) → Answers may (Ok answer) → may ≡ None
ok_is (Some own) answer h = cc
ok_is None answer h = refl

-- COMMITTING

all_given : (answers : List Answer) → list_all is_some (map Some answers) ≡ true
all_given [] = refl
all_given (answer ∷ answers) = all_given answers

pub complete_fault : (n t : ℕ) (answers : List Answer) (history : History (List Partial)) → length answers ≡ n → commit_fault (with_open (opened_with n t answers) history) ≡ cond (is_session_full history) (Some book_faults.SessionFull) None
complete_fault n t answers history each =
    ap (λ (opened : OpenEvaluation (List Partial)). closing_fault (Some opened) (is_session_full history)) (given_all n t answers each)
    ∙ ap (λ b. cond b (cond (is_session_full history) (Some book_faults.SessionFull) None) (Some book_faults.Incomplete)) (all_given answers)

full_is : (full : Bool) (fault : BookFault) → cond full (Some book_faults.SessionFull) None ≡ Some fault → (fault ≡ book_faults.SessionFull) × (full ≡ true)
full_is true fault h = (sym (some_is book_faults.SessionFull fault h), refl)
full_is false fault h = absurd (none_some fault h)

-- what is complete is refused for a full book alone
pub only_full : (A : Type 0) (n t : ℕ) (answers : List Answer) (history : History (List Partial)) (fault : BookFault) → length answers ≡ n → Answers {A = A} (commit_fault (with_open (opened_with n t answers) history)) (Err (errors.Fault fault)) → (fault ≡ book_faults.SessionFull) × (is_session_full history ≡ true)
only_full A n t answers history fault each answer = full_is (is_session_full history) fault (sym (complete_fault n t answers history each) ∙ fault_is A (commit_fault (with_open (opened_with n t answers) history)) fault answer)

pub may_not_commit : (A : Type 0) (n t : ℕ) (answers : List Answer) (history : History (List Partial)) (error : OrMemory BookFault) → length answers ≡ n → Answers {A = A} (commit_fault (with_open (opened_with n t answers) history)) (Err error) → MayNotCommit error
may_not_commit A n t answers history (errors.Fault fault) each answer = inl (ap errors.Fault (only_full A n t answers history fault each answer).0)
may_not_commit A n t answers history errors.Memory each answer = inr refl

-- the places of what was gathered
answers_are : (answers : List Answer) → flat_map option_to_list (map Some answers) ≡ answers
answers_are [] = refl
answers_are (answer ∷ answers) = ap (λ (more : List Answer). answer ∷ more) (answers_are answers)

pub places_are : (answers : List Answer) → map (λ (answer : Answer). answer.place) (flat_map option_to_list (map Some answers)) ≡ map (λ (answer : Answer). answer.place) answers
places_are answers = ap (map (λ (answer : Answer). answer.place)) (answers_are answers)

-- LEAVING

closed_is : {X : Type 0} (maybe : Option X) → is_some maybe ≡ false → maybe ≡ None
closed_is None h = refl
closed_is (Some x) h = cc

-- a book that had none open, without one
pub without_open : (book : BookState) → is_some book.history.opened ≡ false → with_history book (abandoned book.history) ≡ book
without_open book closed = ap (λ (opened : Option (OpenEvaluation (List Partial))). with_history book (record { first = book.history.first; records = book.history.records; items = book.history.items; group = book.history.group; evaluations = book.history.evaluations; opened = opened })) (sym (closed_is book.history.opened closed))

refuses_ok : {A : Type 0} (result : Result A BookFault) → Refuses None result → (P : Type 0) → OnOk result P → P
refuses_ok (Ok answer) h P ok = ok
refuses_ok (Err fault) h P ok = absurd h

either : {A : Type 0} (result : Result A BookFault) (P : Type 0) → OnOk result P → OnErr result P → P
either (Ok answer) P ok err = ok
either (Err fault) P ok err = err

-- what was opened is given up: the book is as it was
pub left_closed : (book mid new : BookState) (opened : OpenEvaluation (List Partial)) (result : Result (Unit {0}) BookFault) → is_some book.history.opened ≡ false → (mid ≡ book) ⊎ (mid ≡ with_history book (with_open opened book.history))
    → Refuses (abandon_fault mid.history) result → OnOk result (new ≡ with_history mid (abandoned mid.history)) → OnErr result (new ≡ mid) → new ≡ book
left_closed book mid new opened result closed (inl same_book) refuses ok err =
    let done : OnOk result (new ≡ book) = at result ok in
    either result (new ≡ book) done (back result err)
  where
    at : (result : Result (Unit {0}) BookFault) → OnOk result (new ≡ with_history mid (abandoned mid.history)) → OnOk result (new ≡ book)
    at (Ok x) is = is ∙ ap (λ (b : BookState). with_history b (abandoned b.history)) same_book ∙ without_open book closed
    at (Err x) is = tt

    back : (result : Result (Unit {0}) BookFault) → OnErr result (new ≡ mid) → OnErr result (new ≡ book)
    back (Ok x) is = tt
    back (Err x) is = is ∙ same_book
left_closed book mid new opened result closed (inr open_is) refuses ok err =
    let free : abandon_fault mid.history ≡ None = ap (λ (b : BookState). abandon_fault b.history) open_is in
    refuses_ok result (subst (λ may. Refuses may result) free refuses) (new ≡ with_history mid (abandoned mid.history)) ok
    ∙ ap (λ (b : BookState). with_history b (abandoned b.history)) open_is
    ∙ without_open book closed

-- ENDS OF AN EVALUATION

-- nothing was opened
pub not_begun : (fault : EvaluationFault) (t : ℕ) (book mid : BookState) (pass pass_mid : PassView) → IsNotBegun fault book t → mid ≡ book → pass_mid ≡ pass → IsNotGathered fault t book pass mid pass_mid
not_begun evaluations.NoSuch t book mid pass pass_mid refused same_book same_pass = absurd refused
not_begun (evaluations.MomentNotLater last) t book mid pass pass_mid refused same_book same_pass = (refused, same_book, same_pass)
not_begun (evaluations.AtShard shard why) t book mid pass pass_mid refused same_book same_pass = absurd refused
not_begun evaluations.SessionFull t book mid pass pass_mid refused same_book same_pass = absurd refused
not_begun evaluations.Memory t book mid pass pass_mid refused same_book same_pass = (refused, same_book, same_pass)

left_none : (fault : EvaluationFault) (t : ℕ) (book mid : BookState) (pass pass_mid : PassView) → IsRefusedAfter fault book t 0 → mid ≡ book → pass_mid ≡ pass → IsLeftOpen fault t book pass mid pass_mid
left_none fault t book mid pass pass_mid refused same_book same_pass = record {
  answers = [];
  refused = refused;
  kept = inl same_book;
  receipts = ap (λ (p : PassView). p.receipts) same_pass ∙ sym (append-nil pass.receipts);
  notes = ap (λ (p : PassView). p.notes) same_pass;
}

pub left_of : (fault : EvaluationFault) (t : ℕ) (book mid : BookState) (pass pass_mid : PassView) → IsNotGathered fault t book pass mid pass_mid → IsLeftOpen fault t book pass mid pass_mid
left_of evaluations.NoSuch t book mid pass pass_mid is = absurd is.0
left_of (evaluations.MomentNotLater last) t book mid pass pass_mid (refused, same_book, same_pass) = left_none (evaluations.MomentNotLater last) t book mid pass pass_mid (refused, refl) same_book same_pass
left_of (evaluations.AtShard shard why) t book mid pass pass_mid (below, made) = record {
  answers = made.answers;
  refused = (made.later, made.each, below);
  kept = inr made.kept;
  receipts = made.receipts;
  notes = made.notes;
}
left_of evaluations.SessionFull t book mid pass pass_mid is = absurd is.0
left_of evaluations.Memory t book mid pass pass_mid (refused, same_book, same_pass) = left_none evaluations.Memory t book mid pass pass_mid (refused, inl refl) same_book same_pass

module _ (t : ℕ) (book mid : BookState) (pass pass_mid : PassView) (made : AreGathered book.shards t book pass mid pass_mid) where
  -- a complete evaluation may be refused so
  pub gathered_may : (A : Type 0) (error : OrMemory BookFault) → Answers {A = A} (commit_fault mid.history) (Err error) → MayNotCommit error
  gathered_may A error answer = may_not_commit A book.shards t made.answers book.history error made.each (subst (λ (b : BookState). Answers {A = A} (commit_fault b.history) (Err error)) made.kept answer)

  not_committed : (A : Type 0) (error : OrMemory BookFault) → Answers {A = A} (commit_fault (with_open (opened_with book.shards t made.answers) book.history)) (Err error) → IsRefusedAfter (refusal_to_commit error) book t (length made.answers)
  not_committed A (errors.Fault fault) answer = (made.later, (only_full A book.shards t made.answers book.history fault made.each answer).1, made.each)
  not_committed A errors.Memory answer = (made.later, inr made.each)

  pub gathered_left : (A : Type 0) (error : OrMemory BookFault) (new : BookState) → Answers {A = A} (commit_fault mid.history) (Err error) → new ≡ mid → IsLeftOpen (refusal_to_commit error) t book pass new pass_mid
  gathered_left A error new answer same_book = record {
    answers = made.answers;
    refused = not_committed A error (subst (λ (b : BookState). Answers {A = A} (commit_fault b.history) (Err error)) made.kept answer);
    kept = inr (same_book ∙ made.kept);
    receipts = made.receipts;
    notes = made.notes;
  }

  -- a complete evaluation that was committed
  pub gathered_committed : (done : Committed) (new : BookState) → done.number ≡ length mid.history.evaluations
      → IfSome mid.history.opened (λ opened. done.evaluation ≡ evaluation_from mid.history.group (alerts_of mid.history) opened) → new.history ≡ committed mid.history done.evaluation → IsCommitted t book pass done new pass_mid
  gathered_committed done new number evaluation history =
      let opened = subst (λ (b : BookState). IfSome b.history.opened (λ opened. done.evaluation ≡ evaluation_from b.history.group (alerts_of b.history) opened)) made.kept evaluation in
      let is : done.evaluation ≡ evaluation_from book.history.group (alerts_of book.history) (record { t = t; gathered = map Some made.answers }) = opened ∙ ap (evaluation_from book.history.group (alerts_of book.history)) (given_all book.shards t made.answers made.each) in
      record {
        answers = made.answers;
        each = made.each;
        number = number ∙ ap (λ (b : BookState). length b.history.evaluations) made.kept;
        evaluation = is;
        places = ap (λ (e : Evaluation). e.places) is ∙ places_are made.answers;
        history = history ∙ ap (λ (b : BookState). committed b.history done.evaluation) made.kept;
        receipts = made.receipts;
        notes = made.notes;
      }

-- one that was left open is given up
pub given_up : (fault : EvaluationFault) (t : ℕ) (book mid new : BookState) (pass pass_mid : PassView) (result : Result (Unit {0}) BookFault) → is_some book.history.opened ≡ false → IsLeftOpen fault t book pass mid pass_mid
    → Refuses (abandon_fault mid.history) result → OnOk result (new ≡ with_history mid (abandoned mid.history)) → OnErr result (new ≡ mid) → IsNotEvaluated fault t book pass new pass_mid
given_up fault t book mid new pass pass_mid result closed left refuses ok err = record {
  answers = left.answers;
  refused = left.refused;
  kept = left_closed book mid new (opened_with book.shards t left.answers) result closed left.kept refuses ok err;
  receipts = left.receipts;
  notes = left.notes;
}
