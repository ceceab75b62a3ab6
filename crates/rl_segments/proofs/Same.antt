-- Records with one form are one.
use Rattle.std.proofs.Common.{◌≡◌, List, [], ◌∷◌, map, refl, ap, subst}
use Rattle.rl_labels.specs.laws.OrderLaws.{same_entry}
use Rattle.rl_query.specs.Form.{term_form}
use Rattle.rl_query.specs.Printing.{term_text}
use Rattle.rl_query.specs.declared.query.Term.{Term}
use Rattle.rl_deletes.specs.declared.deletion.Deletion.{Deletion}
use Rattle.rl_query.specs.declared.filter.Sieve.{Sieve}
use Rattle.rl_query_text.proofs.AnsweredQueries.{alone_term}
use Rattle.rl_selector_text.proofs.Answered.{sieves}
use Rattle.rl_records.specs.declared.record.Record.{Record}
use Rattle.rl_records.specs.declared.step.ShardStep.{ShardStep}
use Rattle.rl_records.specs.declared.step.ShardStep.TheVariants as steps
use Rattle.rl_segments.specs.Forms.{StepForm, cuts, flushes, pushes, deletes, cancels, processes, retains, collects, entry_form, deletion_form, step_form, record_form}

same_terms : (a b : List Term) → map term_form a ≡ map term_form b → a ≡ b
same_terms [] [] e = refl
same_terms [] (t ∷ ts) e = absurd cc
same_terms (s ∷ ss) [] e = absurd cc
same_terms (s ∷ ss) (t ∷ ts) e =
    let first : term_form s ≡ term_form t = cc in
    let rest : map term_form ss ≡ map term_form ts = cc in
    λ i. alone_term s t (ap term_text first) i ∷ same_terms ss ts rest i

same_deletion : (a b : Deletion Sieve) → deletion_form a ≡ deletion_form b → a ≡ b
same_deletion a b e =
    let selector = sieves.same a.selector b.selector (ap (λ d. d.selector) e) in
    λ i. record { id = (e i).id; selector = selector i; start = (e i).start; end = (e i).end; created = (e i).created }

-- a step and a form of it
IsFormOf : ShardStep → StepForm → Type 0
IsFormOf (steps.Push entry) (pushes form) = entry_form entry ≡ form
IsFormOf steps.Cut cuts = Unit {0}
IsFormOf steps.Flush flushes = Unit {0}
IsFormOf (steps.Delete deletion) (deletes form) = deletion_form deletion ≡ form
IsFormOf (steps.Cancel id) (cancels other) = id ≡ other
IsFormOf (steps.Process id now) (processes id' now') = (id ≡ id') × (now ≡ now')
IsFormOf (steps.Retain now) (retains other) = now ≡ other
IsFormOf (steps.Collect slot terms t) (collects slot' forms t') = (slot ≡ slot') × (map term_form terms ≡ forms) × (t ≡ t')
IsFormOf step form = ⊥

own_form : (step : ShardStep) → IsFormOf step (step_form step)
unfolding IsFormOf
own_form (steps.Push entry) = refl
own_form steps.Cut = tt
own_form steps.Flush = tt
own_form (steps.Delete deletion) = refl
own_form (steps.Cancel id) = refl
own_form (steps.Process id now) = (refl, refl)
own_form (steps.Retain now) = refl
own_form (steps.Collect slot terms t) = (refl, refl, refl)

same_step : (a b : ShardStep) → IsFormOf a (step_form b) → a ≡ b
unfolding IsFormOf
same_step (steps.Push a) (steps.Push b) h = ap (λ entry. steps.Push entry) (same_entry a b (ap (λ f. f.labels) h) (ap (λ f. f.timestamp) h) (ap (λ f. f.line) h))
same_step steps.Cut steps.Cut h = refl
same_step steps.Flush steps.Flush h = refl
same_step (steps.Delete a) (steps.Delete b) h = ap (λ deletion. steps.Delete deletion) (same_deletion a b h)
same_step (steps.Cancel a) (steps.Cancel b) h = ap (λ id. steps.Cancel id) h
same_step (steps.Process id now) (steps.Process id' now') h = λ i. steps.Process (h.0 i) (h.1 i)
same_step (steps.Retain a) (steps.Retain b) h = ap (λ now. steps.Retain now) h
same_step (steps.Collect slot terms t) (steps.Collect slot' terms' t') h = let same = same_terms terms terms' h.1 in λ i. steps.Collect (h.0 i) (same i) (h.2 i)
same_step a b h = absurd h

pub same_record : (a b : Record) → record_form a ≡ record_form b → a ≡ b
same_record a b e =
    let step = same_step a.step b.step (subst (IsFormOf a.step) (ap (λ f. f.step) e) (own_form a.step)) in
    let reply = ap (λ f. f.reply) e in
    λ i. record { step = step i; reply = reply i }
