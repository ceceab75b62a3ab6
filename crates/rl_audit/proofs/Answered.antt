-- The answers of an open evaluation: those of the first shards, and one more.
use Rattle.std.proofs.Common.{◌≡◌, ℕ, suc, ◌-◌, ◌<◌, cond, List, [], ◌∷◌, ◌++◌, map, length, Option, None, Some, is_some, unwrap_or, slice_get, slice_set, get_or, sym, ap, ◌∙◌, arith, append_assoc, length-append}
use Rattle.std.proofs.Math.Seq.{get_or-append_seam, set-append_seam}
use Rattle.std.proofs.lemmas.List.{append-nil, length-map, map-append, replicate-append-replicate}
use Rattle.std.proofs.lemmas.Option.{unwrap_or-slice_get}
use Rattle.std.specs.Prelude.{replicate}
use Rattle.rl_aggregate.specs.declared.partial.Partial.{Partial}
use Rattle.rl_world.specs.History.{History, gather_fault}
use Rattle.rl_world.specs.declared.fault.BookFault.TheVariants as book_faults
use Rattle.rl_world.specs.declared.opened.Gathered.{Gathered}
use Rattle.rl_audit.specs.Driven.{opened_with, with_open}

abbrev pub Answer : Type 0
Answer = Gathered (List Partial)

-- of a shard that answered, and of one that was not asked
abbrev given : Answer → Option Answer
given answer = Some answer

abbrev no_answer : Option Answer
no_answer = None

-- of the shards that were not asked one is the next
unasked : (n k : ℕ) → k < n → ◌≡◌ {A = List (Option Answer)} (replicate (n - k) None) (None ∷ replicate (n - suc k) None)
unasked n k below = ap (λ m. replicate m no_answer) (omega (arith, below)) ∙ sym (replicate-append-replicate 1 (n - suc k) no_answer)

-- the first shards answered, and the next was not asked
abbrev asked_next : (n : ℕ) → List Answer → List (Option Answer)
asked_next n answers = map Some answers ++ None ∷ replicate (n - suc (length answers)) None

next_is : (n : ℕ) (answers : List Answer) → length answers < n → (opened_with n 0 answers).gathered ≡ asked_next n answers
next_is n answers below = ap (λ (rest : List (Option Answer)). map Some answers ++ rest) (unasked n (length answers) below)

-- the next shard was not asked
pub free_after : (n t : ℕ) (answers : List Answer) (history : History (List Partial)) → length answers < n → gather_fault (with_open (opened_with n t answers) history) (length answers) ≡ None
free_after n t answers history below =
    let count : length answers ≡ length (map given answers) = sym (length-map answers given) in
    let there : unwrap_or (slice_get (opened_with n t answers).gathered (length answers)) None ≡ None =
    ap (λ (given : List (Option Answer)). unwrap_or (slice_get given (length answers)) None) (next_is n answers below)
    ∙ unwrap_or-slice_get (asked_next n answers) (length answers) None
    ∙ ap (λ k. get_or (asked_next n answers) k None) count
    ∙ get_or-append_seam (map Some answers) None (replicate (n - suc (length answers)) None) None in
    ap (λ (answer : Option Answer). cond (is_some answer) (Some book_faults.AlreadyGathered) None) there

-- with its answer
pub given_next : (n : ℕ) (answers : List Answer) (answer : Answer) → length answers < n → slice_set (opened_with n 0 answers).gathered (length answers) (Some answer) ≡ (opened_with n 0 (answers ++ answer ∷ [])).gathered
given_next n answers answer below =
    let count : length answers ≡ length (map given answers) = sym (length-map answers given) in
    let rest : List (Option Answer) = replicate (n - suc (length answers)) None in
    let more : suc (length answers) ≡ length (answers ++ answer ∷ []) = omega (arith, length-append answers (answer ∷ [])) in
    ap (λ (given : List (Option Answer)). slice_set given (length answers) (Some answer)) (next_is n answers below)
    ∙ ap (λ k. slice_set (asked_next n answers) k (Some answer)) count
    ∙ set-append_seam (map Some answers) None rest (Some answer)
    ∙ sym (append_assoc (map Some answers) (Some answer ∷ []) rest)
    ∙ ap (λ (given : List (Option Answer)). given ++ rest) (sym (map-append Some answers (answer ∷ [])))
    ∙ ap (λ k. map Some (answers ++ answer ∷ []) ++ replicate (n - k) None) more

-- all shards answered
pub given_all : (n t : ℕ) (answers : List Answer) → length answers ≡ n → opened_with n t answers ≡ record { t = t; gathered = map Some answers }
given_all n t answers each =
    let none : n - length answers ≡ 0 = omega (arith, each) in
    ap (λ (k : ℕ). record { t = t; gathered = map Some answers ++ replicate k None }) none
    ∙ ap (λ (given : List (Option Answer)). record { t = t; gathered = given }) (append-nil (map Some answers))
