-- What is left of sinks that are pumped or closed, and of the books that have them.
use Rattle.std.proofs.Common.{◌≡◌, ℕ, zero, suc, Bool, List, [], ◌∷◌, ◌++◌, map, length, take, drop, Option, None, Some, IfSome, Result, option_map, slice_get, slice_set, sym, ap, subst, ◌∙◌}
use Rattle.std.proofs.Math.Seq.{take-append_seam}
use Rattle.std.proofs.lemmas.List.{map-set}
use Rattle.std.proofs.lemmas.Option.{slice_get-map}
use Rattle.std.specs.List.{AllByRecursion, AllZip}
use Rattle.std.specs.Prelude.{⊤}
use Rattle.rl_rules.specs.declared.evaluation.Evaluation.{Evaluation}
use Rattle.rl_sinks.specs.SinkState.{SinkState, pumped, closed}
use Rattle.rl_sinks.specs.declared.sink.SinkFault.{SinkFault}
use Rattle.rl_world.specs.Closed.{HasAnswered, IsBookClosed, IsClosed, IsPumped}
use Rattle.rl_world.specs.Offering.{TookPrefix}
use Rattle.rl_world.specs.WorldState.{BookState, IsBookOf, with_sinks}

-- what a sink is seen with after its pump or close says how that was answered
pub is_pumped : (old new : SinkState) (failed : Bool) → new ≡ pumped old failed → IsPumped old new
is_pumped old new failed is = is ∙ ap (pumped old) (sym (ap (λ (sink : SinkState). sink.failed) is))

pub is_closed : (old new : SinkState) (failed : Bool) → new ≡ closed old failed → IsClosed old new
is_closed old new failed is = is ∙ ap (closed old) (sym (ap (λ (sink : SinkState). sink.failed) is))

-- sinks that were pumped or closed took what they took before
pub took_prefix-pumped : (evaluations : List Evaluation) (olds news : List SinkState) → AllZip IsPumped olds news → AllByRecursion (TookPrefix evaluations) olds → AllByRecursion (TookPrefix evaluations) news
took_prefix-pumped evaluations [] [] pumps all = tt
took_prefix-pumped evaluations (old ∷ olds) (new ∷ news) pumps all = (subst (TookPrefix evaluations) (sym pumps.0) all.0, took_prefix-pumped evaluations olds news pumps.1 all.1)
took_prefix-pumped evaluations [] (new ∷ news) pumps all = absurd pumps
took_prefix-pumped evaluations (old ∷ olds) [] pumps all = absurd pumps

took_prefix-closed : (evaluations : List Evaluation) (olds news : List SinkState) → AllZip IsClosed olds news → AllByRecursion (TookPrefix evaluations) olds → AllByRecursion (TookPrefix evaluations) news
took_prefix-closed evaluations [] [] closes all = tt
took_prefix-closed evaluations (old ∷ olds) (new ∷ news) closes all = (subst (TookPrefix evaluations) (sym closes.0) all.0, took_prefix-closed evaluations olds news closes.1 all.1)
took_prefix-closed evaluations [] (new ∷ news) closes all = absurd closes
took_prefix-closed evaluations (old ∷ olds) [] closes all = absurd closes

-- the sinks of a vector of `many` sinks, where the closed ones were put back
pub took_prefix-put : {S : Type 0} (state : S → SinkState) (evaluations : List Evaluation) (olds news : List S) (many : ℕ) → many ≡ length news → AllZip IsClosed (map state olds) (map state news)
    → AllByRecursion (TookPrefix evaluations) (map state olds) → AllByRecursion (TookPrefix evaluations) (map state (take many (news ++ drop (length news) olds)))
took_prefix-put state evaluations olds news many is_many closes all =
    let back : take many (news ++ drop (length news) olds) ≡ news = ap (λ n. take n (news ++ drop (length news) olds)) is_many ∙ take-append_seam news (drop (length news) olds) in
    subst (AllByRecursion (TookPrefix evaluations)) (sym (ap (map state) back)) (took_prefix-closed evaluations (map state olds) (map state news) closes all)

-- a book whose sinks are closed is as much a book of its world
book_of-closed : (shards : ℕ) (old new : BookState) → IsBookClosed old new → IsBookOf shards old → IsBookOf shards new
book_of-closed shards old new is all = subst (IsBookOf shards) (sym is.0) (all.0, took_prefix-closed old.history.evaluations old.sinks new.sinks is.1 all.1)

pub books_of-closed : (shards : ℕ) (olds news : List BookState) → AllZip IsBookClosed olds news → AllByRecursion (IsBookOf shards) olds → AllByRecursion (IsBookOf shards) news
books_of-closed shards [] [] closes all = tt
books_of-closed shards (old ∷ olds) (new ∷ news) closes all = (book_of-closed shards old new closes.0 all.0, books_of-closed shards olds news closes.1 all.1)
books_of-closed shards [] (new ∷ news) closes all = absurd closes
books_of-closed shards (old ∷ olds) [] closes all = absurd closes

-- ONE SINK

no_item : {X : Type 0} (x : X) → None ≡ Some x → ⊥
no_item x h = cc

one_item : {X : Type 0} (x y : X) → Some x ≡ Some y → x ≡ y
one_item x y h = cc

-- one that was closed took what it took before
pub took_prefix-at : {S : Type 0} (state : S → SinkState) (evaluations : List Evaluation) (sinks : List S) (k : ℕ) (own new : S) (failed : Bool) → slice_get sinks k ≡ Some own → state new ≡ closed (state own) failed
    → AllByRecursion (TookPrefix evaluations) (map state sinks) → AllByRecursion (TookPrefix evaluations) (map state (slice_set sinks k new))
took_prefix-at state evaluations [] k own new failed there is all = absurd (no_item own there)
took_prefix-at state evaluations (sink ∷ sinks) zero own new failed there is all = (subst (TookPrefix evaluations) (sym (is ∙ ap (λ s. closed (state s) failed) (sym (one_item sink own there)))) all.0, all.1)
took_prefix-at state evaluations (sink ∷ sinks) (suc k) own new failed there is all = (all.0, took_prefix-at state evaluations sinks k own new failed there is all.1)

-- the book has it closed
pub closed_view : {S : Type 0} (state : S → SinkState) (sinks : List S) (k : ℕ) (own new : S) (failed : Bool) → slice_get sinks k ≡ Some own → state new ≡ closed (state own) failed
    → (book : BookState) → book.sinks ≡ map state sinks → IfSome (slice_get book.sinks k) (λ sink. with_sinks book (map state (slice_set sinks k new)) ≡ with_sinks book (slice_set book.sinks k (closed sink failed)))
closed_view state sinks k own new failed there is book seen =
    let here : slice_get book.sinks k ≡ Some (state own) = ap (λ (all : List SinkState). slice_get all k) seen ∙ slice_get-map state sinks k ∙ ap (option_map state) there in
    subst (λ (found : Option SinkState). IfSome found (λ sink. with_sinks book (map state (slice_set sinks k new)) ≡ with_sinks book (slice_set book.sinks k (closed sink failed)))) (sym here)
    (ap (with_sinks book) (map-set state sinks k new ∙ ap (λ (all : List SinkState). slice_set all k (state new)) (sym seen) ∙ ap (slice_set book.sinks k) is))

-- and stands for its answer
pub answered_at : {S : Type 0} (state : S → SinkState) (Says : S → Result ⊤ SinkFault → Type 0) (sinks : List S) (k : ℕ) (new : S) → HasAnswered state Says (state new) → IfSome (slice_get (map state (slice_set sinks k new)) k) (HasAnswered state Says)
answered_at state Says [] k new says = tt
answered_at state Says (sink ∷ sinks) zero new says = says
answered_at state Says (sink ∷ sinks) (suc k) new says = answered_at state Says sinks k new says
