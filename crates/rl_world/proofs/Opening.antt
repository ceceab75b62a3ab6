-- A book for each group with its sinks, one after the other, and what holds of them.
use Rattle.std.proofs.Common.{◌≡◌, ◌⊎◌, inl, inr, ℕ, suc, ◌-◌, List, [], ◌∷◌, ◌++◌, map, length, take, Option, None, Some, refl, sym, ap, subst, ◌∙◌, arith, append_assoc, length-append}
use Rattle.std.proofs.Math.Seq.{drop-nil, take-nil}
use Rattle.std.proofs.lemmas.List.{append-nil, nil_from_length}
use Rattle.std.specs.List.{AllByRecursion}
use Rattle.std.specs.Vec.Iter.{into_iter_items, into_iter_steps}
use Rattle.std.specs.declared.vec.IntoIter.{IntoIter}
use Rattle.rl_rules.specs.declared.evaluation.Evaluation.{Evaluation}
use Rattle.rl_rules.specs.declared.rule.Group.{Group}
use Rattle.rl_sinks.specs.SinkState.{SinkState, within}
use Rattle.rl_world.specs.BookCalls.{IsFresh, new_book, books_from}
use Rattle.rl_world.specs.Offering.{TookPrefix, texts_of}
use Rattle.rl_labels.specs.declared.entry.Entry.{Entry}
use Rattle.rl_shard.specs.ShardState.{ShardView, journalled}
use Rattle.rl_world.specs.History.{History}
use Rattle.rl_world.specs.WorldState.{BookState, IsBookOf, StandsForSome, kept_history, world_of}

-- with no group, or no sinks, there is no book
no_books : (slot records shards : ℕ) (groups : List Group) (sinks : List (List SinkState)) → (groups ≡ []) ⊎ (sinks ≡ []) → books_from slot records shards groups sinks ≡ []
no_books slot records shards [] sinks none = refl
no_books slot records shards (group ∷ groups) [] none = refl
no_books slot records shards (group ∷ groups) (own ∷ sinks) (inl none) = cc
no_books slot records shards (group ∷ groups) (own ∷ sinks) (inr none) = cc

-- nothing is left of one of the two: the books so far are all
pub books-end : {X Z W : Type 0} (states : X → List SinkState) (records shards : ℕ) (all books : List BookState) (groups : IntoIter Group Z) (sinks : IntoIter X W)
    → ((t : IntoIter Group Z) × into_iter_steps groups None t) ⊎ ((t : IntoIter X W) × into_iter_steps sinks None t)
    → books ++ books_from (length books) records shards (into_iter_items groups) (map states (into_iter_items sinks)) ≡ all → books ≡ all
books-end {X} {Z} {W} states records shards all books groups sinks ended so_far =
    sym (ap (λ (more : List BookState). books ++ more) (no_books (length books) records shards (into_iter_items groups) (map states (into_iter_items sinks)) (nothing ended)) ∙ append-nil books) ∙ so_far
  where
    nothing : ((t : IntoIter Group Z) × into_iter_steps groups None t) ⊎ ((t : IntoIter X W) × into_iter_steps sinks None t) → (into_iter_items groups ≡ []) ⊎ (map states (into_iter_items sinks) ≡ [])
    nothing (inl (t, step)) = inl (nil_from_length (into_iter_items groups) (sym groups.rest.ok.0 ∙ step.0))
    nothing (inr (t, step)) = inr (ap (map states) (nil_from_length (into_iter_items sinks) (sym sinks.rest.ok.0 ∙ step.0)))

-- one book more
pub books-more : {X : Type 0} (states : X → List SinkState) (records shards slot : ℕ) (all books more : List BookState) (group : Group) (groups groups_left : List Group) (own : X) (sinks sinks_left : List X) (book : BookState)
    → groups ≡ group ∷ groups_left → sinks ≡ own ∷ sinks_left → slot ≡ length books → book ≡ new_book slot records shards group (states own) → more ≡ books ++ book ∷ []
    → books ++ books_from (length books) records shards groups (map states sinks) ≡ all → more ++ books_from (length more) records shards groups_left (map states sinks_left) ≡ all
books-more {X} states records shards slot all books more group groups groups_left own sinks sinks_left book groups_are sinks_are slot_is book_is more_is so_far =
    let rest : List BookState = books_from (suc (length books)) records shards groups_left (map states sinks_left) in
    let next_slot : length (books ++ book ∷ []) ≡ suc (length books) = omega (arith, length-append books (book ∷ [])) in
    ap (λ (bs : List BookState). bs ++ books_from (length bs) records shards groups_left (map states sinks_left)) more_is
    ∙ ap (λ n. (books ++ book ∷ []) ++ books_from n records shards groups_left (map states sinks_left)) next_slot
    ∙ append_assoc books (book ∷ []) rest
    ∙ ap (λ (b : BookState). books ++ b ∷ rest) (book_is ∙ ap (λ n. new_book n records shards group (states own)) slot_is)
    ∙ sym (ap (λ (left : List X). books ++ books_from (length books) records shards (group ∷ groups_left) (map states left)) sinks_are)
    ∙ sym (ap (λ (left : List Group). books ++ books_from (length books) records shards left (map states sinks)) groups_are)
    ∙ so_far

-- of no text nothing is left out
within_none : (limit : Option ℕ) → within limit [] ≡ []
within_none None = refl
within_none (Some limit) = drop-nil (0 - limit)

-- sinks that have taken nothing took a prefix of no evaluation
pub fresh_took : (sinks : List SinkState) → AllByRecursion IsFresh sinks → AllByRecursion (TookPrefix []) sinks
fresh_took [] all = all
fresh_took (sink ∷ sinks) all =
    let none : texts_of sink.kind (take sink.count []) ≡ [] = ap (texts_of sink.kind) (take-nil {A = Evaluation} sink.count) in
    ((omega (arith, all.0.0), all.0.1 ∙ sym (ap (within sink.limit) none ∙ within_none sink.limit)), fresh_took sinks all.1)

-- the books are books of a world with `shards` shards
pub books_from-fit : {X : Type 0} (states : X → List SinkState) (slot records shards : ℕ) (groups : List Group) (sinks : List X) → AllByRecursion (λ own. AllByRecursion IsFresh (states own)) sinks
    → AllByRecursion (IsBookOf shards) (books_from slot records shards groups (map states sinks))
books_from-fit states slot records shards [] sinks all = tt
books_from-fit states slot records shards (group ∷ groups) [] all = tt
books_from-fit states slot records shards (group ∷ groups) (own ∷ sinks) all = ((refl, fresh_took (states own) all.0), books_from-fit states (suc slot) records shards groups sinks all.1)

-- books of new histories have no evaluation open
abbrev IsUnopened : BookState → Type 0
IsUnopened book = book.history.opened ≡ None

books_unopened : (slot records shards : ℕ) (groups : List Group) (sinks : List (List SinkState)) → AllByRecursion IsUnopened (books_from slot records shards groups sinks)
books_unopened slot records shards [] sinks = tt
books_unopened slot records shards (group ∷ groups) [] = tt
books_unopened slot records shards (group ∷ groups) (own ∷ sinks) = (refl, books_unopened (suc slot) records shards groups sinks)

-- so nothing is kept of any list
histories_shown : (books : List BookState) → AllByRecursion IsUnopened books → (histories : List (History (List Entry))) × (map (λ (book : BookState). book.history) books ≡ map kept_history histories)
histories_shown [] all = ([], refl)
histories_shown (book ∷ books) all =
    let rest = histories_shown books all.1 in (
      record { first = book.history.first; records = book.history.records; items = book.history.items; group = book.history.group; evaluations = book.history.evaluations; opened = None } ∷ rest.0,
      λ i. record { first = book.history.first; records = book.history.records; items = book.history.items; group = book.history.group; evaluations = book.history.evaluations; opened = all.0 i } ∷ rest.1 i,
    )

-- and a new world stands for worlds in which nothing was shown
pub opened_shown : (opened : List ShardView) (books : List BookState) (slot records shards : ℕ) (groups : List Group) (sinks : List (List SinkState)) → books ≡ books_from slot records shards groups sinks → StandsForSome (world_of opened books)
opened_shown opened books slot records shards groups sinks are =
    let shown = histories_shown books (subst (AllByRecursion IsUnopened) (sym are) (books_unopened slot records shards groups sinks)) in
    (record { shards = map journalled opened; histories = shown.0 }, λ i. record { shards = map journalled opened; histories = shown.1 i })
