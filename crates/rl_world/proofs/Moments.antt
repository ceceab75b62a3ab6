-- What the turns of an evaluation leave open, and that they keep its group's name.
use Rattle.std.proofs.Common.{◌≡◌, ℕ, zero, suc, true, false, inl, inr, List, [], ◌∷◌, length, Option, None, Some, is_some, Result, Ok, Err, refl, sym, ap, cond, ◌∙◌}
use Rattle.std.specs.Prelude.{⊤, IfOk, OnErr, slice_get, slice_set, option_map, option_and_then}
use Rattle.std.proofs.lemmas.Option.{slice_get-map}
use Rattle.rl_aggregate.specs.declared.partial.Partial.{Partial}
use Rattle.rl_rules.specs.declared.evaluation.Evaluation.{Evaluation}
use Rattle.rl_world.specs.BookCalls.{with_history}
use Rattle.rl_world.specs.Evaluations.{name_at, open_moment}
use Rattle.rl_world.specs.History.{History, begun, gathered, with_shown, abandon_fault}
use Rattle.rl_world.specs.WorldRun.{Turned}
use Rattle.rl_world.specs.WorldState.{BookState, WorldBooks, WorldState, world_of}
use Rattle.rl_world.specs.WorldStep.{IsRefused, as_reply, known, may_fail}
use Rattle.rl_world.specs.declared.fault.BookFault.TheVariants as faults
use Rattle.rl_world.specs.declared.fault.Refusal.{Refusal}
use Rattle.rl_world.specs.declared.fault.Refusal.TheVariants as refusals
use Rattle.rl_world.specs.declared.opened.OpenEvaluation.{OpenEvaluation}
use Rattle.rl_world.specs.declared.step.Committed.{Committed}
use Rattle.rl_world.specs.declared.step.Reply.TheVariants as replies
use Rattle.rl_world.specs.declared.step.Step.TheVariants as steps

abbrev KeptWorld : Type 0
KeptWorld = WorldState (List Partial)

abbrev kept : WorldBooks → KeptWorld
kept world = world_of world.shards world.books

none_some : {X : Type 0} (x : X) → None ≡ Some x → ⊥
none_some x h = cc

false_true : false ≡ true → ⊥
false_true h = cc

-- a look-up in a list of which one item was replaced
get_set : {X : Type 0} (xs : List X) (k : ℕ) (x y : X) → slice_get xs k ≡ Some x → slice_get (slice_set xs k y) k ≡ Some y
get_set [] k x y there = absurd (none_some x there)
get_set (z ∷ xs) zero x y there = refl
get_set (z ∷ xs) (suc k) x y there = get_set xs k x y there

-- the moment of the evaluation that a history has open, and the name of its group
abbrev moment : Option (History (List Partial)) → Option ℕ
moment history = option_and_then (λ (h : History (List Partial)). option_map (λ (opened : OpenEvaluation (List Partial)). opened.t) h.opened) history

abbrev name : Option (History (List Partial)) → Option (List ℕ)
name history = option_map (λ (h : History (List Partial)). h.group.name) history

abbrev moment_in : Option BookState → Option ℕ
moment_in book = option_and_then (λ (b : BookState). option_map (λ (o : OpenEvaluation (List Partial)). o.t) b.history.opened) book

abbrev name_in : Option BookState → Option (List ℕ)
name_in book = option_map (λ (b : BookState). b.history.group.name) book

-- books are seen as their histories
moment_seen : (world : WorldBooks) (group : ℕ) → moment (slice_get (kept world).histories group) ≡ open_moment world group
moment_seen world group = ap moment (slice_get-map (λ (book : BookState). book.history) world.books group) ∙ through (slice_get world.books group)
  where
    through : (book : Option BookState) → moment (option_map (λ (b : BookState). b.history) book) ≡ moment_in book
    through None = refl
    through (Some book) = refl

name_seen : (world : WorldBooks) (group : ℕ) → name (slice_get (kept world).histories group) ≡ name_at world group
name_seen world group = ap name (slice_get-map (λ (book : BookState). book.history) world.books group) ∙ through (slice_get world.books group)
  where
    through : (book : Option BookState) → name (option_map (λ (b : BookState). b.history) book) ≡ name_in book
    through None = refl
    through (Some book) = refl

-- where the world was left as it was
same_moment : (old new : WorldBooks) (group : ℕ) → kept new ≡ kept old → open_moment new group ≡ open_moment old group
same_moment old new group same = sym (moment_seen new group) ∙ ap (λ (world : KeptWorld). moment (slice_get world.histories group)) same ∙ moment_seen old group

same_name : (old new : WorldBooks) (group : ℕ) → kept new ≡ kept old → name_at new group ≡ name_at old group
same_name old new group same = sym (name_seen new group) ∙ ap (λ (world : KeptWorld). name (slice_get world.histories group)) same ∙ name_seen old group

-- an evaluation that was opened is open at its moment
pub begun_open : (old : WorldBooks) (group t : ℕ) (new : WorldBooks) → Turned old (steps.Begin group t) replies.Begun new → open_moment new group ≡ Some t
begun_open old group t new turned =
    let turn = (turned.on_kept refl).1 in
    sym (moment_seen new group) ∙ ap (λ (world : KeptWorld). moment (slice_get world.histories group)) turn.after
    ∙ ap moment (get_set (kept old).histories group turn.history (begun (length (kept old).shards) turn.history t) turn.there)

pub begun_named : (old : WorldBooks) (group t : ℕ) (new : WorldBooks) → Turned old (steps.Begin group t) replies.Begun new → name_at new group ≡ name_at old group
begun_named old group t new turned =
    let turn = (turned.on_kept refl).1 in
    sym (name_seen new group) ∙ ap (λ (world : KeptWorld). name (slice_get world.histories group)) turn.after
    ∙ ap name (get_set (kept old).histories group turn.history (begun (length (kept old).shards) turn.history t) turn.there)
    ∙ sym (ap name turn.there) ∙ name_seen old group

-- a shard that is asked, or refuses, leaves it open
pub gathered_open : (old : WorldBooks) (group number : ℕ) (answer : Result ℕ Refusal) (new : WorldBooks) → Turned old (steps.Gather group number) (as_reply replies.Gathered answer) new → open_moment new group ≡ open_moment old group
gathered_open old group number (Ok place) new turned =
    let turn = turned.stores in
    let after = with_history turn.asked.book (gathered turn.asked.book.history number place turn.partials) in
    ap (λ (books : List BookState). moment_in (slice_get books group)) turn.kept ∙ ap moment_in (get_set old.books group turn.asked.book after turn.asked.there)
    ∙ ap (λ o. option_map (λ (opened : OpenEvaluation (List Partial)). opened.t) (option_map (with_shown number place turn.partials) o)) turn.asked.open_is
    ∙ sym (ap moment_in turn.asked.there ∙ ap (option_map (λ (opened : OpenEvaluation (List Partial)). opened.t)) turn.asked.open_is)
gathered_open old group number (Err refusal) new turned = same_moment old new group (turned.refused refusal refl).1

pub gathered_named : (old : WorldBooks) (group number : ℕ) (answer : Result ℕ Refusal) (new : WorldBooks) → Turned old (steps.Gather group number) (as_reply replies.Gathered answer) new → name_at new group ≡ name_at old group
gathered_named old group number (Ok place) new turned =
    let turn = turned.stores in
    let after = with_history turn.asked.book (gathered turn.asked.book.history number place turn.partials) in
    ap (λ (books : List BookState). name_in (slice_get books group)) turn.kept ∙ ap name_in (get_set old.books group turn.asked.book after turn.asked.there) ∙ sym (ap name_in turn.asked.there)
gathered_named old group number (Err refusal) new turned = same_name old new group (turned.refused refusal refl).1

-- what is committed is of the group
committed_named : (old : WorldBooks) (group : ℕ) (answer : Committed) (new : WorldBooks) → Turned old (steps.Commit group) (replies.Committed answer) new → name_at old group ≡ Some answer.evaluation.group
committed_named old group answer new turned =
    let closing = (turned.on_kept refl).1 in
    sym (name_seen old group) ∙ ap name closing.there ∙ ap (λ (evaluation : Evaluation). Some evaluation.group) (sym closing.evaluation_is)

committed_moment : (old : WorldBooks) (group : ℕ) (answer : Committed) (new : WorldBooks) → Turned old (steps.Commit group) (replies.Committed answer) new → open_moment old group ≡ Some answer.evaluation.t
committed_moment old group answer new turned =
    let closing = (turned.on_kept refl).1 in
    sym (moment_seen old group) ∙ ap moment closing.there ∙ ap (option_map (λ (opened : OpenEvaluation (List Partial)). opened.t)) closing.open_is
    ∙ ap (λ (evaluation : Evaluation). Some evaluation.t) (sym closing.evaluation_is)

-- a commit that is refused leaves it open
uncommitted_open : (old : WorldBooks) (group : ℕ) (refusal : Refusal) (new : WorldBooks) → Turned old (steps.Commit group) (replies.Refused refusal) new → open_moment new group ≡ open_moment old group
uncommitted_open old group refusal new turned = same_moment old new group (turned.refused refusal refl).1

-- so of a commit after shards were asked
pub finished_named : (old mid : WorldBooks) (group : ℕ) (answer : Result Committed Refusal) (new : WorldBooks) → name_at mid group ≡ name_at old group → Turned mid (steps.Commit group) (as_reply replies.Committed answer) new → IfOk answer (λ committed. name_at old group ≡ Some committed.evaluation.group)
finished_named old mid group (Ok committed) new same turned = sym same ∙ committed_named mid group committed new turned
finished_named old mid group (Err refusal) new same turned = tt

pub finished_moment : (old mid : WorldBooks) (group : ℕ) (answer : Result Committed Refusal) (new : WorldBooks) → open_moment mid group ≡ open_moment old group → Turned mid (steps.Commit group) (as_reply replies.Committed answer) new → IfOk answer (λ committed. open_moment old group ≡ Some committed.evaluation.t)
finished_moment old mid group (Ok committed) new same turned = sym same ∙ committed_moment mid group committed new turned
finished_moment old mid group (Err refusal) new same turned = tt

pub finished_open : (old mid : WorldBooks) (group : ℕ) (answer : Result Committed Refusal) (new : WorldBooks) → is_some (open_moment old group) ≡ true → open_moment mid group ≡ open_moment old group → Turned mid (steps.Commit group) (as_reply replies.Committed answer) new → OnErr answer (is_some (open_moment new group) ≡ true)
finished_open old mid group (Ok committed) new opened same turned = tt
finished_open old mid group (Err refusal) new opened same turned = ap is_some (uncommitted_open mid group refusal new turned ∙ same) ∙ opened

pub same_moments : (t u : ℕ) (opened : Option ℕ) → opened ≡ Some t → opened ≡ Some u → u ≡ t
same_moments t u opened one other = cc

-- what cannot be abandoned is not open
unopened : (history : Option (History (List Partial))) (refusal : Refusal) → known history (λ (h : History (List Partial)). option_map refusals.Book (abandon_fault h)) ≡ Some refusal → moment history ≡ None
unopened None refusal refused = refl
unopened (Some history) refusal refused = within history.opened refused
  where
    within : (opened : Option (OpenEvaluation (List Partial))) → option_map refusals.Book (cond (is_some opened) None (Some faults.NotOpen)) ≡ Some refusal → option_map (λ (o : OpenEvaluation (List Partial)). o.t) opened ≡ None
    within None h = refl
    within (Some opened) h = absurd (none_some refusal h)

-- no abandoning comes to nothing
abandon_never : (group : ℕ) (refusal : Refusal) → may_fail (steps.Abandon group) refusal ≡ false
abandon_never group refusals.NoSuch = refl
abandon_never group (refusals.Book fault) = refl
abandon_never group refusals.JournalFull = refl
abandon_never group refusals.Fault = refl
abandon_never group refusals.Damaged = refl
abandon_never group refusals.NumbersSpent = refl
abandon_never group refusals.Memory = refl

-- so what is open is abandoned
pub abandoned : (old : WorldBooks) (group : ℕ) (answer : Result ⊤ Refusal) (new : WorldBooks) → is_some (open_moment old group) ≡ true → Turned old (steps.Abandon group) (as_reply (λ _. replies.Abandoned) answer) new → Turned old (steps.Abandon group) replies.Abandoned new
abandoned old group (Ok done) new opened turned = turned
abandoned old group (Err refusal) new opened turned = absurd (never (turned.refused refusal refl))
  where
    shut : open_moment old group ≡ None → ⊥
    shut none = false_true (sym (ap is_some none) ∙ opened)

    never : IsRefused (kept old) (steps.Abandon group) refusal (kept new) → ⊥
    never (inl refused, same) = shut (sym (moment_seen old group) ∙ unopened (slice_get (kept old).histories group) refusal refused)
    never (inr wanted, same) = false_true (sym (abandon_never group refusal) ∙ wanted.1)
