-- That the groups, sinks and shards stay, over any stores.
use Rattle.std.proofs.Common.{◌≡◌, ℕ, zero, suc, true, false, cond, inl, inr, List, [], ◌∷◌, map, length, None, Some, Result, Ok, Err, refl, sym, ap, ◌∙◌}
use Rattle.std.specs.Prelude.{⊤, slice_get, slice_set, option_map}
use Rattle.std.specs.Cmp.Lexicographic.{same_text}
use Rattle.rl_labels.specs.Name.{is_text}
use Rattle.rl_aggregate.specs.declared.partial.Partial.{Partial}
use Rattle.rl_rules.specs.declared.rule.Group.{Group}
use Rattle.rl_world.specs.BookCalls.{with_history}
use Rattle.rl_world.specs.Evaluations.{AreAskedFor, IfDoneThen, IsClosedOff, IsEvaluated, IsFinished}
use Rattle.rl_world.specs.History.{History, begun, gathered, committed, edited, abandoned, edit_fault}
use Rattle.rl_world.specs.ShardsTurn.{ShardsTurn}
use Rattle.rl_world.specs.WorldRun.{Turned, Ran}
use Rattle.rl_world.specs.WorldState.{BookState, WorldBooks, WorldState, world_of}
use Rattle.rl_world.specs.WorldStep.{WorldStep, as_reply, partials, asks_shard, known, edit_refusal}
use Rattle.rl_world.specs.laws.RunLaws.{sink_counts, ran_counts}
use Rattle.rl_world.specs.declared.fault.Refusal.{Refusal}
use Rattle.rl_world.specs.declared.fault.Refusal.TheVariants as refusals
use Rattle.rl_world.specs.declared.step.Committed.{Committed}
use Rattle.rl_world.specs.declared.step.Reply.{Reply}
use Rattle.rl_world.specs.declared.step.Reply.TheVariants as replies
use Rattle.rl_world.specs.declared.step.Step.{Step}
use Rattle.rl_world.specs.declared.step.Step.TheVariants as steps
use Rattle.rl_session.specs.WorldEngine.{IsAlike, listed}

-- a world as promises, with the partials that are kept
abbrev KeptWorld : Type 0
KeptWorld = WorldState (List Partial)

abbrev kept : WorldBooks → KeptWorld
kept world = world_of world.shards world.books

some_is : {X : Type 0} (a b : X) → Some a ≡ Some b → a ≡ b
some_is a b h = cc

some_none : {X : Type 0} (x : X) → Some x ≡ None → ⊥
some_none x h = cc

-- one item replaced by one that is seen as it was
set_alike : {X Y : Type 0} (f : X → Y) (xs : List X) (k : ℕ) (x y : X) → slice_get xs k ≡ Some x → f y ≡ f x → map f (slice_set xs k y) ≡ map f xs
set_alike f [] k x y there same = refl
set_alike f (z ∷ xs) zero x y there same = ap (λ first. first ∷ map f xs) (same ∙ ap f (sym (some_is z x there)))
set_alike f (z ∷ xs) (suc k) x y there same = ap (λ rest. f z ∷ rest) (set_alike f xs k x y there same)

set_length : {X : Type 0} (xs : List X) (k : ℕ) (y : X) → length (slice_set xs k y) ≡ length xs
set_length [] k y = refl
set_length (z ∷ xs) zero y = refl
set_length (z ∷ xs) (suc k) y = ap suc (set_length xs k y)

map_twice : {X Y Z : Type 0} (f : X → Y) (h : Y → Z) (xs : List X) → map h (map f xs) ≡ map (λ x. h (f x)) xs
map_twice f h [] = refl
map_twice f h (x ∷ xs) = ap (λ rest. h (f x) ∷ rest) (map_twice f h xs)

abbrev names : {X : Type 0} → List (History X) → List (List ℕ)
names histories = map (λ h. h.group.name) histories

-- an edit that is not refused is under the name of the group
edit_named : (to : Group) (history : History (List Partial)) → edit_refusal to history ≡ None → to.name ≡ history.group.name
edit_named to history free =
    elim (is_text to.name history.group.name) as (λ b. is_text to.name history.group.name ≡ b → cond b (option_map refusals.Book (edit_fault history)) (Some refusals.NoSuch) ≡ None → to.name ≡ history.group.name) [
      | true ↦ λ is none. same_text to.name history.group.name (sym is)
      | false ↦ λ is none. absurd (some_none refusals.NoSuch none)
    ] refl free

true_false : true ≡ false → ⊥
true_false h = cc

names_kept : (old : KeptWorld) (step : Step) (reply : Reply) (new : KeptWorld) → asks_shard step ≡ false → WorldStep partials old step reply new → names new.histories ≡ names old.histories
names_kept old (steps.Shard number step) reply new asks turn = absurd (true_false asks)
names_kept old (steps.Gather group number) reply new asks turn = absurd (true_false asks)
names_kept old step (replies.Refused refusal) new asks turn = ap (λ (world : KeptWorld). names world.histories) turn.1
names_kept old (steps.Edit group to) (replies.Edited place) new asks turn =
    let there = turn.1.there in
    let named = edit_named to turn.1.history (sym (ap (λ h. known h (edit_refusal to)) there) ∙ turn.0) in
    ap (λ (world : KeptWorld). names world.histories) turn.1.after ∙ set_alike (λ (h : History (List Partial)). h.group.name) old.histories group turn.1.history (edited turn.1.history to) there named
names_kept old (steps.Begin group t) replies.Begun new asks turn =
    ap (λ (world : KeptWorld). names world.histories) turn.1.after ∙ set_alike (λ (h : History (List Partial)). h.group.name) old.histories group turn.1.history (begun (length old.shards) turn.1.history t) turn.1.there refl
names_kept old (steps.Commit group) (replies.Committed answer) new asks turn =
    ap (λ (world : KeptWorld). names world.histories) turn.1.after ∙ set_alike (λ (h : History (List Partial)). h.group.name) old.histories group turn.1.history (committed turn.1.history answer.evaluation) turn.1.there refl
names_kept old (steps.Abandon group) replies.Abandoned new asks turn =
    ap (λ (world : KeptWorld). names world.histories) turn.1.after ∙ set_alike (λ (h : History (List Partial)). h.group.name) old.histories group turn.1.history (abandoned turn.1.history) turn.1.there refl
names_kept old (steps.CatchUp group) (replies.CaughtUp behind) new asks turn =
    ap (λ (world : KeptWorld). names world.histories) turn.1.after ∙ set_alike (λ (h : History (List Partial)). h.group.name) old.histories group turn.1.history turn.1.history turn.1.there refl
names_kept old step reply new asks turn = absurd turn.1

abbrev book_names : WorldBooks → List (List ℕ)
book_names world = map (λ (book : BookState). book.history.group.name) world.books

same_names : (old new : WorldBooks) → names (kept new).histories ≡ names (kept old).histories → book_names new ≡ book_names old
same_names old new same = sym (map_twice (λ (book : BookState). book.history) (λ h. h.group.name) new.books) ∙ same ∙ map_twice (λ (book : BookState). book.history) (λ h. h.group.name) old.books

names_stay : (old : WorldBooks) (step : Step) (reply : Reply) (new : WorldBooks) → Turned old step reply new → book_names new ≡ book_names old
names_stay old step (replies.Refused refusal) new turned = same_names old new (ap (λ (world : KeptWorld). names world.histories) (turned.refused refusal refl).1)
names_stay old (steps.Shard number step) (replies.Decided place reply) new turned = ap (map (λ (book : BookState). book.history.group.name)) turned.stores.1
names_stay old (steps.Gather group number) (replies.Gathered place) new turned =
    let turn = turned.stores in
    let after = with_history turn.asked.book (gathered turn.asked.book.history number place turn.partials) in
    ap (map (λ (book : BookState). book.history.group.name)) turn.kept ∙ set_alike (λ (book : BookState). book.history.group.name) old.books group turn.asked.book after turn.asked.there refl
names_stay old (steps.Edit group to) reply new turned = same_names old new (names_kept (kept old) (steps.Edit group to) reply (kept new) refl (turned.on_kept refl))
names_stay old (steps.Begin group t) reply new turned = same_names old new (names_kept (kept old) (steps.Begin group t) reply (kept new) refl (turned.on_kept refl))
names_stay old (steps.Commit group) reply new turned = same_names old new (names_kept (kept old) (steps.Commit group) reply (kept new) refl (turned.on_kept refl))
names_stay old (steps.Abandon group) reply new turned = same_names old new (names_kept (kept old) (steps.Abandon group) reply (kept new) refl (turned.on_kept refl))
names_stay old (steps.CatchUp group) reply new turned = same_names old new (names_kept (kept old) (steps.CatchUp group) reply (kept new) refl (turned.on_kept refl))
names_stay old step reply new turned = absurd turned.stores

shards_stay : (old : WorldBooks) (step : Step) (reply : Reply) (new : WorldBooks) → ShardsTurn old step reply new → length new.shards ≡ length old.shards
shards_stay old (steps.Shard number step) (replies.Decided place reply) new turn = ap length turn.0.now ∙ set_length old.shards number turn.0.after
shards_stay old (steps.Shard number step) (replies.Refused refusal) new (inl unasked) = ap length unasked.1
shards_stay old (steps.Shard number step) (replies.Refused refusal) new (inr turn) = ap length turn.0.now ∙ set_length old.shards number turn.0.after
shards_stay old (steps.Gather group number) (replies.Gathered place) new turn = ap length turn.decided.now ∙ set_length old.shards number turn.decided.after
shards_stay old (steps.Gather group number) (replies.Refused refusal) new (inl unasked) = ap length unasked.1
shards_stay old (steps.Gather group number) (replies.Refused refusal) new (inr turn) = ap length turn.met.now ∙ set_length old.shards number turn.met.after
shards_stay old (steps.Edit group to) reply new turn = ap length turn
shards_stay old (steps.Begin group t) reply new turn = ap length turn
shards_stay old (steps.Commit group) reply new turn = ap length turn
shards_stay old (steps.Abandon group) reply new turn = ap length turn
shards_stay old (steps.CatchUp group) reply new turn = ap length turn
shards_stay old step reply new turn = absurd turn

-- books of the same names and numbers of sinks
listed_alike : (old new : List BookState) → map (λ (book : BookState). book.history.group.name) new ≡ map (λ (book : BookState). book.history.group.name) old → sink_counts new ≡ sink_counts old → map listed new ≡ map listed old
listed_alike [] [] same counts = refl
listed_alike [] (next ∷ new) same counts = let never : ⊥ = cc in absurd never
listed_alike (book ∷ old) [] same counts = let never : ⊥ = cc in absurd never
listed_alike (book ∷ old) (next ∷ new) same counts =
    let first : next.history.group.name ≡ book.history.group.name = cc in
    let count : length next.sinks ≡ length book.sinks = cc in
    let others : map (λ (book : BookState). book.history.group.name) new ≡ map (λ (book : BookState). book.history.group.name) old = cc in
    let more : sink_counts new ≡ sink_counts old = cc in
    λ i. record { name = first i; sinks = count i } ∷ listed_alike old new others more i

-- no turn changes which groups, sinks and shards there are
pub turn_alike : (old : WorldBooks) (step : Step) (reply : Reply) (new : WorldBooks) → Turned old step reply new → IsAlike old new
turn_alike old step reply new turned =
    let run : Ran old (step ∷ []) (reply ∷ []) new = (new, turned, refl) in (
      listed_alike old.books new.books (names_stay old step reply new turned) (ran_counts old (step ∷ []) (reply ∷ []) new run),
      shards_stay old step reply new turned.stores,
    )

then_alike : (old mid new : WorldBooks) → IsAlike old mid → IsAlike mid new → IsAlike old new
then_alike old mid new first next = (next.0 ∙ first.0, next.1 ∙ first.1)

left_alike : (old new : WorldBooks) → new ≡ old → IsAlike old new
left_alike old new same = (ap (λ (world : WorldBooks). map listed world.books) same, ap (λ (world : WorldBooks). length world.shards) same)

-- nor do several
asked_alike : (old : WorldBooks) (group from left : ℕ) (answer : Result ⊤ Refusal) (new : WorldBooks) → AreAskedFor old group from left answer new → IsAlike old new
asked_alike old group from zero answer new asked = left_alike old new asked.1
asked_alike old group from (suc left) answer new (Ok place, mid, first, rest) =
    then_alike old mid new (turn_alike old (steps.Gather group from) (replies.Gathered place) mid first) (asked_alike mid group (suc from) left answer new rest)
asked_alike old group from (suc left) answer new (Err refusal, mid, first, rest) =
    then_alike old mid new (turn_alike old (steps.Gather group from) (replies.Refused refusal) mid first) (left_alike mid new rest.1)

finished_alike : (old : WorldBooks) (group : ℕ) (answer : Result Committed Refusal) (new : WorldBooks) → IsFinished old group answer new → IsAlike old new
finished_alike old group answer new (Ok done, mid, asked, commits) =
    then_alike old mid new (asked_alike old group 0 (length old.shards) (Ok done) mid asked) (turn_alike mid (steps.Commit group) (as_reply replies.Committed answer) new commits)
finished_alike old group answer new (Err refusal, mid, asked, rest) = then_alike old mid new (asked_alike old group 0 (length old.shards) (Err refusal) mid asked) (left_alike mid new rest.1)

closed_alike : (old : WorldBooks) (group : ℕ) (answer : Result Committed Refusal) (new : WorldBooks) → IsClosedOff old group answer new → IsAlike old new
closed_alike old group (Ok committed) new (mid, finished, leaves) = then_alike old mid new (finished_alike old group (Ok committed) mid finished) (left_alike mid new leaves)
closed_alike old group (Err refusal) new (mid, finished, leaves) =
    then_alike old mid new (finished_alike old group (Err refusal) mid finished) (turn_alike mid (steps.Abandon group) replies.Abandoned new leaves)

evaluated_by : (old : WorldBooks) (group t : ℕ) (begun : Result ⊤ Refusal) (mid : WorldBooks) (answer : Result Committed Refusal) (new : WorldBooks)
    → Turned old (steps.Begin group t) (as_reply (λ _. replies.Begun) begun) mid → IfDoneThen begun mid (IsClosedOff mid group) answer new → IsAlike old new
evaluated_by old group t (Ok done) mid answer new begins rest = then_alike old mid new (turn_alike old (steps.Begin group t) replies.Begun mid begins) (closed_alike mid group answer new rest)
evaluated_by old group t (Err refusal) mid answer new begins rest = then_alike old mid new (turn_alike old (steps.Begin group t) (replies.Refused refusal) mid begins) (left_alike mid new rest.1)

pub evaluated_alike : (old : WorldBooks) (group t : ℕ) (answer : Result Committed Refusal) (new : WorldBooks) → IsEvaluated old group t answer new → IsAlike old new
evaluated_alike old group t answer new is = evaluated_by old group t is.begun is.mid answer new is.begins is.following
