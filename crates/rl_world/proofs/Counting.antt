-- How many closes failed, and what each answered, where one sink or one book more is closed.
use Rattle.std.proofs.Common.{◌≡◌, ℕ, ◌+◌, ◌-◌, ◌<◌, ◌^◌, min, cond, List, [], ◌∷◌, ◌++◌, map, length, take, set, sym, ap, subst, ◌∙◌, arith}
use Rattle.std.specs.List.{AllByRecursion}
use Rattle.std.proofs.lemmas.List.{length-map, map-set, take_more_set, flat_map_more}
use Rattle.std.proofs.lemmas.List.Sums.{sum_by-append, sum_by_push}
use Rattle.rl_sinks.specs.SinkState.{SinkState}
use Rattle.rl_world.specs.Closed.{failures, sinks_of}
use Rattle.rl_world.specs.WorldState.{BookState}

each_of_both : {X : Type 0} (P : X → Type 0) (xs ys : List X) → AllByRecursion P xs → AllByRecursion P ys → AllByRecursion P (xs ++ ys)
each_of_both P [] ys firsts others = others
each_of_both P (x ∷ xs) ys firsts others = (firsts.0, each_of_both P xs ys firsts.1 others)

-- the sinks up to one that is as it is now
next_sinks : {S : Type 0} (state : S → SinkState) (nows : List S) (i : ℕ) (new : S) → i < length nows → take (i + 1) (map state (set nows i new)) ≡ take i (map state nows) ++ state new ∷ []
next_sinks state nows i new within = ap (take (i + 1)) (map-set state nows i new) ∙ take_more_set (map state nows) i (state new) (omega (arith, length-map nows state))

-- the sink at the index was closed, and those before it were
pub failures-next : {S : Type 0} (state : S → SinkState) (nows : List S) (i : ℕ) (new : S) → i < length nows → failures (take (i + 1) (map state (set nows i new))) ≡ failures (take i (map state nows)) + cond (state new).failed 1 0
failures-next state nows i new within = ap failures (next_sinks state nows i new within) ∙ sum_by_push (λ (sink : SinkState). cond sink.failed 1 0) (take i (map state nows)) (state new)

pub each-next : {S : Type 0} (P : SinkState → Type 0) (state : S → SinkState) (nows : List S) (i : ℕ) (new : S) → i < length nows → AllByRecursion P (take i (map state nows)) → P (state new) → AllByRecursion P (take (i + 1) (map state (set nows i new)))
each-next P state nows i new within others one = subst (AllByRecursion P) (sym (next_sinks state nows i new within)) (each_of_both P (take i (map state nows)) (state new ∷ []) others (one, tt))

least_of_sum : (count failures one most : ℕ) → count ≡ min failures most → min (count + one) most ≡ min (failures + one) most
least_of_sum count failures one most is = omega (arith, is)

-- the sinks of books up to one that is as it is now
next_books : (nows : List BookState) (i : ℕ) (new : BookState) → i < length nows → sinks_of (take (i + 1) (set nows i new)) ≡ sinks_of (take i nows) ++ new.sinks
next_books nows i new within = ap sinks_of (take_more_set nows i new within) ∙ sym (flat_map_more (λ (book : BookState). book.sinks) [] (take i nows) new)

-- the sinks of the book at the index were closed, and those of the books before it were
pub books-counted : (nows : List BookState) (i : ℕ) (new : BookState) (count one after : ℕ) → i < length nows → one ≡ failures new.sinks → after ≡ min (count + one) (2 ^ 64 - 1) → count ≡ min (failures (sinks_of (take i nows))) (2 ^ 64 - 1)
    → after ≡ min (failures (sinks_of (take (i + 1) (set nows i new)))) (2 ^ 64 - 1)
books-counted nows i new count one after within here is so_far =
    is
    ∙ least_of_sum count (failures (sinks_of (take i nows))) one (2 ^ 64 - 1) so_far
    ∙ ap (λ n. min (failures (sinks_of (take i nows)) + n) (2 ^ 64 - 1)) here
    ∙ ap (λ n. min n (2 ^ 64 - 1)) (sym (ap failures (next_books nows i new within) ∙ sum_by-append (λ (sink : SinkState). cond sink.failed 1 0) (sinks_of (take i nows)) new.sinks))

pub books-answered : (P : SinkState → Type 0) (nows : List BookState) (i : ℕ) (new : BookState) → i < length nows → AllByRecursion P (sinks_of (take i nows)) → AllByRecursion P new.sinks → AllByRecursion P (sinks_of (take (i + 1) (set nows i new)))
books-answered P nows i new within others here = subst (AllByRecursion P) (sym (next_books nows i new within)) (each_of_both P (sinks_of (take i nows)) new.sinks others here)
