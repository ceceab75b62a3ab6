-- Sinks that are closed one after another, and what is counted of shards and their shares.
use Rattle.std.proofs.Common.{◌≡◌, ◌⊎◌, inl, inr, ℕ, zero, suc, ◌+◌, ◌<◌, ◌≤◌, Bool, true, false, cond, if◌then◌else◌, List, [], ◌∷◌, ◌++◌, map, length, take, get_or, set, slice_get, slice_set, None, IfSome, refl, sym, ap, subst, ◌∙◌, arith, append_assoc, length-append}
use Rattle.std.proofs.lemmas.List.{append-nil, length-map, length-set, length-take-le, map-append, take_more_set}
use Rattle.std.proofs.lemmas.List.Sums.{sum-map}
use Rattle.std.specs.List.{AllByRecursion, sum, sum_by}
use Rattle.std.specs.Vec.Iter.{into_iter_items, into_iter_steps}
use Rattle.std.specs.declared.vec.IntoIter.{IntoIter}
use Rattle.rl_sinks.specs.SinkState.{SinkState, closed}
use Rattle.rl_world.specs.WorldState.{BookState, with_sinks}
use Rattle.rl_workers.specs.Closing.{unclosed_in, unclosed_of, AreClosed}

pub each_more : {X : Type 0} (P : X → Type 0) (xs : List X) (x : X) → AllByRecursion P xs → P x → AllByRecursion P (xs ++ x ∷ [])
each_more P [] x all one = (one, tt)
each_more P (y ∷ xs) x all one = (all.0, each_more P xs x all.1 one)

-- what is listed, after something else, with one part more
pub then_more : {X : Type 0} (before so_far listed one now after : List X) → so_far ≡ before ++ listed → now ≡ so_far ++ one → after ≡ listed ++ one → now ≡ before ++ after
then_more before so_far listed one now after is more all = more ∙ ap (λ l. l ++ one) is ∙ append_assoc before listed one ∙ ap (λ l. before ++ l) (sym all)

-- SHARES

-- one more is counted
pub amounts_more : {A B : Type 0} (f : A → ℕ) (g : B → ℕ) (xs : List A) (ys : List B) (x : A) (y : B) → map g ys ≡ map f xs → g y ≡ f x → map g (ys ++ y ∷ []) ≡ map f (xs ++ x ∷ [])
amounts_more f g xs ys x y so_far one = map-append g ys (y ∷ []) ∙ (λ i. so_far i ++ one i ∷ []) ∙ sym (map-append f xs (x ∷ []))

-- there are as many of both
pub as_many : {A B : Type 0} (f : A → ℕ) (g : B → ℕ) (xs : List A) (ys : List B) → map g ys ≡ map f xs → length ys ≡ length xs
as_many f g xs ys same = sym (length-map ys g) ∙ ap length same ∙ length-map xs f

-- and they add up to as much
pub same_sum : {A B : Type 0} (f : A → ℕ) (g : B → ℕ) (xs : List A) (ys : List B) → map g ys ≡ map f xs → sum_by f xs ≡ sum_by g ys
same_sum f g xs ys same = sym (sum-map f xs) ∙ sym (ap sum same) ∙ sum-map g ys

-- where one of the two has ended, nothing is left of the first
pub none_left : {A B Z W : Type 0} (f : A → ℕ) (g : B → ℕ) (xs : IntoIter A Z) (ys : IntoIter B W) → ((t : IntoIter A Z) × into_iter_steps xs None t) ⊎ ((t : IntoIter B W) × into_iter_steps ys None t) → map g (into_iter_items ys) ≡ map f (into_iter_items xs) → length (into_iter_items xs) ≡ 0
none_left f g xs ys (inl (t, step)) same = sym xs.rest.ok.0 ∙ step.0
none_left f g xs ys (inr (t, step)) same = sym (as_many f g (into_iter_items xs) (into_iter_items ys) same) ∙ sym ys.rest.ok.0 ∙ step.0

-- SINKS

-- what holds of an item if it is there holds of one that is
pub there : {X : Type 0} (P : X → Type 0) (xs : List X) (k : ℕ) → k < length xs → IfSome (slice_get xs k) P → (x : X) × P x
there P [] k below holds = absurd (omega (arith, below))
there P (x ∷ xs) zero below holds = (x, holds)
there P (x ∷ xs) (suc k) below holds = there P xs k (omega (arith, below)) holds

-- one that could not write all is listed
cond-append : {X : Type 0} (b : Bool) (x : X) (xs ys more : List X) → xs ≡ ys ++ more → (if b then x ∷ xs else xs) ≡ (if b then x ∷ ys else ys) ++ more
cond-append true x xs ys more e = ap (λ l. x ∷ l) e
cond-append false x xs ys more e = e

unclosed_of-more : (group first : ℕ) (sinks : List SinkState) (sink : SinkState) → unclosed_of group first (sinks ++ sink ∷ []) ≡ unclosed_of group first sinks ++ cond sink.failed ((group, first + length sinks) ∷ []) []
unclosed_of-more group first [] sink = ap (λ n. cond sink.failed ((group, n) ∷ []) []) (omega arith)
unclosed_of-more group first (other ∷ sinks) sink =
    cond-append other.failed (group, first) (unclosed_of group (suc first) (sinks ++ sink ∷ [])) (unclosed_of group (suc first) sinks) _
    (unclosed_of-more group (suc first) sinks sink ∙ ap (λ n. unclosed_of group (suc first) sinks ++ cond sink.failed ((group, n) ∷ []) []) (omega arith))

few_unclosed : (group first : ℕ) (sinks : List SinkState) → length (unclosed_of group first sinks) ≤ length sinks
few_unclosed group first [] = omega arith
few_unclosed group first (sink ∷ sinks) = one_more sink.failed (few_unclosed group (suc first) sinks)
  where
    one_more : (b : Bool) → length (unclosed_of group (suc first) sinks) ≤ length sinks → length (if b then (group, first) ∷ unclosed_of group (suc first) sinks else unclosed_of group (suc first) sinks) ≤ suc (length sinks)
    one_more true few = omega (arith, few)
    one_more false few = omega (arith, few)

-- what they take of a list with room
pub few_more : (group : ℕ) (book : BookState) (listed more : List (ℕ × ℕ)) → more ≡ listed ++ unclosed_of group 0 book.sinks → length more ≤ length listed + length book.sinks
few_more group book listed more is = omega (arith, ap length is, length-append listed (unclosed_of group 0 book.sinks), few_unclosed group 0 book.sinks)

unclosed_in-more : (first : ℕ) (books : List BookState) (book : BookState) → unclosed_in first (books ++ book ∷ []) ≡ unclosed_in first books ++ unclosed_of (first + length books) 0 book.sinks
unclosed_in-more first [] book = append-nil (unclosed_of first 0 book.sinks) ∙ ap (λ n. unclosed_of n 0 book.sinks) (omega arith)
unclosed_in-more first (other ∷ books) book =
    ap (λ (more : List (ℕ × ℕ)). unclosed_of first 0 other.sinks ++ more) (unclosed_in-more (suc first) books book ∙ ap (λ n. unclosed_in (suc first) books ++ unclosed_of n 0 book.sinks) (omega arith))
    ∙ sym (append_assoc (unclosed_of first 0 other.sinks) (unclosed_in (suc first) books) (unclosed_of (first + length (other ∷ books)) 0 book.sinks))

-- the sink at the index was closed, and those before it were
pub one_closed : (group k : ℕ) (book new : BookState) (failed : Bool) → k < length book.sinks → IfSome (slice_get book.sinks k) (λ own. new ≡ with_sinks book (slice_set book.sinks k (closed own failed)))
    → AllByRecursion (λ sink. sink.closed ≡ true) (take k book.sinks)
    → (length new.sinks ≡ length book.sinks) × AllByRecursion (λ sink. sink.closed ≡ true) (take (k + 1) new.sinks) × (unclosed_of group 0 (take (k + 1) new.sinks) ≡ unclosed_of group 0 (take k book.sinks) ++ cond failed ((group, k) ∷ []) []) × (new ≡ with_sinks book new.sinks)
one_closed group k book new failed below is others =
    let own = there (λ own. new ≡ with_sinks book (slice_set book.sinks k (closed own failed))) book.sinks k below is in
    let sink : SinkState = closed own.0 failed in
    let sinks : new.sinks ≡ set book.sinks k sink = ap (λ (b : BookState). b.sinks) own.1 in
    let so_far : take (k + 1) new.sinks ≡ take k book.sinks ++ sink ∷ [] = ap (take (k + 1)) sinks ∙ take_more_set book.sinks k sink below in
    let count : 0 + length (take k book.sinks) ≡ k = omega (arith, below, length-take-le {A = SinkState}) in (
      ap length sinks ∙ length-set book.sinks k sink,
      subst (AllByRecursion (λ (s : SinkState). s.closed ≡ true)) (sym so_far) (each_more (λ (s : SinkState). s.closed ≡ true) (take k book.sinks) sink others refl),
      ap (unclosed_of group 0) so_far ∙ unclosed_of-more group 0 (take k book.sinks) sink ∙ ap (λ n. unclosed_of group 0 (take k book.sinks) ++ cond failed ((group, n) ∷ []) []) count,
      own.1 ∙ ap (with_sinks book) (sym sinks),
    )

-- a part of each item stays where an item is replaced by one with the same part
pub same_part : {X Y : Type 0} (f : X → Y) (xs : List X) (i : ℕ) (x y : X) → get_or xs i x ≡ x → f y ≡ f x → map f (set xs i y) ≡ map f xs
same_part f [] i x y here same = refl
same_part f (z ∷ xs) zero x y here same = ap (λ first. first ∷ map f xs) (same ∙ ap f (sym here))
same_part f (z ∷ xs) (suc i) x y here same = ap (λ rest. f z ∷ rest) (same_part f xs i x y here same)

-- where a part of all items is the same, so is a part of it
pub parts_of_parts : {X Y Z : Type 0} (f : X → Y) (h : Y → Z) (xs ys : List X) → map f xs ≡ map f ys → map (λ x. h (f x)) xs ≡ map (λ x. h (f x)) ys
parts_of_parts {X = X} {Y = Y} f h xs ys same = sym (parts h xs) ∙ ap (map h) same ∙ parts h ys
  where
    parts : {W : Type 0} (h : Y → W) (xs : List X) → map h (map f xs) ≡ map (λ x. h (f x)) xs
    parts h [] = refl
    parts h (x ∷ xs) = ap (λ rest. h (f x) ∷ rest) (parts h xs)

-- and what holds of it
pub all_of_parts : {X Y : Type 0} (f : X → Y) (P : Y → Type 0) (xs ys : List X) → map f xs ≡ map f ys → AllByRecursion (λ x. P (f x)) ys → AllByRecursion (λ x. P (f x)) xs
all_of_parts {X = X} f P xs ys same all = from xs (subst (AllByRecursion P) (sym same) (to ys all))
  where
    to : (xs : List X) → AllByRecursion (λ x. P (f x)) xs → AllByRecursion P (map f xs)
    to [] all = tt
    to (x ∷ xs) all = (all.0, to xs all.1)

    from : (xs : List X) → AllByRecursion P (map f xs) → AllByRecursion (λ x. P (f x)) xs
    from [] all = tt
    from (x ∷ xs) all = (all.0, from xs all.1)

-- the sinks of the book at the index were closed, and those of the books before it were
pub books_closed : (nows : List BookState) (i : ℕ) (new : BookState) → i < length nows → AreClosed (take i nows) → AllByRecursion (λ sink. sink.closed ≡ true) new.sinks → AreClosed (take (i + 1) (set nows i new))
books_closed nows i new within others here = subst AreClosed (sym (take_more_set nows i new within)) (each_more (λ (book : BookState). AllByRecursion (λ sink. sink.closed ≡ true) book.sinks) (take i nows) new others here)

pub books_unclosed : (nows : List BookState) (i : ℕ) (new : BookState) → i < length nows → unclosed_in 0 (take (i + 1) (set nows i new)) ≡ unclosed_in 0 (take i nows) ++ unclosed_of i 0 new.sinks
books_unclosed nows i new within =
    let count : 0 + length (take i nows) ≡ i = omega (arith, within, length-take-le {A = BookState}) in
    ap (unclosed_in 0) (take_more_set nows i new within) ∙ unclosed_in-more 0 (take i nows) new ∙ ap (λ n. unclosed_in 0 (take i nows) ++ unclosed_of n 0 new.sinks) count
