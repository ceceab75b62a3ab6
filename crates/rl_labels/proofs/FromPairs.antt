-- From pairs in any order to labels by rising name.
use Rattle.std.proofs.Common.{◌≡◌, ℕ, zero, suc, ◌+◌, ◌<◌, ◌≤◌, nat_lt, Bool, true, false, cond, not, ◌&&◌, ◌||◌, List, [], ◌∷◌, None, Some, get_or, refl, sym, ap, subst, ◌∙◌, arith}
use Rattle.std.specs.Option.{option_and_then}
use Rattle.std.specs.List.{list_all, list_any, filter, Contains}
use Rattle.std.specs.List.Sorted.{IsPermutation, IsSorted}
use Rattle.std.specs.Ordering.{eq_by_cmp, is_lt, is_eq, nat_cmp, ordering_then, ordering_reverse}
use Rattle.std.specs.declared.cmp.Ordering.{Ordering}
use Rattle.std.specs.declared.cmp.Ordering.TheVariants.{Less, Equal, Greater}
use Rattle.std.specs.Cmp.Lexicographic.{texts_ties, slice_cmp}
use Rattle.std.specs.FinMap.Entries.{find, is_sorted, below_all}
use Rattle.std.proofs.lemmas.Bool.{and_parts, and_from, true≢false, lt-ltb, le-ltb}
use Rattle.std.proofs.lemmas.List.Sorted.{sum_by-IsPermutation, Contains-permutation, All-permutation, IsPermutation-sym}
use Rattle.std.proofs.lemmas.List.Sums.{sum_by-cons, AllPass-from_list_all, list_all-from_AllPass}
use Rattle.std.proofs.lemmas.Cmp.{tied_itself}
use Rattle.rl_labels.specs.Name.{name_cmp, is_text, is_name, is_stream_name}
use Rattle.rl_labels.specs.LabelSet.{Pair, is_empty, is_label, are_labels, label, label_set_of, non_empty, given}
use Rattle.rl_labels.specs.LabelText.{canonical_text, labels_text}
use Rattle.rl_labels.specs.laws.LabelLaws.{labels_of-label_set_of, name_cmp_total, name_cmp-IsAntisymmetric, same_text, is_text_itself, other_texts, same_label_set, are_named, are_named-labels, label-label_set_of, given-labels}
use Rattle.rl_labels.specs.Pairs.{names_are_good, times_named, has_same_name}
use Rattle.rl_labels.specs.Rising.{pair_cmp, rises, has_value}

less : (o : Ordering) → is_lt o ≡ true → o ≡ Less
less Less e = refl
less Equal e = absurd (true≢false (sym e))
less Greater e = absurd (true≢false (sym e))

-- a name below another is not it
apart : (x y : List ℕ) → is_lt (name_cmp x y) ≡ true → is_text y x ≡ false
apart x y below = other_texts y x (λ same. true≢false (sym below ∙ ap (λ z. is_lt (name_cmp x z)) same ∙ ap is_lt (tied_itself name_cmp_total x)))

pub below_more_names : (x y : List ℕ) (es : List Pair) → is_lt (name_cmp x y) ≡ true → below_all name_cmp y es ≡ true → below_all name_cmp x es ≡ true
below_more_names x y [] below h = refl
below_more_names x y (e ∷ es) below h =
    let parts = and_parts (is_lt (name_cmp y e.0)) (below_all name_cmp y es) h in
    and_from _ _ (ap is_lt (name_cmp_total.trans x y e.0 (less _ below) (less _ parts.0))) (below_more_names x y es below parts.1)

-- names of which each is below the next are in order
pub sorted_from_rises : (es : List Pair) → rises es ≡ true → is_sorted name_cmp es ≡ true
sorted_from_rises [] h = refl
sorted_from_rises (e ∷ []) h = refl
sorted_from_rises (e ∷ f ∷ es) h =
    let parts = and_parts (is_lt (name_cmp e.0 f.0)) (rises (f ∷ es)) h in
    let rest = sorted_from_rises (f ∷ es) parts.1 in
    let below = and_parts (below_all name_cmp f.0 es) (is_sorted name_cmp es) rest in
    and_from _ _ (and_from _ _ parts.0 (below_more_names e.0 f.0 es parts.0 below.0)) rest

times-cons : (q : List ℕ) (e : Pair) (es : List Pair) → times_named q (e ∷ es) ≡ cond (is_text e.0 q) 1 0 + times_named q es
times-cons q e es = sum_by-cons (λ pair. cond (is_text pair.0 q) 1 0) e es

times_zero : (x : List ℕ) (es : List Pair) → below_all name_cmp x es ≡ true → times_named x es ≡ 0
times_zero x [] h = refl
times_zero x (e ∷ es) h =
    let parts = and_parts (is_lt (name_cmp x e.0)) (below_all name_cmp x es) h in
    let rest = times_zero x es parts.1 in
    let first : is_text e.0 x ≡ false = apart x e.0 parts.0 in
    times-cons x e es ∙ ap (λ b. cond b 1 0 + times_named x es) first ∙ omega (arith, rest)

-- in order, no name stands twice
pub once_in_order : (es : List Pair) → is_sorted name_cmp es ≡ true → (q : List ℕ) → times_named q es ≤ 1
once_in_order [] h q = omega arith
once_in_order (e ∷ es) h q =
    let parts = and_parts (below_all name_cmp e.0 es) (is_sorted name_cmp es) h in
    rw (times-cons q e es) (elim (is_text e.0 q) as (λ b. is_text e.0 q ≡ b → cond b 1 0 + times_named q es ≤ 1) [
      | true ↦ λ same. let none : times_named q es ≡ 0 = subst (λ n. times_named n es ≡ 0) (same_text e.0 q same) (times_zero e.0 es parts.0) in omega (arith, none)
      | false ↦ λ _. omega (arith, once_in_order es parts.1 q)
    ] refl)

-- a permutation has each name as often
pub times-permuted : (q : List ℕ) (es fs : List Pair) → IsPermutation es fs → times_named q fs ≡ times_named q es
times-permuted q es fs h = sum_by-IsPermutation (λ pair. cond (is_text pair.0 q) 1 0) es fs h

none_twice : (all es : List Pair) → ((q : List ℕ) → times_named q all ≤ 1) → list_any (λ pair. nat_lt 1 (times_named pair.0 all)) es ≡ false
none_twice all [] once = refl
none_twice all (e ∷ es) once = ap (λ b. b || list_any (λ pair. nat_lt 1 (times_named pair.0 all)) es) (le-ltb 1 (times_named e.0 all) (once e.0)) ∙ none_twice all es once

pub no_same_name : (es : List Pair) → ((q : List ℕ) → times_named q es ≤ 1) → has_same_name es ≡ false
no_same_name es once = none_twice es es once

some_twice : (all es : List Pair) (q : List ℕ) → 1 < times_named q all → 0 < times_named q es → list_any (λ pair. nat_lt 1 (times_named pair.0 all)) es ≡ true
some_twice all [] q twice some = absurd (omega arith)
some_twice all (e ∷ es) q twice some =
    elim (is_text e.0 q) as (λ b. is_text e.0 q ≡ b → 0 < cond b 1 0 + times_named q es → (nat_lt 1 (times_named e.0 all) || list_any (λ pair. nat_lt 1 (times_named pair.0 all)) es) ≡ true) [
      | true ↦ λ same _. ap (λ b. b || list_any (λ pair. nat_lt 1 (times_named pair.0 all)) es) (lt-ltb 1 (times_named e.0 all) (subst (λ n. 1 < times_named n all) (sym (same_text e.0 q same)) twice))
      | false ↦ λ _ rest. or_right (nat_lt 1 (times_named e.0 all)) _ (some_twice all es q twice (omega arith))
    ] refl (rw (times-cons q e es) at some)
  where
    or_right : (a b : Bool) → b ≡ true → (a || b) ≡ true
    or_right true b h = refl
    or_right false b h = h

-- a name that stands twice is found
pub same_name_found : (es : List Pair) (q : List ℕ) → 1 < times_named q es → has_same_name es ≡ true
same_name_found es q twice = some_twice es es q twice (omega arith)

-- of pairs sorted by name and value, two neighbours whose names do not rise have one name
tied_names : (n m : List ℕ) → is_lt (name_cmp n m) ≡ false → is_lt (name_cmp m n) ≡ false → n ≡ m
tied_names n m a b =
    elim (name_cmp n m) as (λ o. name_cmp n m ≡ o → n ≡ m) [
      | Less ↦ λ e. absurd (true≢false (sym (ap is_lt e) ∙ a))
      | Equal ↦ λ e. name_cmp-IsAntisymmetric n m e
      | Greater ↦ λ e. absurd (true≢false (sym (ap is_lt (name_cmp_total.antisymm m n ∙ ap ordering_reverse e)) ∙ b))
    ] refl

name_not_less : (p q : Pair) → is_lt (pair_cmp p q) ≡ false → is_lt (name_cmp p.0 q.0) ≡ false
name_not_less p q h =
    elim (name_cmp p.0 q.0) as (λ o. is_lt (ordering_then o (slice_cmp nat_cmp p.1 q.1)) ≡ false → is_lt o ≡ false) [
      | Less ↦ λ e. e
      | Equal ↦ λ _. refl
      | Greater ↦ λ _. refl
    ] h

-- sorted pairs whose names do not rise have a name twice
pub twice_from_sorted : (es : List Pair) → IsSorted pair_cmp es → rises es ≡ false → (q : List ℕ) × (1 < times_named q es)
twice_from_sorted [] sorted h = absurd (true≢false h)
twice_from_sorted (e ∷ []) sorted h = absurd (true≢false h)
twice_from_sorted (e ∷ f ∷ es) sorted h =
    elim (is_lt (name_cmp e.0 f.0)) as (λ b. is_lt (name_cmp e.0 f.0) ≡ b → (b && rises (f ∷ es)) ≡ false → (q : List ℕ) × (1 < times_named q (e ∷ f ∷ es))) [
      | true ↦ λ _ rest.
          let more = twice_from_sorted (f ∷ es) (λ k d low high. let next : suc k + 1 ≡ suc (k + 1) = omega arith in subst (λ n. is_lt (pair_cmp (get_or (e ∷ f ∷ es) n d) (get_or (f ∷ es) k d)) ≡ false) next (sorted (suc k) d (omega arith) (omega arith))) rest in
          (more.0, let more_than : 1 < times_named more.0 (f ∷ es) = more.1 in omega (arith, times-cons more.0 e (f ∷ es)))
      | false ↦ λ not_below _.
          let same : e.0 ≡ f.0 = tied_names e.0 f.0 not_below (name_not_less f e (sorted 0 e (omega arith) (omega arith))) in
          (f.0, rw (times-cons f.0 e (f ∷ es), times-cons f.0 f es) (two (is_text e.0 f.0) (is_text f.0 f.0) (times_named f.0 es) (ap (λ n. is_text n f.0) same ∙ is_text_itself f.0) (is_text_itself f.0)))
    ] refl h
  where
    two : (a b : Bool) (n : ℕ) → a ≡ true → b ≡ true → 1 < cond a 1 0 + (cond b 1 0 + n)
    two true true n p q = omega arith
    two true false n p q = absurd (true≢false (sym q))
    two false b n p q = absurd (true≢false (sym p))

times_positive : (q v : List ℕ) (es : List Pair) → Contains es (q, v) → 0 < times_named q es
times_positive q v [] (k, below, is) = absurd (omega arith)
times_positive q v (e ∷ es) (zero, below, is) = rw (times-cons q e es) (one (is_text e.0 q) (times_named q es) (ap (λ (p : Pair). is_text p.0 q) is ∙ is_text_itself q))
  where
    one : (b : Bool) (n : ℕ) → b ≡ true → 0 < cond b 1 0 + n
    one true n h = omega arith
    one false n h = absurd (true≢false (sym h))
times_positive q v (e ∷ es) (suc k, below, is) = rw (times-cons q e es) (let rest = times_positive q v es (k, omega arith, is) in omega arith)

-- what a look-up finds stands in the list
find_some : (es : List Pair) (q v : List ℕ) → find name_cmp q es ≡ Some v → Contains es (q, v)
find_some [] q v h = cc
find_some (e ∷ es) q v h =
    elim (name_cmp q e.0) as (λ o. name_cmp q e.0 ≡ o → cond (is_eq o) (Some e.1) (find name_cmp q es) ≡ Some v → Contains (e ∷ es) (q, v)) [
      | Less ↦ λ _ h. later (find_some es q v h)
      | Equal ↦ λ tied h. let same : q ≡ e.0 = name_cmp-IsAntisymmetric q e.0 tied in let value : e.1 ≡ v = cc in (0, omega arith, λ i. (sym same i, value i))
      | Greater ↦ λ _ h. later (find_some es q v h)
    ] refl h
  where
    later : Contains es (q, v) → Contains (e ∷ es) (q, v)
    later (k, below, is) = (suc k, omega arith, is)

-- a name that stands at most once is found where it stands
find_here : (es : List Pair) (q v : List ℕ) → times_named q es ≤ 1 → Contains es (q, v) → find name_cmp q es ≡ Some v
find_here [] q v few (k, below, is) = absurd (omega arith)
find_here (e ∷ es) q v few (zero, below, is) =
    ap (λ (p : Pair). cond (eq_by_cmp name_cmp q p.0) (Some p.1) (find name_cmp q es)) is
    ∙ ap (λ o. cond (is_eq o) (Some v) (find name_cmp q es)) (tied_itself name_cmp_total q)
find_here (e ∷ es) q v few (suc k, below, is) =
    let there : Contains es (q, v) = (k, omega arith, is) in
    elim (is_text e.0 q) as (λ b. is_text e.0 q ≡ b → cond b 1 0 + times_named q es ≤ 1 → find name_cmp q (e ∷ es) ≡ Some v) [
      | true ↦ λ _ few. absurd (let some = times_positive q v es there in omega arith)
      | false ↦ λ other few.
          ap (λ b. cond b (Some e.1) (find name_cmp q es)) (sym (texts_ties q e.0) ∙ other_texts q e.0 (λ same. true≢false (sym (is_text_itself e.0) ∙ ap (is_text e.0) (sym same) ∙ other)))
          ∙ find_here es q v (omega arith) there
    ] refl (rw (times-cons q e es) at few)

-- a permutation of pairs with different names answers alike
pub find-permuted : (es fs : List Pair) (q : List ℕ) → IsPermutation es fs → times_named q es ≤ 1 → find name_cmp q es ≡ find name_cmp q fs
find-permuted es fs q moved few =
    elim (find name_cmp q es) as (λ o. find name_cmp q es ≡ o → o ≡ find name_cmp q fs) [
      | None ↦ λ none. elim (find name_cmp q fs) as (λ o. find name_cmp q fs ≡ o → None ≡ o) [
        | None ↦ λ _. refl
        | Some v ↦ λ there. sym none ∙ find_here es q v few (Contains-permutation fs es (q, v) (IsPermutation-sym es fs moved) (find_some fs q v there))
      ] refl
      | Some v ↦ λ there. sym (find_here fs q v (let same = times-permuted q es fs moved in omega arith) (Contains-permutation es fs (q, v) moved (find_some es q v there)))
    ] refl

-- of pairs in order, those with a value are in order
below_filter : (x : List ℕ) (p : Pair → Bool) (es : List Pair) → below_all name_cmp x es ≡ true → below_all name_cmp x (filter p es) ≡ true
below_filter x p [] h = refl
below_filter x p (e ∷ es) h =
    let parts = and_parts (is_lt (name_cmp x e.0)) (below_all name_cmp x es) h in
    elim (p e) as (λ b. below_all name_cmp x (cond b (e ∷ filter p es) (filter p es)) ≡ true) [
      | true ↦ and_from _ _ parts.0 (below_filter x p es parts.1)
      | false ↦ below_filter x p es parts.1
    ]

sorted_filter : (p : Pair → Bool) (es : List Pair) → is_sorted name_cmp es ≡ true → is_sorted name_cmp (filter p es) ≡ true
sorted_filter p [] h = refl
sorted_filter p (e ∷ es) h =
    let parts = and_parts (below_all name_cmp e.0 es) (is_sorted name_cmp es) h in
    elim (p e) as (λ b. is_sorted name_cmp (cond b (e ∷ filter p es) (filter p es)) ≡ true) [
      | true ↦ and_from _ _ (below_filter e.0 p es parts.0) (sorted_filter p es parts.1)
      | false ↦ sorted_filter p es parts.1
    ]

labels_filter : (es : List Pair) → are_named es ≡ true → list_all is_label (filter has_value es) ≡ true
labels_filter [] h = refl
labels_filter (e ∷ es) h =
    let parts = and_parts (is_name e.0) (are_named es) h in
    elim (has_value e) as (λ b. has_value e ≡ b → list_all is_label (cond b (e ∷ filter has_value es) (filter has_value es)) ≡ true) [
      | true ↦ λ full. and_from _ _ (and_from _ _ parts.0 full) (labels_filter es parts.1)
      | false ↦ λ _. labels_filter es parts.1
    ] refl

-- named pairs in order, without those that have no value, are labels
pub labels_from_named : (es : List Pair) → is_sorted name_cmp es ≡ true → are_named es ≡ true → are_labels (filter has_value es) ≡ true
labels_from_named es sorted named = and_from _ _ (sorted_filter has_value es sorted) (labels_filter es named)

find_none : (es : List Pair) (q : List ℕ) → times_named q es ≡ 0 → find name_cmp q (filter has_value es) ≡ None
find_none [] q h = refl
find_none (e ∷ es) q h =
    elim (is_text e.0 q) as (λ b. is_text e.0 q ≡ b → cond b 1 0 + times_named q es ≡ 0 → find name_cmp q (filter has_value (e ∷ es)) ≡ None) [
      | true ↦ λ _ none. absurd (omega arith)
      | false ↦ λ other none.
          let rest = find_none es q (omega arith) in
          let passed : eq_by_cmp name_cmp q e.0 ≡ false = sym (texts_ties q e.0) ∙ other_texts q e.0 (λ same. true≢false (sym (is_text_itself e.0) ∙ ap (is_text e.0) (sym same) ∙ other)) in
          elim (has_value e) as (λ b. find name_cmp q (cond b (e ∷ filter has_value es) (filter has_value es)) ≡ None) [
            | true ↦ ap (λ b. cond b (Some e.1) (find name_cmp q (filter has_value es))) passed ∙ rest
            | false ↦ rest
          ]
    ] refl (rw (times-cons q e es) at h)

-- what pairs give a name is what those with a value have
pub find-filter : (es : List Pair) (q : List ℕ) → times_named q es ≤ 1 → find name_cmp q (filter has_value es) ≡ given es q
find-filter [] q h = refl
find-filter (e ∷ es) q h =
    elim (is_text e.0 q) as (λ b. is_text e.0 q ≡ b → cond b 1 0 + times_named q es ≤ 1 → find name_cmp q (filter has_value (e ∷ es)) ≡ given (e ∷ es) q) [
      | true ↦ λ same few.
          let tied : eq_by_cmp name_cmp q e.0 ≡ true = ap (λ n. eq_by_cmp name_cmp q n) (same_text e.0 q same) ∙ ap is_eq (tied_itself name_cmp_total q) in
          let none = find_none es q (omega arith) in
          elim (is_empty e.1) as (λ b. find name_cmp q (cond (not b) (e ∷ filter has_value es) (filter has_value es)) ≡ cond b None (Some e.1)) [
            | true ↦ none
            | false ↦ ap (λ b. cond b (Some e.1) (find name_cmp q (filter has_value es))) tied
          ]
          ∙ ap (λ b. option_and_then non_empty (cond b (Some e.1) (find name_cmp q es))) (sym tied)
      | false ↦ λ other few.
          let rest = find-filter es q (omega arith) in
          let passed : eq_by_cmp name_cmp q e.0 ≡ false = sym (texts_ties q e.0) ∙ other_texts q e.0 (λ same. true≢false (sym (is_text_itself e.0) ∙ ap (is_text e.0) (sym same) ∙ other)) in
          elim (has_value e) as (λ b. find name_cmp q (cond b (e ∷ filter has_value es) (filter has_value es)) ≡ given es q) [
            | true ↦ ap (λ b. cond b (Some e.1) (find name_cmp q (filter has_value es))) passed ∙ rest
            | false ↦ rest
          ]
          ∙ ap (λ b. option_and_then non_empty (cond b (Some e.1) (find name_cmp q es))) (sym passed)
    ] refl (rw (times-cons q e es) at h)

-- good names are names
pub named_from_good : (es : List Pair) → names_are_good es ≡ true → are_named es ≡ true
named_from_good [] h = refl
named_from_good (e ∷ es) h =
    let parts = and_parts (is_stream_name e.0) (names_are_good es) h in
    and_from _ _ (and_parts (is_name e.0) _ parts.0).0 (named_from_good es parts.1)

-- what one sort of the pairs with good names leaves
pub record Sorts (pairs sorted : List Pair) : Type 0 where
  pub good : names_are_good pairs ≡ true
  pub moved : IsPermutation pairs sorted
  pub in_order : IsSorted pair_cmp sorted

pub named_sorts : (pairs sorted : List Pair) → Sorts pairs sorted → are_named sorted ≡ true
named_sorts pairs sorted h =
    list_all-from_AllPass (λ pair. is_name pair.0) sorted (All-permutation (λ pair. is_name pair.0 ≡ true) pairs sorted h.moved (AllPass-from_list_all (λ pair. is_name pair.0) pairs (named_from_good pairs h.good)))

-- where names rise, no name stands twice
pub once_sorts : (pairs sorted : List Pair) → Sorts pairs sorted → rises sorted ≡ true → (q : List ℕ) → times_named q pairs ≤ 1
once_sorts pairs sorted h up q =
    let same = times-permuted q pairs sorted h.moved in
    let few = once_in_order sorted (sorted_from_rises sorted up) q in
    omega arith

-- where they do not, one does
pub twice_sorts : (pairs sorted : List Pair) → Sorts pairs sorted → rises sorted ≡ false → has_same_name pairs ≡ true
twice_sorts pairs sorted h not_up =
    let found = twice_from_sorted sorted h.in_order not_up in
    let same = times-permuted found.0 pairs sorted h.moved in
    let many : 1 < times_named found.0 sorted = found.1 in
    same_name_found pairs found.0 (omega arith)

pub labels_sorts : (pairs sorted : List Pair) → Sorts pairs sorted → rises sorted ≡ true → are_labels (filter has_value sorted) ≡ true
labels_sorts pairs sorted h up = labels_from_named sorted (sorted_from_rises sorted up) (named_sorts pairs sorted h)

-- the pairs with a value, in order, make the set of the pairs
pub set_sorts : (pairs sorted : List Pair) → Sorts pairs sorted → rises sorted ≡ true → label_set_of (filter has_value sorted) ≡ label_set_of pairs
set_sorts pairs sorted h up =
    let kept = filter has_value sorted in
    let labels = (and_parts (is_sorted name_cmp kept) (list_all is_label kept) (labels_sorts pairs sorted h up)).1 in
    same_label_set (label_set_of kept) (label_set_of pairs) (λ q.
    label-label_set_of kept q (are_named-labels kept labels)
    ∙ given-labels kept q labels
    ∙ find-filter sorted q (once_in_order sorted (sorted_from_rises sorted up) q)
    ∙ ap (option_and_then non_empty) (sym (find-permuted pairs sorted q h.moved (once_sorts pairs sorted h up q)))
    ∙ sym (label-label_set_of pairs q (named_from_good pairs h.good)))

-- and the set gives what the pairs give
pub given_by_set : (pairs : List Pair) (q : List ℕ) → names_are_good pairs ≡ true → label (label_set_of pairs) q ≡ given pairs q
given_by_set pairs q good = label-label_set_of pairs q (named_from_good pairs good)

-- and their text is that of the set
pub text_sorts : (pairs sorted : List Pair) → Sorts pairs sorted → rises sorted ≡ true → canonical_text (label_set_of pairs) ≡ labels_text (filter has_value sorted)
unfolding canonical_text
text_sorts pairs sorted h up = ap canonical_text (sym (set_sorts pairs sorted h up)) ∙ ap labels_text (labels_of-label_set_of (filter has_value sorted) (labels_sorts pairs sorted h up))
