-- What windows visit that stand for entries is no more than the entries say.
use Rattle.std.proofs.Common.{◌≡◌, inl, inr, ℕ, ◌+◌, ◌*◌, ◌≤◌, nat_eq, nat_le, nat_lt, Bool, true, false, cond, not, ◌&&◌, ◌||◌, List, [], ◌∷◌, drop, get_or, map, length, Some, refl, sym, ap, subst, ◌∙◌, arith}
use Rattle.std.specs.Cmp.{nat_eq_equiv}
use Rattle.std.specs.FinMap as finmap
use Rattle.std.specs.List.{filter, sum_by}
use Rattle.std.specs.Option.{IfSome, option_map}
use Rattle.std.specs.Prelude.{slice_get}
use Rattle.std.specs.Set.{distinct_count, is_member, unique_keys}
use Rattle.std.proofs.lemmas.Bool.{and_from, and_parts, eq-eqb, eqb-true, false_from_ne_true, le-leb, leb-true, ltb-true, not_from_false, or_left, or_right, true≢false}
use Rattle.std.proofs.lemmas.List.Sums.{count_by-le-length, length-filter, sum_by-cons, sum_by-drop_more, sum_by-le-sum_by}
use Rattle.std.proofs.lemmas.Option.{same_Some, slice_get-get_or, slice_get-map, slice_get_within}
use Rattle.std.proofs.lemmas.Map.Made.{is_member-filter}
use Rattle.rl_labels.specs.declared.entry.Entry.{Entry}
use Rattle.rl_query.specs.declared.query.Term.{Term}
use Rattle.rl_aggregate.specs.InRange.{second}
use Rattle.rl_aggregate.specs.declared.volume.Volume.{Volume}
use Rattle.rl_windows.specs.Buckets.{Lines, volume_of, AreAlike, AreShort}
use Rattle.rl_windows.specs.Ranges.{elements_for}
use Rattle.rl_windows.specs.Windows.{first_needed, is_between, is_needed, lines_of, moments, visits, StandsFor}
use Rattle.rl_windows.specs.laws.Alike.{alike-filter, all-filter, have-lines, volume_of-filter, HaveLines}
use Rattle.rl_windows.specs.declared.element.Stamp.{Stamp}
use Rattle.rl_windows.specs.declared.range.RangeCode.{RangeCode}
use Rattle.rl_slots.specs.Slots.{key_of, term_key, visits_by, visits_for, AreExactIn, ArePicked}
use Rattle.rl_slots.specs.declared.range_window.RangeWindow.{RangeWindow}

-- DIFFERENT NUMBERS

-- each number is among those that are listed once
listed_once : (q : ℕ) (xs : List ℕ) → is_member nat_eq xs q ≡ true → is_member nat_eq (unique_keys nat_eq xs) q ≡ true
listed_once q [] is = is
listed_once q (x ∷ xs) is =
    elim (is_member nat_eq xs x) as (λ b. is_member nat_eq xs x ≡ b → is_member nat_eq (cond b (unique_keys nat_eq xs) (x ∷ unique_keys nat_eq xs)) q ≡ true) [
      | true ↦ λ again. listed_once q xs (later again (nat_eq q x) refl is)
      | false ↦ λ _. here (listed_once q xs) (nat_eq q x) is
    ] refl
  where
    later : is_member nat_eq xs x ≡ true → (b : Bool) → nat_eq q x ≡ b → (b || is_member nat_eq xs q) ≡ true → is_member nat_eq xs q ≡ true
    later again true same is = ap (λ n. is_member nat_eq xs n) (eqb-true q x same) ∙ again
    later again false same is = is

    here : (is_member nat_eq xs q ≡ true → is_member nat_eq (unique_keys nat_eq xs) q ≡ true) → (b : Bool) → (b || is_member nat_eq xs q) ≡ true → (b || is_member nat_eq (unique_keys nat_eq xs) q) ≡ true
    here listed true is = refl
    here listed false is = listed is

-- without a number that is there a list is shorter
shorter : (x : ℕ) (xs : List ℕ) → is_member nat_eq xs x ≡ true → length (filter (λ y. not (nat_eq x y)) xs) + 1 ≤ length xs
shorter x [] is = absurd (true≢false (sym is))
shorter x (y ∷ xs) is = by (shorter x xs) (nat_eq x y) is
  where
    rest : List ℕ
    rest = filter (λ y. not (nat_eq x y)) xs

    by : (is_member nat_eq xs x ≡ true → length rest + 1 ≤ length xs) → (b : Bool) → (b || is_member nat_eq xs x) ≡ true → length (cond (not b) (y ∷ rest) rest) + 1 ≤ length (y ∷ xs)
    by less true is = omega (arith, length-filter (λ y. not (nat_eq x y)) xs, count_by-le-length (λ y. not (nat_eq x y)) xs)
    by less false is = omega (arith, less is)

-- numbers that are all listed are at most as many as the list is long
among_listed : (xs ys : List ℕ) → ((q : ℕ) → is_member nat_eq xs q ≡ true → is_member nat_eq ys q ≡ true) → distinct_count nat_eq xs ≤ length ys
among_listed [] ys all = omega arith
among_listed (x ∷ xs) ys all =
    elim (is_member nat_eq xs x) as (λ b. is_member nat_eq xs x ≡ b → length (cond b (unique_keys nat_eq xs) (x ∷ unique_keys nat_eq xs)) ≤ length ys) [
      | true ↦ λ _. among_listed xs ys (λ q is. all q (or_right (nat_eq q x) (is_member nat_eq xs q) is))
      | false ↦ λ new. omega (
        arith,
        among_listed xs (filter (λ y. not (nat_eq x y)) ys) (λ q is. stays q (all q (or_right (nat_eq q x) (is_member nat_eq xs q) is)) (other q new is)),
        shorter x ys (all x (or_left (nat_eq x x) (is_member nat_eq xs x) (eq-eqb x x refl))),
      )
    ] refl
  where
    other : (q : ℕ) → is_member nat_eq xs x ≡ false → is_member nat_eq xs q ≡ true → nat_eq x q ≡ false
    other q new is = false_from_ne_true (nat_eq x q) (λ same. true≢false (sym is ∙ ap (λ n. is_member nat_eq xs n) (sym (eqb-true x q same)) ∙ new))

    stays : (q : ℕ) → is_member nat_eq ys q ≡ true → nat_eq x q ≡ false → is_member nat_eq (filter (λ y. not (nat_eq x y)) ys) q ≡ true
    stays q is apart =
        is_member-filter nat_eq_equiv (λ y. not (nat_eq x y)) q (λ y same. ap (λ n. not (nat_eq x n)) (eqb-true q y same)) ys
        ∙ and_from (is_member nat_eq ys q) (not (nat_eq x q)) is (not_from_false (nat_eq x q) apart)

-- so they are at most as many as the different ones of the list
distinct-among : (xs ys : List ℕ) → ((q : ℕ) → is_member nat_eq xs q ≡ true → is_member nat_eq ys q ≡ true) → distinct_count nat_eq xs ≤ distinct_count nat_eq ys
distinct-among xs ys all = among_listed xs (unique_keys nat_eq ys) (λ q is. listed_once q ys (all q is))

-- TIMESTAMPS

abbrev is_at : ℕ → Stamp → Bool
is_at q stamp = nat_eq q stamp.timestamp

abbrev times : Lines → List ℕ
times lines = map (λ line. line.0.timestamp) lines

count-cons : (test : Stamp → Bool) (line : Stamp × Volume) (lines : Lines) → (volume_of test (line ∷ lines)).count ≡ cond (test line.0) line.1.count 0 + (volume_of test lines).count
count-cons test line lines = sum_by-cons (λ line. cond (test line.0) line.1.count 0) line lines

-- lines of a timestamp that they have count, and where lines of it count they have it
times_count : (q : ℕ) (lines : Lines) → HaveLines lines → is_member nat_eq (times lines) q ≡ true → 1 ≤ (volume_of (is_at q) lines).count
times_count q [] have is = absurd (true≢false (sym is))
times_count q (line ∷ lines) have is =
    elim (nat_eq q line.0.timestamp) as (λ b. (b || is_member nat_eq (times lines) q) ≡ true → cond b line.1.count 0 + (volume_of (is_at q) lines).count ≡ (volume_of (is_at q) (line ∷ lines)).count → 1 ≤ (volume_of (is_at q) (line ∷ lines)).count) [
      | true ↦ λ _ sum. omega (arith, have.0, sum)
      | false ↦ λ later sum. omega (arith, times_count q lines have.1 later, sum)
    ] is (sym (count-cons (is_at q) line lines))

times_there : (q : ℕ) (lines : Lines) → 1 ≤ (volume_of (is_at q) lines).count → is_member nat_eq (times lines) q ≡ true
times_there q [] some = absurd (omega (arith, some))
times_there q (line ∷ lines) some =
    elim (nat_eq q line.0.timestamp) as (λ b. cond b line.1.count 0 + (volume_of (is_at q) lines).count ≡ (volume_of (is_at q) (line ∷ lines)).count → (b || is_member nat_eq (times lines) q) ≡ true) [
      | true ↦ λ _. refl
      | false ↦ λ sum. times_there q lines (omega (arith, some, sum))
    ] (sym (count-cons (is_at q) line lines))

module _ (needed first other : Stamp → Bool) (follows : (stamp : Stamp) → needed stamp ≡ true → first stamp ≡ true → other stamp ≡ true) where
  part : (a b c d : Bool) (n : ℕ) → (a ≡ true → b ≡ true → c ≡ true) → cond (a && (b && d)) n 0 ≤ cond (c && d) n 0
  part true true c d n so = subst (λ c. cond d n 0 ≤ cond (c && d) n 0) (sym (so refl refl)) (omega arith)
  part true false c d n so = omega arith
  part false b c d n so = omega arith

  -- buckets that have the needed ones of lines have no other timestamps
  moments-few : (buckets lines : Lines) → HaveLines buckets → AreAlike buckets (filter (λ line. needed line.0) lines) → moments (filter (λ line. first line.0) buckets) ≤ moments (filter (λ line. other line.0) lines)
  moments-few buckets lines have alike = distinct-among (times (filter (λ line. first line.0) buckets)) (times (filter (λ line. other line.0) lines)) (λ q is. times_there q (filter (λ line. other line.0) lines) (counted q is))
    where
      counted : (q : ℕ) → is_member nat_eq (times (filter (λ line. first line.0) buckets)) q ≡ true → 1 ≤ (volume_of (is_at q) (filter (λ line. other line.0) lines)).count
      counted q is =
          let own = times_count q (filter (λ line. first line.0) buckets) (all-filter (λ line. 1 ≤ line.1.count) first buckets have) is in
          let same =
          alike-filter first buckets (filter (λ line. needed line.0) lines) alike (is_at q)
          ∙ volume_of-filter first (is_at q) (filter (λ line. needed line.0) lines)
          ∙ volume_of-filter needed (λ stamp. first stamp && is_at q stamp) lines in
          let fewer = sum_by-le-sum_by (λ line. cond (needed line.0 && (first line.0 && is_at q line.0)) line.1.count 0) (λ line. cond (other line.0 && is_at q line.0) line.1.count 0) lines
          (λ line. part (needed line.0) (first line.0) (other line.0) (is_at q line.0) line.1.count (follows line.0)) in
          omega (arith, own, ap (λ v. v.count) same, fewer, ap (λ v. v.count) (volume_of-filter other (is_at q) lines))

-- WINDOWS

module _ (seconds moment since t : ℕ) (early : since ≤ moment) where
  came_due : (stamp : Stamp) → is_needed seconds moment stamp ≡ true → is_between (moment + 1) (t + 1) stamp ≡ true → is_between (since + 1) (t + 1) stamp ≡ true
  came_due stamp _ is =
      let parts = and_parts (nat_le (moment + 1) stamp.timestamp) (nat_lt stamp.timestamp (t + 1)) is in
      and_from (nat_le (since + 1) stamp.timestamp) (nat_lt stamp.timestamp (t + 1)) (le-leb (since + 1) stamp.timestamp (omega (arith, early, leb-true (moment + 1) stamp.timestamp parts.0))) parts.1

  left : (stamp : Stamp) → is_needed seconds moment stamp ≡ true → is_between 0 (first_needed seconds t) stamp ≡ true → is_between (first_needed seconds since) (first_needed seconds t) stamp ≡ true
  left stamp needed is =
      let parts = and_parts (nat_le 0 stamp.timestamp) (nat_lt stamp.timestamp (first_needed seconds t)) is in
      and_from (nat_le (first_needed seconds since) stamp.timestamp) (nat_lt stamp.timestamp (first_needed seconds t))
      (le-leb (first_needed seconds since) stamp.timestamp (omega (arith, early, ltb-true moment (stamp.timestamp + seconds * second) needed))) parts.1

-- a window at a moment or a later one that stands for what entries add to it visits no more than what came due of these after the
-- moment, and what left
pub visits-few : (it : RangeWindow) (entries : List Entry) (since t : ℕ) → since ≤ it.window.moment → AreShort (finmap.entries it.window.buckets) → StandsFor it.window (elements_for it.code entries) → visits it.window t ≤ visits_by entries since t (key_of it)
visits-few it entries since t early short stands =
    let w = it.window in
    let lines = lines_of (elements_for it.code entries) in
    let have = have-lines (finmap.entries w.buckets) short in
    omega (
      arith,
      moments-few (is_needed w.seconds w.moment) (is_between (w.moment + 1) (t + 1)) (is_between (since + 1) (t + 1)) (came_due w.seconds w.moment since t early) (finmap.entries w.buckets) lines have stands.1,
      moments-few (is_needed w.seconds w.moment) (is_between 0 (first_needed w.seconds t)) (is_between (first_needed w.seconds since) (first_needed w.seconds t)) (left w.seconds w.moment since t early) (finmap.entries w.buckets) lines have stands.1,
    )

-- windows that stand for what entries add to them, and one of them
pub stands_at : (windows : List RangeWindow) (entries : List Entry) (k : ℕ) (it : RangeWindow) → slice_get windows k ≡ Some it → AreExactIn windows entries → StandsFor it.window (elements_for it.code entries)
stands_at windows entries k it there exact = subst (λ o. IfSome o (λ it. StandsFor it.window (elements_for it.code entries))) there (exact k)

-- SUMS

picked-sum : {X : Type 0} (f : X → ℕ) (items others : List X) → ArePicked items others → sum_by f items ≤ sum_by f others
picked-sum f [] others picked = omega arith
picked-sum f (item ∷ items) [] picked = absurd picked
picked-sum f (item ∷ items) (other ∷ others) (inl here) =
    omega (arith, sum_by-cons f item items, sum_by-cons f other others, ap f here.0, picked-sum f items others here.1)
picked-sum f (item ∷ items) (other ∷ others) (inr later) =
    omega (arith, sum_by-cons f other others, picked-sum f (item ∷ items) others later)

terms-sum : (f : RangeCode × ℕ → ℕ) (terms : List Term) → sum_by f (map term_key terms) ≡ sum_by (λ term. f (term_key term)) terms
terms-sum f [] = refl
terms-sum f (term ∷ terms) = sum_by-cons f (term_key term) (map term_key terms) ∙ ap (λ n. f (term_key term) + n) (terms-sum f terms) ∙ sym (sum_by-cons (λ term. f (term_key term)) term terms)

-- windows of ranges of terms visit no more than the terms
pub terms-visits : (windows : List RangeWindow) (terms : List Term) (entries : List Entry) (since t : ℕ) → ArePicked (map key_of windows) (map term_key terms) → sum_by (visits_by entries since t) (map key_of windows) ≤ sum_by (visits_for entries since t) terms
terms-visits windows terms entries since t picked = omega (arith, picked-sum (visits_by entries since t) (map key_of windows) (map term_key terms) picked, terms-sum (visits_by entries since t) terms)

-- one window more visited no more than its range may
pub visits-more : (f : RangeCode × ℕ → ℕ) (old windows : List RangeWindow) (k : ℕ) (it : RangeWindow) → slice_get windows k ≡ Some it → map key_of windows ≡ map key_of old → (own before so_far after : ℕ) → own ≤ f (key_of it) → after ≤ so_far + own
    → so_far + sum_by f (drop k (map key_of old)) ≤ before + sum_by f (map key_of old) → after + sum_by f (drop (k + 1) (map key_of old)) ≤ before + sum_by f (map key_of old)
visits-more f old windows k it there ranges own before so_far after few more left =
    let keys = map key_of old in
    let key : slice_get keys k ≡ Some (key_of it) = ap (λ keys. slice_get keys k) (sym ranges) ∙ slice_get-map key_of windows k ∙ ap (option_map key_of) there in
    let within = slice_get_within keys k (key_of it) key in
    let here : get_or keys k (key_of it) ≡ key_of it = same_Some _ (key_of it) (sym (slice_get-get_or keys k (key_of it) within) ∙ key) in
    omega (arith, few, more, left, sum_by-drop_more f keys k (key_of it) within, ap f here)
