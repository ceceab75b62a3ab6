-- Numbers that stay, are gone and are new, one part after another.
use Rattle.std.specs.Prelude.{◌≡◌, ℕ, ◌+◌, ◌-◌, ◌≤◌, List, [], ◌++◌}
use Rattle.std.proofs.Common.{sym, ap, subst, ◌∙◌, append_assoc, append-nil as append_nil, arith}
use Rattle.std.specs.List.{range_with_len}
use Rattle.std.specs.List.Sorted.{IsPermutation}
use Rattle.std.proofs.lemmas.List.Sorted.{IsPermutation-refl, IsPermutation-sym, IsPermutation-trans, IsPermutation-append, IsPermutation-append_left, IsPermutation-append_right, IsPermutation-append_comm}
use Rattle.rl_parts.specs.Rewriting.{AreRenumbered}
use Rattle.rl_parts.specs.laws.NoteLaws.{range-append}

-- two pairs of lists, with the inner ones exchanged
pub interchange : {A : Type 0} (a b c d : List A) → IsPermutation ((a ++ b) ++ (c ++ d)) ((a ++ c) ++ (b ++ d))
interchange {A} a b c d =
    let left : (a ++ b) ++ (c ++ d) ≡ a ++ ((b ++ c) ++ d) = append_assoc a b (c ++ d) ∙ ap (λ xs. a ++ xs) (sym (append_assoc b c d)) in
    let right : (a ++ c) ++ (b ++ d) ≡ a ++ ((c ++ b) ++ d) = append_assoc a c (b ++ d) ∙ ap (λ xs. a ++ xs) (sym (append_assoc c b d)) in
    subst (λ (xs : List A). IsPermutation xs ((a ++ c) ++ (b ++ d))) (sym left)
    (subst (λ (ys : List A). IsPermutation (a ++ ((b ++ c) ++ d)) ys) (sym right)
    (IsPermutation-append_right a ((b ++ c) ++ d) ((c ++ b) ++ d) (IsPermutation-append_left d (b ++ c) (c ++ b) (IsPermutation-append_comm b c))))

-- numbers up to one between, and from there on
pub range-through : (first mid next : ℕ) → first ≤ mid → mid ≤ next → range_with_len first (next - first) ≡ range_with_len first (mid - first) ++ range_with_len mid (next - mid)
range-through first mid next le more =
    let many : next - first ≡ (mid - first) + (next - mid) = omega arith in
    let start : first + (mid - first) ≡ mid = omega arith in
    ap (range_with_len first) many ∙ range-append first (mid - first) (next - mid) ∙ ap (λ n. range_with_len first (mid - first) ++ range_with_len n (next - mid)) start

-- no number is new
pub range-none : (first next : ℕ) → next ≡ first → range_with_len first (next - first) ≡ []
range-none first next same = let none : next - first ≡ 0 = omega (arith, same) in ap (range_with_len first) none

-- all numbers stay
pub AreRenumbered-none : (numbers : List ℕ) (first next : ℕ) → next ≡ first → AreRenumbered numbers first next numbers []
AreRenumbered-none numbers first next same =
    let all : numbers ≡ numbers ++ range_with_len first (next - first) = sym (ap (λ ns. numbers ++ ns) (range-none first next same) ∙ append_nil numbers) in
    record {
      up = omega (arith, same);
      stay = numbers;
      before = subst (λ ns. IsPermutation numbers ns) (sym (append_nil numbers)) (IsPermutation-refl numbers);
      now = subst (λ ns. IsPermutation numbers ns) all (IsPermutation-refl numbers);
    }

-- all old ones are gone
pub AreRenumbered-all : (numbers : List ℕ) (first next : ℕ) → first ≤ next → AreRenumbered numbers first next (range_with_len first (next - first)) numbers
AreRenumbered-all numbers first next le = record { up = le; stay = []; before = IsPermutation-refl numbers; now = IsPermutation-refl (range_with_len first (next - first)) }

-- those of some, and then of others
pub AreRenumbered-then : (old new gone : List ℕ) (first mid : ℕ) (others now away : List ℕ) (next : ℕ) → AreRenumbered old first mid new gone → AreRenumbered others mid next now away → AreRenumbered (old ++ others) first next (new ++ now) (gone ++ away)
AreRenumbered-then old new gone first mid others now away next p q = record {
  up = omega (arith, p.up, q.up);
  stay = p.stay ++ q.stay;
  before = IsPermutation-trans _ _ _ (IsPermutation-append old (p.stay ++ gone) others (q.stay ++ away) p.before q.before) (interchange p.stay gone q.stay away);
  now = subst (λ ns. IsPermutation (new ++ now) ((p.stay ++ q.stay) ++ ns)) (sym (range-through first mid next p.up q.up))
      (IsPermutation-trans _ _ _ (IsPermutation-append new (p.stay ++ range_with_len first (mid - first)) now (q.stay ++ range_with_len mid (next - mid)) p.now q.now) (interchange p.stay (range_with_len first (mid - first)) q.stay (range_with_len mid (next - mid))));
}

-- the old numbers and the new ones are those that are there by now and those that are gone
pub AreRenumbered-both : (old : List ℕ) (first next : ℕ) (new gone : List ℕ) → AreRenumbered old first next new gone → IsPermutation (range_with_len first (next - first) ++ old) (new ++ gone)
AreRenumbered-both old first next new gone p =
    let fresh = range_with_len first (next - first) in
    IsPermutation-trans _ _ _ (IsPermutation-append_right fresh old (p.stay ++ gone) p.before)
    (subst (λ ns. IsPermutation ns (new ++ gone)) (append_assoc fresh p.stay gone)
    (IsPermutation-append_left gone (fresh ++ p.stay) new (IsPermutation-trans _ _ _ (IsPermutation-append_comm fresh p.stay) (IsPermutation-sym _ _ p.now))))
