-- Whether something in a map passes a test, by what the map has at its numbers.
use Rattle.std.specs.Prelude.{◌≡◌, ℕ, Bool, true, false, cond, ◌||◌, T, List, [], ◌∷◌, Option, None, Some, refl, map as map_list}
use Rattle.std.specs.FinMap as map
use Rattle.std.specs.FinMap.{FinMap, get-entries, entries_sorted, nat_cmp-IsAntisymmetric}
use Rattle.std.specs.FinMap.Entries.{find, is_sorted, below_all}
use Rattle.std.specs.List.{list_any}
use Rattle.std.specs.Ordering.{nat_cmp, eq_by_cmp, is_eq, is_lt}
use Rattle.std.specs.declared.cmp.Ordering.{Ordering}
use Rattle.std.specs.declared.cmp.Ordering.TheVariants.{Less, Equal, Greater}
use Rattle.std.proofs.Common.{sym, ap, subst, ◌∙◌}
use Rattle.std.proofs.lemmas.Bool.{and_parts, true≢false}
use Rattle.std.proofs.lemmas.Cmp.{nat_cmp_total, tied_itself}
use Rattle.rl_plain.specs.laws.Bools.{true_from}

equal_from : (o : Ordering) → is_eq o ≡ true → o ≡ Equal
equal_from Less e = absurd (true≢false (sym e))
equal_from Equal e = refl
equal_from Greater e = absurd (true≢false (sym e))

not_less : (o : Ordering) → is_eq o ≡ true → is_lt o ≡ false
not_less Less e = absurd (true≢false (sym e))
not_less Equal e = refl
not_less Greater e = refl

-- numbers that tie are one
pub tied_one : (q x : ℕ) → eq_by_cmp nat_cmp q x ≡ true → q ≡ x
tied_one q x e = nat_cmp-IsAntisymmetric q x (equal_from (nat_cmp q x) e)

pub tied_self : (x : ℕ) → eq_by_cmp nat_cmp x x ≡ true
tied_self x = ap is_eq (tied_itself nat_cmp_total x)

pub same_bool : (a b : Bool) → (a ≡ true → b ≡ true) → (b ≡ true → a ≡ true) → a ≡ b
same_bool true b to from = sym (to refl)
same_bool false true to from = from refl
same_bool false false to from = refl

pub or_second : (a b : Bool) → b ≡ true → (a || b) ≡ true
or_second true b e = refl
or_second false b e = e

-- whether there is a value, and it passes the test
abbrev pub passes_at : {X : Type 0} → (X → Bool) → Option X → Bool
passes_at p None = false
passes_at p (Some x) = p x

module _ {X : Type 0} where
  -- a number below all others is not found among them
  below_missed : (x : ℕ) (es : List (ℕ × X)) → below_all nat_cmp x es ≡ true → find nat_cmp x es ≡ None
  below_missed x [] below = refl
  below_missed x (e ∷ es) below =
      let parts = and_parts (is_lt (nat_cmp x e.0)) (below_all nat_cmp x es) below in
      elim (eq_by_cmp nat_cmp x e.0) as (λ b. eq_by_cmp nat_cmp x e.0 ≡ b → cond b (Some e.1) (find nat_cmp x es) ≡ None) [
        | true ↦ λ is. absurd (true≢false (sym parts.0 ∙ not_less (nat_cmp x e.0) is))
        | false ↦ λ is. below_missed x es parts.1
      ] refl

  -- what passes at its number is among the entries that pass
  passing_among : (f : ℕ → X → Bool) (es : List (ℕ × X)) (q : ℕ) → passes_at (f q) (find nat_cmp q es) ≡ true → list_any (λ e. f e.0 e.1) es ≡ true
  passing_among f [] q passes = absurd (true≢false (sym passes))
  passing_among f (e ∷ es) q passes =
      elim (eq_by_cmp nat_cmp q e.0) as (λ b. eq_by_cmp nat_cmp q e.0 ≡ b → passes_at (f q) (cond b (Some e.1) (find nat_cmp q es)) ≡ true → (f e.0 e.1 || list_any (λ e. f e.0 e.1) es) ≡ true) [
        | true ↦ λ is passes. ap (λ b. b || list_any (λ e. f e.0 e.1) es) (ap (λ n. f n e.1) (sym (tied_one q e.0 is)) ∙ passes)
        | false ↦ λ is passes. or_second (f e.0 e.1) _ (passing_among f es q passes)
      ] refl passes

  -- what passes at its number among entries in order does so with one more in front
  later : (f : ℕ → X → Bool) (e : ℕ × X) (es : List (ℕ × X)) → below_all nat_cmp e.0 es ≡ true → (q : ℕ) × (passes_at (f q) (find nat_cmp q es) ≡ true) → (q : ℕ) × (passes_at (f q) (find nat_cmp q (e ∷ es)) ≡ true)
  later f e es below (q, passes) =
      elim (eq_by_cmp nat_cmp q e.0) as (λ b. eq_by_cmp nat_cmp q e.0 ≡ b → (q : ℕ) × (passes_at (f q) (find nat_cmp q (e ∷ es)) ≡ true)) [
        | true ↦ λ is. absurd (true≢false (sym passes ∙ ap (passes_at (f q)) (subst (λ n. find nat_cmp n es ≡ None) (sym (tied_one q e.0 is)) (below_missed e.0 es below))))
        | false ↦ λ is. (q, ap (λ b. passes_at (f q) (cond b (Some e.1) (find nat_cmp q es))) is ∙ passes)
      ] refl

  -- and of entries in order each that passes does so at its number
  passing_at : (f : ℕ → X → Bool) (es : List (ℕ × X)) → is_sorted nat_cmp es ≡ true → list_any (λ e. f e.0 e.1) es ≡ true → (q : ℕ) × (passes_at (f q) (find nat_cmp q es) ≡ true)
  passing_at f [] sorted any = absurd (true≢false (sym any))
  passing_at f (e ∷ es) sorted any =
      let parts = and_parts (below_all nat_cmp e.0 es) (is_sorted nat_cmp es) sorted in
      elim (f e.0 e.1) as (λ b. f e.0 e.1 ≡ b → (b || list_any (λ e. f e.0 e.1) es) ≡ true → (q : ℕ) × (passes_at (f q) (find nat_cmp q (e ∷ es)) ≡ true)) [
        | true ↦ λ is any. (e.0, ap (λ b. passes_at (f e.0) (cond b (Some e.1) (find nat_cmp e.0 es))) (tied_self e.0) ∙ is)
        | false ↦ λ is any. later f e es parts.0 (passing_at f es parts.1 any)
      ] refl any

  pub any_values : (g : X → Bool) (es : List (ℕ × X)) → list_any g (map_list (λ e. e.1) es) ≡ list_any (λ e. g e.1) es
  any_values g [] = refl
  any_values g (e ∷ es) = ap (λ b. g e.1 || b) (any_values g es)

  -- where something passes, it does so at a number
  pub passing_number : (g : X → Bool) (m : FinMap nat_cmp X) → list_any g (map.values m) ≡ true → (q : ℕ) × (passes_at g (map.get m q) ≡ true)
  passing_number g m any =
      let there = passing_at (λ _. g) (map.entries m) (true_from _ (entries_sorted m)) (sym (any_values g (map.entries m)) ∙ any) in
      (there.0, ap (passes_at g) (get-entries m there.0) ∙ there.1)

  -- and what passes at a number passes
  pub passing_value : (g : X → Bool) (m : FinMap nat_cmp X) (q : ℕ) → passes_at g (map.get m q) ≡ true → list_any g (map.values m) ≡ true
  passing_value g m q passes = any_values g (map.entries m) ∙ passing_among (λ _. g) (map.entries m) q (ap (passes_at g) (sym (get-entries m q)) ∙ passes)

  -- something passes among entries in order where it does in a map, if the same passes at each number
  pub any_alike : (f : ℕ → X → Bool) (g : X → Bool) (es : List (ℕ × X)) (m : FinMap nat_cmp X) → T (is_sorted nat_cmp es) → ((q : ℕ) → passes_at (f q) (find nat_cmp q es) ≡ passes_at g (map.get m q)) → list_any (λ e. f e.0 e.1) es ≡ list_any g (map.values m)
  any_alike f g es m sorted alike = same_bool _ _
      (λ any. let there = passing_at f es (true_from _ sorted) any in passing_value g m there.0 (sym (alike there.0) ∙ there.1))
      (λ any. let there = passing_number g m any in passing_among f es there.0 (alike there.0 ∙ there.1))
