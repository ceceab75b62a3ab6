-- What requests cover, also when one is added or ended.
use Rattle.std.specs.Prelude.{◌≡◌, ℕ, Bool, true, false, cond, ◌&&◌, ◌||◌, Option, None, Some, IsSome, refl}
use Rattle.std.specs.FinMap as map
use Rattle.std.specs.FinMap.{get-insert, get-remove}
use Rattle.std.specs.Ordering.{nat_cmp, eq_by_cmp}
use Rattle.std.proofs.Common.{sym, ap, ◌∙◌}
use Rattle.std.proofs.lemmas.Bool.{true≢false}
use Rattle.std.proofs.lemmas.Cmp.{nat_cmp_total}
use Rattle.rl_labels.specs.declared.entry.Entry.{Entry}
use Rattle.rl_deletes.specs.Deletes.{RequestsView, covered, covered_beside, covers_one, ended, ended_from, if_received, with_status, is_in_force, is_received, received_at, with_request}
use Rattle.rl_deletes.specs.declared.request.RequestStatus.{RequestStatus}
use Rattle.rl_deletes.specs.declared.request.Request.{Request}
use Rattle.rl_deletes.specs.laws.Passing.{passes_at, passing_number, passing_value, same_bool, or_second, tied_one, tied_self}

-- the request is received and covers the entry
abbrev pub covers_if_received : Entry → Request → Bool
covers_if_received entry request = is_received request && covers_one request entry

or_from : (a b : Bool) {P : Type 0} → (a || b) ≡ true → (a ≡ true → P) → (b ≡ true → P) → P
or_from true b e first second = first refl
or_from false b e first second = second e

or_first : (a b : Bool) → a ≡ true → (a || b) ≡ true
or_first a b e = ap (λ a. a || b) e

module _ (all : RequestsView) (id : ℕ) (entry : Entry) where
  -- what another than the numbered request covers
  covers_other : (q : ℕ) → eq_by_cmp nat_cmp q id ≡ false → passes_at (covers_if_received entry) (map.get all.requests q) ≡ true → covered_beside all id entry ≡ true
  covers_other q apart passes = passing_value (covers_if_received entry) (map.remove all.requests id) q
      (ap (passes_at (covers_if_received entry)) (get-remove nat_cmp_total all.requests id q ∙ ap (λ b. cond b None (map.get all.requests q)) apart) ∙ passes)

  other_covers : covered_beside all id entry ≡ true → (q : ℕ) × (eq_by_cmp nat_cmp q id ≡ false) × (passes_at (covers_if_received entry) (map.get all.requests q) ≡ true)
  other_covers any =
      let there = passing_number (covers_if_received entry) (map.remove all.requests id) any in
      split there.0 (eq_by_cmp nat_cmp there.0 id) refl (sym (ap (passes_at (covers_if_received entry)) (get-remove nat_cmp_total all.requests id there.0)) ∙ there.1)
    where
      split : (q : ℕ) (b : Bool) → eq_by_cmp nat_cmp q id ≡ b → passes_at (covers_if_received entry) (cond b None (map.get all.requests q)) ≡ true → (q : ℕ) × (eq_by_cmp nat_cmp q id ≡ false) × (passes_at (covers_if_received entry) (map.get all.requests q) ≡ true)
      split q true is passes = absurd (true≢false (sym passes))
      split q false is passes = (q, is, passes)

  -- with a request under the number, what it covers or another does
  pub covered-with_request : (request : Request) → covered (with_request all id request) entry ≡ (covers_if_received entry request || covered_beside all id entry)
  covered-with_request request = same_bool _ _
      (λ any.
      let there = passing_number (covers_if_received entry) (map.insert all.requests id request) any in
      split there.0 (eq_by_cmp nat_cmp there.0 id) refl (sym (ap (passes_at (covers_if_received entry)) (get-insert nat_cmp_total all.requests id request there.0)) ∙ there.1))
      (λ any. or_from (covers_if_received entry request) (covered_beside all id entry) any
      (λ here. passing_value (covers_if_received entry) (map.insert all.requests id request) id (at id ∙ ap (λ b. passes_at (covers_if_received entry) (cond b (Some request) (map.get all.requests id))) (tied_self id) ∙ here))
      (λ beside.
      let other = other_covers beside in
      passing_value (covers_if_received entry) (map.insert all.requests id request) other.0 (at other.0 ∙ ap (λ b. passes_at (covers_if_received entry) (cond b (Some request) (map.get all.requests other.0))) other.1 ∙ other.2)))
    where
      at : (q : ℕ) → passes_at (covers_if_received entry) (map.get (map.insert all.requests id request) q) ≡ passes_at (covers_if_received entry) (cond (eq_by_cmp nat_cmp q id) (Some request) (map.get all.requests q))
      at q = ap (passes_at (covers_if_received entry)) (get-insert nat_cmp_total all.requests id request q)

      split : (q : ℕ) (b : Bool) → eq_by_cmp nat_cmp q id ≡ b → passes_at (covers_if_received entry) (cond b (Some request) (map.get all.requests q)) ≡ true → (covers_if_received entry request || covered_beside all id entry) ≡ true
      split q true is passes = or_first (covers_if_received entry request) (covered_beside all id entry) passes
      split q false is passes = or_second (covers_if_received entry request) (covered_beside all id entry) (covers_other q is passes)

  -- whether the numbered request covers it, if it is received
  abbrev pub covers_at : Option Request → Bool
  covers_at known = passes_at (λ request. covers_one request entry) (if_received known)

  at_received : (known : Option Request) → covers_at known ≡ passes_at (covers_if_received entry) known
  at_received None = refl
  at_received (Some request) = elim (is_received request) as (λ b. passes_at (λ request. covers_one request entry) (cond b (Some request) None) ≡ (b && covers_one request entry)) [ true ↦ refl | false ↦ refl ]

  -- what is covered is what the numbered request covers and what another does
  pub covered-parts : covered all entry ≡ (covers_at (map.get all.requests id) || covered_beside all id entry)
  covered-parts = same_bool _ _
      (λ any.
      let there = passing_number (covers_if_received entry) all.requests any in
      split there.0 (eq_by_cmp nat_cmp there.0 id) refl there.1)
      (λ any. or_from (covers_at (map.get all.requests id)) (covered_beside all id entry) any
      (λ here. passing_value (covers_if_received entry) all.requests id (sym (at_received (map.get all.requests id)) ∙ here))
      (λ beside. let other = other_covers beside in passing_value (covers_if_received entry) all.requests other.0 other.2))
    where
      split : (q : ℕ) (b : Bool) → eq_by_cmp nat_cmp q id ≡ b → passes_at (covers_if_received entry) (map.get all.requests q) ≡ true → (covers_at (map.get all.requests id) || covered_beside all id entry) ≡ true
      split q true is passes = or_first (covers_at (map.get all.requests id)) (covered_beside all id entry) (at_received (map.get all.requests id) ∙ ap (λ n. passes_at (covers_if_received entry) (map.get all.requests n)) (sym (tied_one q id is)) ∙ passes)
      split q false is passes = or_second (covers_at (map.get all.requests id)) (covered_beside all id entry) (covers_other q is passes)

  -- where no request has the number, the others cover all that is covered
  pub hidden-new : map.get all.requests id ≡ None → covered_beside all id entry ≡ covered all entry
  hidden-new new = sym (covered-parts ∙ ap (λ known. covers_at known || covered_beside all id entry) new)

  -- a request under a number that is new covers besides what was covered before
  pub covered-new : (request : Request) → map.get all.requests id ≡ None → covered (with_request all id request) entry ≡ (covers_if_received entry request || covered all entry)
  covered-new request new = covered-with_request request ∙ ap (λ b. covers_if_received entry request || b) (hidden-new new)

  -- where a received request is ended, what others cover stays covered
  pub covered-ended : (status : RequestStatus) → is_in_force status ≡ false → IsSome (received_at all id) → covered (ended status all id) entry ≡ covered_beside all id entry
  covered-ended status over some = from (map.get all.requests id) some
    where
      from : (known : Option Request) → IsSome (if_received known) → covered (ended_from known status all id) entry ≡ covered_beside all id entry
      from None some = absurd (true≢false (sym some))
      from (Some request) some =
          elim (is_received request) as (λ b. IsSome (cond b (Some request) None) → covered (cond b (with_request all id (with_status status request)) all) entry ≡ covered_beside all id entry) [
            | true ↦ λ _. covered-with_request (with_status status request) ∙ ap (λ b. (b && covers_one request entry) || covered_beside all id entry) over
            | false ↦ λ none. absurd (true≢false (sym none))
          ] some
